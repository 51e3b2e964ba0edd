-- What a reference gives is some bytes.
use Rattle.std.proofs.Common.{◌≡◌, ℕ, Bool, true, false, ◌==◌, ◌&&◌, List, [], ◌∷◌, ◌++◌, drop, length, Option, Some, None, refl, sym, subst, inl, inr, true≢false, if◌then◌else◌}
use Rattle.std.specs.Prelude.{⊤, nat_lt}
use Rattle.std.specs.Char.{encode_utf8}
use Rattle.std.specs.List.{list_all, starts_with}
use Rattle.std.proofs.lemmas.Bool.{and_parts, cases_Bool, cond_both}
use Rattle.tl_names.specs.References.{table_of}
use Rattle.tl_html_spec.specs.References.{Reference, Row, first_row, is_left, is_no_character, named, named_reference, named_value, number_value, resolved, rows, windows_1252}
use Rattle.tl_html_spec.specs.Sound.{IsSome}

abbrev is_some_row : Row → Bool
is_some_row (name, []) = false
is_some_row (name, b ∷ bytes) = true

choose : (v : Bool) (x y : List ℕ) → list_all is_some_row (rows x) ≡ true → list_all is_some_row (rows y) ≡ true → list_all is_some_row (rows (if v then x else y)) ≡ true
choose true x y h k = h
choose false x y h k = k

tables_are : (b : ℕ) → list_all is_some_row (rows (table_of b)) ≡ true
tables_are b =
    (choose (b == 65) _ _ refl
    (choose (b == 66) _ _ refl
    (choose (b == 67) _ _ refl
    (choose (b == 68) _ _ refl
    (choose (b == 69) _ _ refl
    (choose (b == 70) _ _ refl
    (choose (b == 71) _ _ refl
    (choose (b == 72) _ _ refl
    (choose (b == 73) _ _ refl
    (choose (b == 74) _ _ refl
    (choose (b == 75) _ _ refl
    (choose (b == 76) _ _ refl
    (choose (b == 77) _ _ refl
    (choose (b == 78) _ _ refl
    (choose (b == 79) _ _ refl
    (choose (b == 80) _ _ refl
    (choose (b == 81) _ _ refl
    (choose (b == 82) _ _ refl
    (choose (b == 83) _ _ refl
    (choose (b == 84) _ _ refl
    (choose (b == 85) _ _ refl
    (choose (b == 86) _ _ refl
    (choose (b == 87) _ _ refl
    (choose (b == 88) _ _ refl
    (choose (b == 89) _ _ refl
    (choose (b == 90) _ _ refl
    (choose (b == 97) _ _ refl
    (choose (b == 98) _ _ refl
    (choose (b == 99) _ _ refl
    (choose (b == 100) _ _ refl
    (choose (b == 101) _ _ refl
    (choose (b == 102) _ _ refl
    (choose (b == 103) _ _ refl
    (choose (b == 104) _ _ refl
    (choose (b == 105) _ _ refl
    (choose (b == 106) _ _ refl
    (choose (b == 107) _ _ refl
    (choose (b == 108) _ _ refl
    (choose (b == 109) _ _ refl
    (choose (b == 110) _ _ refl
    (choose (b == 111) _ _ refl
    (choose (b == 112) _ _ refl
    (choose (b == 113) _ _ refl
    (choose (b == 114) _ _ refl
    (choose (b == 115) _ _ refl
    (choose (b == 116) _ _ refl
    (choose (b == 117) _ _ refl
    (choose (b == 118) _ _ refl
    (choose (b == 119) _ _ refl
    (choose (b == 120) _ _ refl
    (choose (b == 121) _ _ refl
    (choose (b == 122) _ _ refl
    refl))))))))))))))))))))))))))))))))))))))))))))))))))))

row_some : (row : Row) → is_some_row row ≡ true → IsSome row.1
row_some (name, []) h = absurd (true≢false (sym h))
row_some (name, b ∷ bytes) h = tt

first_some : (rs : List Row) (letters : List ℕ) (row : Row) → list_all is_some_row rs ≡ true → first_row rs letters ≡ Some row → IsSome row.1
first_some [] letters row h e = cc
first_some (r ∷ rs) letters row h e =
    let p = and_parts (is_some_row r) (list_all is_some_row rs) h in
    elim (cases_Bool (starts_with ◌==◌ letters r.0)) [
      | inl y ↦ (
          let one : Some r ≡ Some row = rw y at e in
          let is : r ≡ row = cc in
          subst (λ (x : Row). IsSome x.1) is (row_some r p.0))
      | inr n ↦ (
          let more : first_row rs letters ≡ Some row = rw n at e in
          first_some rs letters row p.1 more)
    ]

named_some : (letters : List ℕ) (row : Row) → named letters ≡ Some row → IsSome row.1
named_some [] row e = cc
named_some (b ∷ letters) row e = first_some (rows (table_of b)) (b ∷ letters) row (tables_are b) e

-- a reference that gives some bytes, if there is one
abbrev GivesSome : Option Reference → Type 0
GivesSome None = ⊤
GivesSome (Some r) = IsSome r.gives

with_row : (v : Bool) (s : List ℕ) (o : Option Row) → ((row : Row) → o ≡ Some row → IsSome row.1) →
    GivesSome (elim o as (λ _. Option Reference) [
      | None ↦ None
      | Some row ↦ if v && is_left row.0 (drop (length row.0) s) then None else Some (record { gives = row.1; takes = length row.0 })
    ])
with_row v s None h = tt
with_row v s (Some row) h = cond_both (v && is_left row.0 (drop (length row.0) s)) _ _ GivesSome (λ _. tt) (λ _. h row refl)

reference_some : (v : Bool) (s : List ℕ) → GivesSome (named_reference v s)
reference_some v s = with_row v s (named s) (λ row e. named_some s row e)

append_some : (x y : List ℕ) → IsSome x → IsSome (x ++ y)
append_some [] y h = absurd h
append_some (b ∷ x) y h = tt

resolved_some : (o : Option Reference) (bytes : List ℕ) → GivesSome o → IsSome (resolved o bytes)
resolved_some None bytes h = tt
resolved_some (Some r) bytes h = append_some r.gives (drop r.takes bytes) h

pub named_value_some : (v : Bool) (letters after : List ℕ) → IsSome (named_value v letters after)
named_value_some v letters after = resolved_some (named_reference v (letters ++ after)) letters (reference_some v (letters ++ after))

utf8_some : (c : ℕ) → IsSome (encode_utf8 c)
unfolding encode_utf8
utf8_some c = cond_both (nat_lt c 128) _ _ IsSome (λ _. tt) (λ _. cond_both (nat_lt c 2048) _ _ IsSome (λ _. tt) (λ _. cond_both (nat_lt c 65536) _ _ IsSome (λ _. tt) (λ _. tt)))

pub number_value_some : (code : ℕ) → IsSome (number_value code)
number_value_some code =
    cond_both (is_no_character code) _ _ IsSome (λ _. utf8_some 0xFFFD) (λ _. utf8_some (windows_1252 code))
