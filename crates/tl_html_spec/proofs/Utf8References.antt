-- What a reference gives is UTF-8.
use Rattle.std.proofs.Common.{◌≡◌, ℕ, Bool, true, false, ◌==◌, ◌&&◌, List, [], ◌∷◌, ◌++◌, Option, Some, None, IsUtf8, IsAscii, codes, drop, length, refl, subst, inl, inr, arith, if◌then◌else◌}
use Rattle.std.specs.List.{list_all, starts_with}
use Rattle.std.specs.Str.{chars, is_utf8}
use Rattle.std.specs.Char.{IsScalar}
use Rattle.std.proofs.lemmas.Bool.{and_parts, cases_Bool, cond_both}
use Rattle.std.proofs.lemmas.Bool.Decides.{nat_tests}
use Rattle.std.proofs.lemmas.Str.{IsAscii-drop, IsUtf8-append, IsUtf8-encode, IsUtf8-from_ascii, IsUtf8-from_is_utf8}
use lib.Utf8.{encode}
use Rattle.tl_names.specs.References.{table_of}
use Rattle.tl_html_spec.specs.References.{Reference, Row, first_row, is_left, is_no_character, named, named_reference, named_value, number_value, resolved, rows, windows_1252}
use Rattle.tl_html_spec.proofs.Utf8Characters.{all_low}

-- names

are_texts : List Row → Bool
are_texts rows = list_all (λ (row : Row). is_utf8 row.1) rows

choose : (v : Bool) (x y : List ℕ) → are_texts (rows x) ≡ true → are_texts (rows y) ≡ true → are_texts (rows (if v then x else y)) ≡ true
choose true x y h k = h
choose false x y h k = k

tables_are : (b : ℕ) → are_texts (rows (table_of b)) ≡ true
unfolding are_texts is_utf8 chars encode
tables_are b =
    (choose (b == 65) _ _ refl
    (choose (b == 66) _ _ refl
    (choose (b == 67) _ _ refl
    (choose (b == 68) _ _ refl
    (choose (b == 69) _ _ refl
    (choose (b == 70) _ _ refl
    (choose (b == 71) _ _ refl
    (choose (b == 72) _ _ refl
    (choose (b == 73) _ _ refl
    (choose (b == 74) _ _ refl
    (choose (b == 75) _ _ refl
    (choose (b == 76) _ _ refl
    (choose (b == 77) _ _ refl
    (choose (b == 78) _ _ refl
    (choose (b == 79) _ _ refl
    (choose (b == 80) _ _ refl
    (choose (b == 81) _ _ refl
    (choose (b == 82) _ _ refl
    (choose (b == 83) _ _ refl
    (choose (b == 84) _ _ refl
    (choose (b == 85) _ _ refl
    (choose (b == 86) _ _ refl
    (choose (b == 87) _ _ refl
    (choose (b == 88) _ _ refl
    (choose (b == 89) _ _ refl
    (choose (b == 90) _ _ refl
    (choose (b == 97) _ _ refl
    (choose (b == 98) _ _ refl
    (choose (b == 99) _ _ refl
    (choose (b == 100) _ _ refl
    (choose (b == 101) _ _ refl
    (choose (b == 102) _ _ refl
    (choose (b == 103) _ _ refl
    (choose (b == 104) _ _ refl
    (choose (b == 105) _ _ refl
    (choose (b == 106) _ _ refl
    (choose (b == 107) _ _ refl
    (choose (b == 108) _ _ refl
    (choose (b == 109) _ _ refl
    (choose (b == 110) _ _ refl
    (choose (b == 111) _ _ refl
    (choose (b == 112) _ _ refl
    (choose (b == 113) _ _ refl
    (choose (b == 114) _ _ refl
    (choose (b == 115) _ _ refl
    (choose (b == 116) _ _ refl
    (choose (b == 117) _ _ refl
    (choose (b == 118) _ _ refl
    (choose (b == 119) _ _ refl
    (choose (b == 120) _ _ refl
    (choose (b == 121) _ _ refl
    (choose (b == 122) _ _ refl
    refl))))))))))))))))))))))))))))))))))))))))))))))))))))

first_text : (rows : List Row) (letters : List ℕ) (row : Row) → are_texts rows ≡ true → first_row rows letters ≡ Some row → IsUtf8 row.1
unfolding are_texts
first_text [] letters row h e = absurd (cc)
first_text (r ∷ rows) letters row h e =
    let p = and_parts (is_utf8 r.1) (are_texts rows) h in
    elim (cases_Bool (starts_with ◌==◌ letters r.0)) [
      | inl y ↦ (
          let one : Some r ≡ Some row = rw y at e in
          let is : r ≡ row = cc in
          subst (λ (x : Row). IsUtf8 x.1) is (IsUtf8-from_is_utf8 r.1 p.0))
      | inr n ↦ first_text rows letters row p.1 (rw n at e)
    ]

named_text : (s : List ℕ) (row : Row) → named s ≡ Some row → IsUtf8 row.1
named_text [] row e = absurd (cc)
named_text (b ∷ s) row e = first_text (rows (table_of b)) (b ∷ s) row (tables_are b) e

Gives : Option Reference → Type 0
Gives o = (r : Reference) → o ≡ Some r → IsUtf8 r.gives

no_gift : Gives None
unfolding Gives
no_gift r e = absurd (cc)

one_gift : (r : Reference) → IsUtf8 r.gives → Gives (Some r)
unfolding Gives
one_gift r h s e = let is : r ≡ s = cc in subst (λ (x : Reference). IsUtf8 x.gives) is h

reference_gives : (v : Bool) (s : List ℕ) → Gives (named_reference v s)
reference_gives v s = of_row (named s) (named_text s)
  where
    of_row : (o : Option Row) → ((row : Row) → o ≡ Some row → IsUtf8 row.1) → Gives (elim o as (λ _. Option Reference) [
      | None ↦ None
      | Some row ↦
          if v && is_left row.0 (drop (length row.0) s) then None
          else Some (record { gives = row.1; takes = length row.0 })
    ])
    of_row None h = no_gift
    of_row (Some row) h =
        cond_both (v && is_left row.0 (drop (length row.0) s)) None (Some (record { gives = row.1; takes = length row.0 })) Gives
        (λ _. no_gift) (λ _. one_gift (record { gives = row.1; takes = length row.0 }) (h row refl))

resolved_text : (o : Option Reference) (bytes : List ℕ) → IsAscii bytes → Gives o → IsUtf8 (resolved o bytes)
unfolding Gives
resolved_text None bytes h g = IsUtf8-append (codes "&") bytes (all_low (codes "&") refl) (IsUtf8-from_ascii bytes h)
resolved_text (Some r) bytes h g =
    IsUtf8-append r.gives (drop r.takes bytes) (g r refl) (IsUtf8-from_ascii (drop r.takes bytes) (IsAscii-drop bytes r.takes h))

pub named_value_text : (v : Bool) (letters after : List ℕ) → IsAscii letters → IsUtf8 (named_value v letters after)
named_value_text v letters after h = resolved_text (named_reference v (letters ++ after)) letters h (reference_gives v (letters ++ after))

-- numbers

IsCode : ℕ → Type 0
IsCode c = IsScalar c

other_code : (c : ℕ) → is_no_character c ≡ false → IsScalar c
other_code c h = grind (arith, nat_tests)

windows_code : (c : ℕ) → is_no_character c ≡ false → IsCode (windows_1252 c)
unfolding IsCode
windows_code c h =
    cond_both (c == 0x80) _ _ IsCode (λ _. refl)
    (λ _. cond_both (c == 0x82) _ _ IsCode (λ _. refl)
    (λ _. cond_both (c == 0x83) _ _ IsCode (λ _. refl)
    (λ _. cond_both (c == 0x84) _ _ IsCode (λ _. refl)
    (λ _. cond_both (c == 0x85) _ _ IsCode (λ _. refl)
    (λ _. cond_both (c == 0x86) _ _ IsCode (λ _. refl)
    (λ _. cond_both (c == 0x87) _ _ IsCode (λ _. refl)
    (λ _. cond_both (c == 0x88) _ _ IsCode (λ _. refl)
    (λ _. cond_both (c == 0x89) _ _ IsCode (λ _. refl)
    (λ _. cond_both (c == 0x8A) _ _ IsCode (λ _. refl)
    (λ _. cond_both (c == 0x8B) _ _ IsCode (λ _. refl)
    (λ _. cond_both (c == 0x8C) _ _ IsCode (λ _. refl)
    (λ _. cond_both (c == 0x8E) _ _ IsCode (λ _. refl)
    (λ _. cond_both (c == 0x91) _ _ IsCode (λ _. refl)
    (λ _. cond_both (c == 0x92) _ _ IsCode (λ _. refl)
    (λ _. cond_both (c == 0x93) _ _ IsCode (λ _. refl)
    (λ _. cond_both (c == 0x94) _ _ IsCode (λ _. refl)
    (λ _. cond_both (c == 0x95) _ _ IsCode (λ _. refl)
    (λ _. cond_both (c == 0x96) _ _ IsCode (λ _. refl)
    (λ _. cond_both (c == 0x97) _ _ IsCode (λ _. refl)
    (λ _. cond_both (c == 0x98) _ _ IsCode (λ _. refl)
    (λ _. cond_both (c == 0x99) _ _ IsCode (λ _. refl)
    (λ _. cond_both (c == 0x9A) _ _ IsCode (λ _. refl)
    (λ _. cond_both (c == 0x9B) _ _ IsCode (λ _. refl)
    (λ _. cond_both (c == 0x9C) _ _ IsCode (λ _. refl)
    (λ _. cond_both (c == 0x9E) _ _ IsCode (λ _. refl)
    (λ _. cond_both (c == 0x9F) _ _ IsCode (λ _. refl)
    (λ _. other_code c h)))))))))))))))))))))))))))

pub number_text : (c : ℕ) → IsUtf8 (number_value c)
unfolding IsCode
number_text c = elim (cases_Bool (is_no_character c)) [
  | inl y ↦ rw y (IsUtf8-encode 0xFFFD refl)
  | inr n ↦ rw n (IsUtf8-encode (windows_1252 c) (windows_code c n))
]
