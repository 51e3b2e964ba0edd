-- The first row that fits has the longest name, since each name stands before those that it begins with.
use Rattle.std.proofs.Common.{◌≡◌, ◌≤◌, ◌⊎◌, ℕ, Bool, true, false, not, ◌==◌, ◌&&◌, List, [], ◌∷◌, length, Some, refl, ap, sym, subst, ◌∙◌, inl, inr, true≢false, arith, if◌then◌else◌}
use Rattle.std.specs.List.{AllByRecursion, list_all, starts_with}
use Rattle.std.proofs.lemmas.Bool.{and_from, and_parts, cases_Bool, eqb-true}
use Rattle.tl_names.specs.References.{table_of}
use Rattle.tl_html_spec.specs.References.{IsLongest, Row, first_row, named, rows}

abbrev stands_apart : List ℕ → Row → Bool
stands_apart name later = not (starts_with ◌==◌ later.0 name)

abbrev are_in_order : List Row → Bool
are_in_order [] = true
are_in_order (row ∷ rows) = list_all (stands_apart row.0) rows && are_in_order rows

-- of two names that a text begins with the first begins the second, or the second is no longer
one_begins : (s v w : List ℕ) → starts_with ◌==◌ s v ≡ true → starts_with ◌==◌ s w ≡ true → (starts_with ◌==◌ w v ≡ true) ⊎ (length w ≤ length v)
one_begins s [] [] h k = inl refl
one_begins s [] (z ∷ w) h k = inl refl
one_begins s (y ∷ v) [] h k = inr (omega arith)
one_begins [] (y ∷ v) (z ∷ w) h k = absurd (true≢false (sym h))
one_begins (x ∷ s) (y ∷ v) (z ∷ w) h k =
    let p = and_parts (y == x) (starts_with ◌==◌ s v) h in
    let q = and_parts (z == x) (starts_with ◌==◌ s w) k in
    elim (one_begins s v w p.1 q.1) [
      | inl t ↦ inl (and_from (y == z) (starts_with ◌==◌ w v) (ap (λ c. y == c) (eqb-true z x q.0) ∙ p.0) t)
      | inr le ↦ inr (omega arith)
    ]

shorter : (letters name : List ℕ) (later : List Row) → starts_with ◌==◌ letters name ≡ true → list_all (stands_apart name) later ≡ true →
    AllByRecursion (λ (other : Row). starts_with ◌==◌ letters other.0 ≡ true → length other.0 ≤ length name) later
shorter letters name [] h a = tt
shorter letters name (other ∷ later) h a =
    let p = and_parts (stands_apart name other) (list_all (stands_apart name) later) a in (
      (λ k. elim (one_begins letters name other.0 h k) [
        | inl t ↦ (let no : false ≡ true = rw t at p.0 in absurd (true≢false (sym no)))
        | inr le ↦ le
      ]),
      shorter letters name later h p.1,
    )

first_longest : (rows : List Row) (letters : List ℕ) (row : Row) → are_in_order rows ≡ true → first_row rows letters ≡ Some row → IsLongest rows letters row
first_longest [] letters row h e = tt
first_longest (r ∷ rows) letters row h e =
    let p = and_parts (list_all (stands_apart r.0) rows) (are_in_order rows) h in
    elim (cases_Bool (starts_with ◌==◌ letters r.0)) [
      | inl y ↦ (
          let one : Some r ≡ Some row = rw y at e in
          let is : r ≡ row = cc in
          subst (IsLongest (r ∷ rows) letters) is ((λ _. omega arith), shorter letters r.0 rows y p.0))
      | inr n ↦ (
          let more : first_row rows letters ≡ Some row = rw n at e in
          ((λ k. absurd (true≢false (sym k ∙ n))), first_longest rows letters row p.1 more))
    ]

choose : (v : Bool) (x y : List ℕ) → are_in_order (rows x) ≡ true → are_in_order (rows y) ≡ true → are_in_order (rows (if v then x else y)) ≡ true
choose true x y h k = h
choose false x y h k = k

tables_are : (b : ℕ) → are_in_order (rows (table_of b)) ≡ true
tables_are b =
    (choose (b == 65) _ _ refl
    (choose (b == 66) _ _ refl
    (choose (b == 67) _ _ refl
    (choose (b == 68) _ _ refl
    (choose (b == 69) _ _ refl
    (choose (b == 70) _ _ refl
    (choose (b == 71) _ _ refl
    (choose (b == 72) _ _ refl
    (choose (b == 73) _ _ refl
    (choose (b == 74) _ _ refl
    (choose (b == 75) _ _ refl
    (choose (b == 76) _ _ refl
    (choose (b == 77) _ _ refl
    (choose (b == 78) _ _ refl
    (choose (b == 79) _ _ refl
    (choose (b == 80) _ _ refl
    (choose (b == 81) _ _ refl
    (choose (b == 82) _ _ refl
    (choose (b == 83) _ _ refl
    (choose (b == 84) _ _ refl
    (choose (b == 85) _ _ refl
    (choose (b == 86) _ _ refl
    (choose (b == 87) _ _ refl
    (choose (b == 88) _ _ refl
    (choose (b == 89) _ _ refl
    (choose (b == 90) _ _ refl
    (choose (b == 97) _ _ refl
    (choose (b == 98) _ _ refl
    (choose (b == 99) _ _ refl
    (choose (b == 100) _ _ refl
    (choose (b == 101) _ _ refl
    (choose (b == 102) _ _ refl
    (choose (b == 103) _ _ refl
    (choose (b == 104) _ _ refl
    (choose (b == 105) _ _ refl
    (choose (b == 106) _ _ refl
    (choose (b == 107) _ _ refl
    (choose (b == 108) _ _ refl
    (choose (b == 109) _ _ refl
    (choose (b == 110) _ _ refl
    (choose (b == 111) _ _ refl
    (choose (b == 112) _ _ refl
    (choose (b == 113) _ _ refl
    (choose (b == 114) _ _ refl
    (choose (b == 115) _ _ refl
    (choose (b == 116) _ _ refl
    (choose (b == 117) _ _ refl
    (choose (b == 118) _ _ refl
    (choose (b == 119) _ _ refl
    (choose (b == 120) _ _ refl
    (choose (b == 121) _ _ refl
    (choose (b == 122) _ _ refl
    refl))))))))))))))))))))))))))))))))))))))))))))))))))))

pub longest : (b : ℕ) (letters : List ℕ) (row : Row) → named (b ∷ letters) ≡ Some row → IsLongest (rows (table_of b)) (b ∷ letters) row
longest b letters row e = first_longest (rows (table_of b)) (b ∷ letters) row (tables_are b) e
