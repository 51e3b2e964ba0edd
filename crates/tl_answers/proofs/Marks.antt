-- Marks of what is left out.
use Rattle.std.proofs.Common.{List, [], ap, arith, length, refl, sym, ℕ, ◌∙◌, ◌≡◌, ◌∷◌}
use Rattle.tl_answers.specs.LeftOut.{marks_in}
use Rattle.tl_tree.specs.Rows.{Row}
use Rattle.tl_tree_extract.specs.Marks.{marks_of}

module _ (rows : List Row) where
  some_marks : (ns : List ℕ) → (length ns ≡ 0 → ⊥) → marks_of ns (length rows) ≡ marks_in rows ns
  some_marks [] some = absurd (some refl)
  some_marks (n ∷ ns) some = refl

  no_marks : (ns : List ℕ) → length ns ≡ 0 → [] ≡ marks_in rows ns
  no_marks [] none = refl
  no_marks (n ∷ ns) none = absurd (omega (arith, none))

  -- where nothing is found, and where something is
  pub none_marked : (found ns : List ℕ) → found ≡ ns → length found ≡ 0 → [] ≡ marks_in rows ns
  none_marked found ns same none = no_marks ns (sym (ap (λ (xs : List ℕ). length xs) same) ∙ none)

  pub each_marked : (found ns : List ℕ) → found ≡ ns → (length found ≡ 0 → ⊥) → marks_of found (length rows) ≡ marks_in rows ns
  each_marked found ns same some =
      ap (λ (xs : List ℕ). marks_of xs (length rows)) same ∙ some_marks ns (λ none. some (ap (λ (xs : List ℕ). length xs) same ∙ none))
