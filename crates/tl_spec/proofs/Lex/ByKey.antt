-- Cases of a key: `id`, `class`, or another.
use Rattle.std.proofs.Common.{◌≡◌, ℕ, true, false, List, ◌∙◌}
use Rattle.std.proofs.lemmas.Bool.{cond_both, cond-true, cond-false}
use Rattle.tl_spec.specs.Lex.AttributeList.{choose_by_key, is_id, is_class, IsOther}

module _ {A : Type 0} (key : List ℕ) (x y z : A) where
  pub choose_by_key-id : is_id key ≡ true → choose_by_key key x y z ≡ x
  choose_by_key-id here = cond-true (is_id key) _ _ here

  pub choose_by_key-class : is_id key ≡ false → is_class key ≡ true → choose_by_key key x y z ≡ y
  choose_by_key-class other here = cond-false (is_id key) _ _ other ∙ cond-true (is_class key) _ _ here

  pub choose_by_key-other : IsOther key → choose_by_key key x y z ≡ z
  choose_by_key-other other = cond-false (is_id key) _ _ other.0 ∙ cond-false (is_class key) _ _ other.1

-- what is true of each value is true of the one that a key chooses
pub choose_by_key-all : {A : Type 0} (P : A → Type 0) (key : List ℕ) (x y z : A) → (is_id key ≡ true → P x) → (is_id key ≡ false → is_class key ≡ true → P y) → (IsOther key → P z)
    → P (choose_by_key key x y z)
choose_by_key-all P key x y z id class other =
    cond_both (is_id key) _ _ P id (λ i. cond_both (is_class key) _ _ P (class i) (λ c. other (i, c)))
