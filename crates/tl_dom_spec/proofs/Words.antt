-- Names that are one of some words.
use Rattle.std.proofs.Common.{◌≡◌, ℕ, true, ◌||◌, List, [], ◌∷◌, ap, sym, subst, ◌∙◌, inl, inr, true≢false}
use Rattle.std.specs.Str.{bytes_eq}
use Rattle.std.specs.List.{list_any}
use Rattle.std.proofs.lemmas.Bool.{cases_Bool}
use Rattle.std.proofs.lemmas.Slice.Eq.{bytes_eq-Decides}
use Rattle.tl_dom_spec.proofs.Allowed.{Each}

-- what holds of some words holds of each name that is one of them
pub any_word : (P : List ℕ → Type 0) (list : List (List ℕ)) (name : List ℕ) → Each P list → list_any (bytes_eq name) list ≡ true → P name
any_word P [] name h e = absurd (true≢false (sym e))
any_word P (word ∷ list) name h e =
    elim (cases_Bool (bytes_eq name word)) [
      | inl y ↦ subst P (sym ((bytes_eq-Decides name word).0 y)) h.0
      | inr n ↦ any_word P list name h.1 (sym (ap (λ x. x || list_any (bytes_eq name) list) n) ∙ e)
    ]
