-- Keys are compared behind their prefix.
use Rattle.std.proofs.Common.{◌≡◌, ◌≢◌, ◌∙◌, ◌++◌, List, ℕ, ap, false, inl, inr, sym, true}
use Rattle.std.proofs.lemmas.Bool.{cases_Bool}
use Rattle.std.proofs.lemmas.List.{append_cancel_left}
use Rattle.std.proofs.lemmas.Slice.Eq.{bytes_eq-Decides}
use Rattle.std.specs.Str.{bytes_eq}
use Rattle.tl_c.proofs.Selectors.{one_answer}

module _ (prefix key wanted : List ℕ) where
  -- the key that is wanted begins with the prefix
  pub key_behind : (own : List ℕ) → wanted ≡ prefix ++ own → bytes_eq own key ≡ bytes_eq (prefix ++ key) wanted
  key_behind own whole =
      one_answer (bytes_eq own key) (bytes_eq (prefix ++ key) wanted) (own ≡ key) ((bytes_eq-Decides own key).0, (bytes_eq-Decides own key).1) (
        λ e. sym (append_cancel_left prefix key own ((bytes_eq-Decides (prefix ++ key) wanted).0 e ∙ whole)),
        λ same. (bytes_eq-Decides (prefix ++ key) wanted).1 (ap (λ k. prefix ++ k) (sym same) ∙ sym whole),
      )

  -- or it doesn't
  pub key_elsewhere : ((rest : List ℕ) → wanted ≢ prefix ++ rest) → bytes_eq (prefix ++ key) wanted ≡ false
  key_elsewhere other = elim (cases_Bool (bytes_eq (prefix ++ key) wanted)) [
    | inl y ↦ absurd (other key (sym ((bytes_eq-Decides (prefix ++ key) wanted).0 y)))
    | inr n ↦ n
  ]
