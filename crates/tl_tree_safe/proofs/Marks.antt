-- Words behind a mark.
use Rattle.std.proofs.Common.{Bool, List, None, Option, Some, [], ap, arith, false, if◌then◌else◌, refl, sym, true, ℕ, ◌==◌, ◌∙◌, ◌∷◌, ◌≡◌, ◌≢◌}
use Rattle.std.proofs.lemmas.Bool.Decides.{nat_tests}
use Rattle.std.specs.Borrow.{Bor}
use Rattle.std.specs.Prelude.{MatchOption}
use Rattle.tl_tree_safe.specs.ListOptions.{behind, text_of}

-- what `strip_prefix` says of a mark
pub is_behind : (mark : ℕ) (bs : List ℕ) (r : Option (Bor (List ℕ))) → (mark == mark) ≡ true
    → MatchOption r ((rest : List ℕ) → bs ≢ mark ∷ rest) (λ x. bs ≡ mark ∷ x.now) → text_of r ≡ behind mark bs
is_behind mark bs (Some x) own h =
    sym (ap (behind mark) h ∙ ap (λ (v : Bool). if v then Some x.now else None) own)
is_behind mark [] None own h = refl
is_behind mark (b ∷ word) None own h = here (b == mark) refl
  where
    same : (c : ℕ) → (c == mark) ≡ true → c ≡ mark
    same c e = grind (arith, nat_tests)

    here : (v : Bool) → (b == mark) ≡ v → ◌≡◌ {A = Option (List ℕ)} None (if v then Some word else None)
    here false e = refl
    here true e = absurd (h word (ap (λ c. c ∷ word) (same b e)))
