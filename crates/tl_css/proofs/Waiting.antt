-- How many selectors wait after a step.
use Rattle.std.proofs.Common.{◌≡◌, ℕ, List, [], ◌∷◌, ◌++◌, length, suc, nat_lt, true, refl, sym, ◌∙◌, arith}
use Rattle.tl_spec.proofs.Lex.Grammar.{if_yes}
use Rattle.tl_css.specs.Selector.{Css}
use Rattle.tl_css.specs.declared.selector.Step.{Step}
use Rattle.tl_css.specs.Program.{meet, unite, fewer, change, after_step, after_steps, waiting_after}

steps_more : (ps : List Step) (p : Step) (es : List Css) → after_steps (ps ++ p ∷ []) es ≡ after_step p (after_steps ps es)
steps_more [] p es = refl
steps_more (q ∷ ps) p es = steps_more ps p (after_step q es)

pub waiting_none : waiting_after [] ≡ []
unfolding waiting_after
waiting_none = refl

pub waiting_more : (ps : List Step) (p : Step) → waiting_after (ps ++ p ∷ []) ≡ after_step p (waiting_after ps)
unfolding waiting_after
waiting_more ps p = steps_more ps p []

two_fewer : (n : ℕ) → suc n ≡ fewer (suc (suc n))
two_fewer n = let more : nat_lt 1 (suc (suc n)) ≡ true = grind arith in sym (if_yes _ _ _ more ∙ omega arith)

pub meet_len : (es : List Css) → length (meet es) ≡ fewer (length es)
meet_len [] = refl
meet_len (b ∷ []) = refl
meet_len (b ∷ a ∷ es) = two_fewer (length es)

pub unite_len : (es : List Css) → length (unite es) ≡ fewer (length es)
unite_len [] = refl
unite_len (b ∷ []) = refl
unite_len (b ∷ a ∷ es) = two_fewer (length es)

pub change_len : (f : Css → Css) (es : List Css) → length (change f es) ≡ length es
change_len f [] = refl
change_len f (e ∷ es) = refl
