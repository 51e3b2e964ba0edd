-- Texts that end with a line feed if there are any.
use Rattle.std.proofs.Common.{List, [], ap, append-nil, arith, length, refl, sym, append_assoc, ℕ, ◌∙◌, ◌++◌, ◌<◌, ◌≡◌, ◌∷◌}
use Rattle.tl_answers.specs.Lines.{line_ended}

pub ended_none : (text : List ℕ) → length text ≡ 0 → line_ended text ≡ []
ended_none [] e = refl
ended_none (b ∷ text) e = absurd (omega (arith, e))

pub ended_some : (text : List ℕ) → 0 < length text → line_ended text ≡ text ++ 10 ∷ []
ended_some [] some = absurd (omega (arith, some))
ended_some (b ∷ text) some = refl

-- what has become longer has got some
pub ended_longer : (text before after : List ℕ) (long short : ℕ) → after ≡ before ++ text → long ≡ length after → short ≡ length before
    → (long ≡ short → ⊥) → line_ended text ≡ text ++ 10 ∷ []
ended_longer [] before after long short e l s other =
    let same : long ≡ short = l ∙ ap (λ (xs : List ℕ). length xs) e ∙ ap (λ (xs : List ℕ). length xs) (append-nil before) ∙ sym s in
    absurd (other same)
ended_longer (b ∷ text) before after long short e l s other = refl

-- a text and what ends it, behind what was there
pub ended_behind : (before text : List ℕ) → line_ended text ≡ text ++ 10 ∷ [] → (before ++ text) ++ 10 ∷ [] ≡ before ++ line_ended text
ended_behind before text e = append_assoc before text (10 ∷ []) ∙ ap (λ (t : List ℕ). before ++ t) (sym e)
