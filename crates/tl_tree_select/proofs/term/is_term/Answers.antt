use Rattle.std.proofs.Common.{◌≡◌, ◌%◌, ◌∙◌, ℕ, ℤ, Bool, subst, sym, ap, rules, arith, w64}
use Rattle.std.specs.Int.RustNames.{unsigned_abs, FitsSigned}
use Rattle.std.proofs.lemmas.Bool.{false≢true, eqb-true, eq-eqb}
use Rattle.std.proofs.lemmas.Int.{to_z-of_z}
use Rattle.tl_tree_select.specs.Inner.Terms.{IsDistance, is_natural}
use Rattle.tl_tree_select.proofs.Formulas.{term_is, term_isnt}
use Rattle.tl_tree_select.proofs.term.is_term.Goals as goal

pub returns-in_default : goal.returns-in_default
returns-in_default c =
    let a = c.args.formula.a in
    let b = c.args.formula.b in
    let fits : FitsSigned w64 b = search rules in
    let fits_a : FitsSigned w64 a = search rules in
    let up : c.is_natural.result ≡ is_natural a = c.is_natural.ensures ∙ ap is_natural (to_z-of_z w64 a fits_a) in
    let none : (d : ℕ) → IsDistance (is_natural a) c.args.count b d → ⊥ =
    subst (λ (up : Bool). (d : ℕ) → IsDistance up c.args.count b d → ⊥) up
    (subst (λ (z : ℤ). (d : ℕ) → IsDistance c.is_natural.result c.args.count z d → ⊥) (to_z-of_z w64 b fits) c.in_default.ensures) in
    (λ e. absurd (false≢true e), λ t. absurd (term_isnt a b c.args.count none t))

pub returns : goal.returns
returns c =
    let a = c.args.formula.a in
    let b = c.args.formula.b in
    let d = c.in-Some.distance in
    let fits : FitsSigned w64 b = search rules in
    let fits_a : FitsSigned w64 a = search rules in
    let up : c.is_natural.result ≡ is_natural a = c.is_natural.ensures ∙ ap is_natural (to_z-of_z w64 a fits_a) in
    let is : IsDistance (is_natural a) c.args.count b d =
    subst (λ (up : Bool). IsDistance up c.args.count b d) up
    (subst (λ (z : ℤ). IsDistance c.is_natural.result c.args.count z d) (to_z-of_z w64 b fits) c.in-Some.ensures) in
    let step : c.unsigned_abs-step.result ≡ unsigned_abs a = search rules in
    let some : (unsigned_abs a ≡ 0 → ⊥) = λ none. (let zero : c.unsigned_abs-step.result ≡ 0 = step ∙ none in omega arith) in
    let both = term_is a b c.args.count d is some in (
      λ e. both.1 (sym (ap (λ n. d % n) step) ∙ eqb-true (d % c.unsigned_abs-step.result) 0 e),
      λ t. eq-eqb (d % c.unsigned_abs-step.result) 0 (ap (λ n. d % n) step ∙ both.0 t),
    )
