use Rattle.std.proofs.Common.{◌≡◌, List, ℕ, Err, sym, subst, ◌∙◌}
use Rattle.tl_css.specs.Grammar.{IsSelector}
use Rattle.tl_css.specs.Reading.{read}
use Rattle.tl_css.specs.StateView.{IsFailure}
use Rattle.tl_css.specs.declared.error.Failure.{Failure}
use Rattle.tl_css.proofs.Depth.{read_is, wrong_is}
use Rattle.tl_css.proofs.text.parse.Goals as goal

pub returns-in-Ok-clause-grammar : goal.returns-in-Ok-clause-grammar
returns-in-Ok-clause-grammar c =
    subst (λ (text : List ℕ). IsSelector text c.in-Ok.selector) c.as_bytes-text.ensures.value (read_is _ _ c.in-Ok.ensures.read)

pub returns-in-Err-Text-clause-none : goal.returns-in-Err-Text-clause-none
returns-in-Err-Text-clause-none c = λ at cause e same other is.
    let wrong = c.in-Err-Text.wrong in
    let text = c.as_bytes-text.ensures.value in
    let failed : read c.as_bytes-text.result.now ≡ Err wrong =
    subst (λ (failure : Failure). IsFailure failure (read c.as_bytes-text.result.now)) c.in-Err-Text.field-0-is c.in-Err-Text.ensures.read in
    let cause_is : wrong.cause ≡ cause = cc in
    other (sym cause_is ∙ wrong_is c.args.text.now e wrong (subst (λ (text : List ℕ). read text ≡ Err wrong) text failed) is)
