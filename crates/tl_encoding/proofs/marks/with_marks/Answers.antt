use Rattle.std.proofs.Common.{◌∙◌, ap, arith, sym}
use Rattle.std.specs.Str.{chars}
use Rattle.tl_encoding.specs.Marks.{has_mark, unmarked}
use Rattle.tl_encoding.proofs.Replaced.{of_any}
use Rattle.tl_encoding.proofs.Unmarked.{back}
use Rattle.tl_encoding.proofs.marks.with_marks.Goals as goal

pub returns-then-has_mark-clause-none : goal.returns-then-has_mark-clause-none
returns-then-has_mark-clause-none c =
    λ e. ap (λ t. has_mark (chars t)) (of_any c.args.page.now ∙ sym (c.as_str.ensures.value ∙ c.in_ok-own.ensures.lossy))
    ∙ sym c.has_mark.ensures ∙ c.if-has_mark.true

pub returns-clause-back : goal.returns-clause-back
returns-clause-back c =
    ap (λ t. unmarked (chars t)) c.in_ok-marked.ensures
    ∙ back c.args.page.now (λ k. omega (arith, c.type_inv.page k))
    (ap (λ t. has_mark (chars t)) (sym (c.as_str.ensures.value ∙ c.in_ok-own.ensures.lossy)) ∙ sym c.has_mark.ensures ∙ c.if-has_mark.false)
