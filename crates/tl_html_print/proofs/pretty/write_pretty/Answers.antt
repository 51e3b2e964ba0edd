use Rattle.std.proofs.Common.{List, ap, ◌++◌, ◌∙◌, ℕ}
use Rattle.std.proofs.lemmas.Result.{IfOk-equal}
use Rattle.tl_html_print.proofs.Laid.{laid_found}
use Rattle.tl_html_print.specs.Inner.Lines.{laid_rows}
use Rattle.tl_html_print.proofs.pretty.write_pretty.Goals as goal

pub returns : goal.returns
returns c = λ trees same.
    let o : List ℕ = c.args.out.now.items in
    let s = c.args.is_scripting in
    IfOk-equal c.write_lines.result _ _ _ c.write_lines.ensures
    (ap (λ R. o ++ laid_rows s R) same ∙ ap (λ x. o ++ x) (laid_found s trees))
