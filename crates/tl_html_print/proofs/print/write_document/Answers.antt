use Rattle.std.proofs.Common.{List, ap, length, ◌++◌, ◌∙◌, ℕ}
use Rattle.std.proofs.lemmas.Result.{IfOk-equal}
use Rattle.tl_html_print.proofs.Located.{document_found}
use Rattle.tl_html_print.specs.Inner.Printed.{printed}
use Rattle.tl_tree.specs.TreeView.{rows_in}
use Rattle.tl_html_print.proofs.print.write_document.Goals as goal

pub returns : goal.returns
returns c = λ trees same.
    let o : List ℕ = c.args.out.now.items in
    let s = c.args.is_scripting in
    IfOk-equal c.write_rows.result _ _ _ c.write_rows.ensures
    (ap (λ k. o ++ printed s (rows_in c.args.tree.now) 0 k) c.len.ensures
    ∙ ap (λ R. o ++ printed s R 0 (length R)) same
    ∙ ap (λ x. o ++ x) (document_found s trees))
