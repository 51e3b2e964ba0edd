use Rattle.std.proofs.Common.{arith, length, sym, ◌<◌, ◌∙◌}
use Rattle.tl_answers.proofs.Roots.{root_next}
use Rattle.tl_tree.specs.TreeView.{rows_in}
use Rattle.tl_answers.proofs.document.document_element.Goals as goal

pub loop-number-preserved : goal.loop-number-preserved
loop-number-preserved c =
    let rows = rows_in c.args.tree.now in
    let within : c.loop-number.number < length rows = omega (arith, c.loop-number-test.true, c.len-number-end.ensures) in
    c.loop-number.invariant ∙ root_next rows c.loop-number.number within (sym c.is_root.ensures ∙ c.if-is_root.false)
