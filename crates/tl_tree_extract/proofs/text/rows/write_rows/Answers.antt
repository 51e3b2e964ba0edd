use Rattle.std.proofs.Common.{List, ap, append_assoc, nat_lt, sym, ℕ, ◌++◌, ◌∙◌}
use Rattle.tl_tree.specs.Rows.{Row}
use Rattle.tl_tree.specs.TreeView.{rows_in}
use Rattle.tl_tree_extract.proofs.Readables.{row-step}
use Rattle.tl_tree_extract.specs.Flowing.{written}
use Rattle.tl_tree_extract.specs.Readable.{items_from, opened_of}
use Rattle.tl_tree_extract.specs.declared.text.flow.Flow.{Flow}
use Rattle.tl_tree_extract.proofs.text.rows.write_rows.Goals as goal

pub loop-number-preserved : goal.loop-number-preserved
loop-number-preserved c =
    let R : List Row = rows_in c.args.tree.now in
    let marks = c.args.left_out.now in
    let n : ℕ = c.loop-number.number in
    let o : List ℕ = c.loop-number.out.items in
    let f : Flow = c.loop-number.flow in
    let d = c.display_of-display.result in
    let inner : ℕ = c.kept-kept_end.result in
    let rest = items_from marks R c.args.first c.args.last inner c.behind-next.result in
    c.loop-number.invariant
    ∙ ap (λ x. o ++ x) (row-step marks R c.args.first c.args.last c.loop-number.kept_end n f c.in_ok-flow.flow c.end-flow.result d inner c.behind-next.result c.loop-number-test.true c.display_of-display.ensures c.kept-kept_end.ensures c.behind-next.ensures c.in_ok-flow.ensures.flow c.end-flow.ensures)
    ∙ sym (append_assoc o (written f (opened_of R d (nat_lt n inner) n)) (written c.end-flow.result rest))
    ∙ ap (λ x. x ++ written c.end-flow.result rest) (sym c.in_ok-flow.ensures.text)
