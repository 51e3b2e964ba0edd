use Rattle.std.proofs.Common.{None, arith, length, rules, ◌<◌, ◌∙◌, ◌≡◌}
use Rattle.tl_answers.proofs.Placed.{place_next}
use Rattle.tl_tree.specs.Sources.{source_at}
use Rattle.tl_tree.specs.TreeView.{rows_in}
use Rattle.tl_answers.proofs.places.place_of.Goals as goal

pub loop-node-preserved : goal.loop-node-preserved
loop-node-preserved c =
    let rows = rows_in c.args.tree.now in
    let within : c.loop-node.node < length rows = omega (arith, c.loop-node-test.true, c.len-node-end.ensures) in
    let none : source_at c.args.tree.now c.loop-node.node ≡ None = search rules in
    c.loop-node.invariant ∙ place_next (source_at c.args.tree.now) c.args.size (length rows) c.loop-node.node within none
