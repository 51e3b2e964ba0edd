use Rattle.std.proofs.Common.{arith, length, ◌≤◌}
use Rattle.tl_patch_select.specs.Selected.{place_of}
use Rattle.tl_patch_select.proofs.InOrder.{no_rows_in_order, rows_in_order}
use Rattle.tl_patch_select.proofs.in_order.is_in_order.Goals as goal
use Rattle.tl_tree.specs.TreeView.{rows_in}

pub loop-row-init : goal.loop-row-init
loop-row-init c = no_rows_in_order (place_of c.args.tree.now)

pub loop-row-preserved : goal.loop-row-preserved
loop-row-preserved c = c.in-Some.ensures c.loop-row.invariant

pub returns : goal.returns
returns c =
    let all : length (rows_in c.args.tree.now) ≤ c.loop-row.row = omega arith in
    λ _. rows_in_order c.args.tree.now c.loop-row.row c.loop-row.past all c.loop-row.invariant
