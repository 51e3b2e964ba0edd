use Rattle.std.proofs.Common.{List, arith, length, subst, sym, ◌≡◌, ◌≤◌}
use Rattle.tl_patch_select.specs.Inner.Sources.{AreRowsUpTo}
use Rattle.tl_patch_select.specs.declared.ranges.Keyed.{Keyed}
use Rattle.tl_patch_select.proofs.Sources.{all_rows, no_rows}
use Rattle.tl_patch_select.proofs.whole.rows.Goals as goal
use Rattle.tl_tree.specs.TreeView.{rows_in}

pub loop-row-init : goal.loop-row-init
loop-row-init c = subst (λ (xs : List Keyed). AreRowsUpTo c.args.tree.now c.args.tail 0 xs) (sym c.in_ok-all.ensures.items) (no_rows c.args.tree.now c.args.tail)

pub loop-row-preserved : goal.loop-row-preserved
loop-row-preserved c = c.in_ok-push_row.ensures c.loop-row.invariant

pub returns : goal.returns
returns c = all_rows c.args.tree.now c.args.tail c.loop-row.row c.loop-row.all.items (let l : length (rows_in c.args.tree.now) ≤ c.loop-row.row = omega arith in l) c.loop-row.invariant
