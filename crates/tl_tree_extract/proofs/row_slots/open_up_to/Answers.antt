use Rattle.std.proofs.Common.{arith, length, ◌+◌, ◌<◌, ◌≤◌}
use Rattle.tl_tree_extract.proofs.Slots.{ahead_none, open_more}
use Rattle.tl_tree_extract.specs.declared.tables.Cell.{Cell}
use Rattle.tl_tree_extract.proofs.row_slots.open_up_to.Goals as goal

pub loop-next-preserved : goal.loop-next-preserved
loop-next-preserved c =
    let none : Cell = record { node = 0; left = 0; right = 0; top = 0; bottom = 0 } in
    let more : c.loop-next.next < length c.args.cells.now = omega arith in
    open_more c.args.cells.now c.loop-next.open.items c.push_open.new.open.items c.args.row c.loop-next.next (c.loop-next.next + 1) none (omega arith) c.in_ok-push_open.ensures more c.if-row-cell.false c.loop-next.invariant

pub returns-clause-ahead : goal.returns-clause-ahead
returns-clause-ahead c =
    let past : length c.args.cells.now ≤ c.loop-next.next = omega arith in
    ahead_none c.args.cells.now c.args.row c.loop-next.next past
