use Rattle.std.proofs.Common.{◌≡◌}
use Rattle.tl_tree.specs.Asked.{ancestors_at}
use Rattle.tl_tree.specs.TreeView.{rows_in}
use Rattle.tl_tree_extract.specs.Flowing.{after_items}
use Rattle.tl_tree_extract.specs.Readable.{ended_outside}
use Rattle.tl_tree_extract.proofs.text.rows.end_outside.Given as goal

abbrev pub invariant-loop-outer : goal.invariant-loop-outer
invariant-loop-outer l =
    after_items l.fn.flow (ended_outside (rows_in l.tree) l.first l.next (ancestors_at (rows_in l.tree) l.number)) ≡ after_items l.flow (ended_outside (rows_in l.tree) l.first l.next l.outer-iterator)
