use Rattle.std.proofs.Common.{length, ◌++◌, ◌≡◌}
use Rattle.tl_tree.specs.TreeView.{rows_in}
use Rattle.tl_tree_safe.specs.Inner.Walk.{ended, ends_written, spot_of}
use Rattle.tl_tree_safe.proofs.writer.Writer.end_before.Given as goal

abbrev pub invariant-loop-self : goal.invariant-loop-self
invariant-loop-self l = record {
  written : l.fn.out.items ++ ends_written (rows_in l.tree) l.number (spot_of l.fn.self).opens ≡ l.out.items ++ ends_written (rows_in l.tree) l.number (spot_of l.self).opens;
  left : ended l.number (spot_of l.fn.self) ≡ ended l.number (spot_of l.self);
}

abbrev pub decreases-loop-self : goal.decreases-loop-self
decreases-loop-self l = length (spot_of l.self).opens
