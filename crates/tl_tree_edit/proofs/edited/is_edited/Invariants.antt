use Rattle.std.proofs.Common.{true}
use Rattle.tl_tree.specs.TreeView.{rows_in}
use Rattle.tl_tree_edit.specs.Changes.{edited}
use Rattle.tl_tree_edit.specs.Events.{events}
use Rattle.tl_tree_edit.specs.Inner.Walk.{Follows, left, remaining}
use Rattle.tl_tree_edit.specs.View.{edits_of}
use Rattle.tl_tree_edit.proofs.edited.is_edited.Given as goal

abbrev pub invariant-loop-number : goal.invariant-loop-number
invariant-loop-number l =
    Follows (edited (edits_of l.fn.edits) (rows_in l.fn.old)) (remaining (rows_in l.fn.old) l.number l.walk) (events (rows_in l.fn.new)) (left l.walk.rest) true
