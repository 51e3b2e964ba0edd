use Rattle.std.proofs.Common.{map, take, ◌≡◌}
use Rattle.tl_tree.specs.TreeView.{rows_in}
use Rattle.tl_tree_edit.specs.Inner.Contexts.{put_by, read_for}
use Rattle.tl_tree_edit.specs.View.{edit_of}
use Rattle.tl_tree_edit.proofs.fragments.edits_of.Given as goal

-- those of the fragments so far
abbrev pub invariant-loop-own : goal.invariant-loop-own
invariant-loop-own l =
    map edit_of l.edits.items
    ≡ map (put_by (rows_in l.old) l.position) (map (read_for l.readings) (take l.own-index l.each))
