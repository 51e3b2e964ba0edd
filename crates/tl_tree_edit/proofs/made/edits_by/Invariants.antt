use Rattle.std.proofs.Common.{map, take, ◌≡◌}
use Rattle.std.specs.List.{flat_map}
use Rattle.tl_tree.specs.TreeView.{rows_in}
use Rattle.tl_tree_edit.specs.Operations.{changes_each, made}
use Rattle.tl_tree_edit.specs.View.{change_of, edit_of}
use Rattle.tl_tree_edit.proofs.made.edits_by.Given as goal

-- those of the numbers so far
abbrev pub invariant-loop-number : goal.invariant-loop-number
invariant-loop-number l =
    map edit_of l.edits.items
    ≡ flat_map (made (rows_in l.old) l.old.is_quirks (changes_each (change_of l.change))) (take l.number-index l.numbers)
