use Rattle.std.proofs.Common.{map, take, ◌≡◌}
use Rattle.tl_tree.specs.TreeView.{rows_in}
use Rattle.tl_tree_edit.specs.Inner.Contexts.{AreFormsOf, AreRead, read_for, should_read}
use Rattle.tl_tree_edit.specs.Operations.{is_adjacent}
use Rattle.tl_tree_edit.proofs.fragments.fragments.Given as goal

-- those of the numbers so far
abbrev pub invariant-loop-number : goal.invariant-loop-number
invariant-loop-number l = record {
  put : map (read_for l.readings.items) l.each.items
      ≡ map (should_read (rows_in l.old) l.old.is_quirks l.position l.markup) (take l.number-index l.numbers);
  read : AreRead (rows_in l.old) l.old.is_quirks l.is_adjacent l.markup l.readings.items;
  adjacent : l.is_adjacent ≡ is_adjacent l.position;
  forms : AreFormsOf (rows_in l.old) l.forms;
}
