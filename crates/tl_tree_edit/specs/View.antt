-- What values of the crate stand for.
use Rattle.std.specs.Option.{option_map}
use Rattle.std.specs.Prelude.{List, Option, map}
use Rattle.tl_tree.specs.TreeView.{rows_in}
use Rattle.tl_tree_edit.specs.Changes as changes
use Rattle.tl_tree_edit.specs.Operations as operations
use Rattle.tl_tree_edit.specs.declared.change.Change.{Change}
use Rattle.tl_tree_edit.specs.declared.change.Change.TheVariants.{After, Append, Before, Fill, Prepend, Remove, Rename, Replace, Set, Unset, Unwrap}
use Rattle.tl_tree_edit.specs.declared.change.Edit.{Edit}
use Rattle.tl_tree_edit.specs.declared.change.Put.{Put}
use Rattle.tl_tree_edit.specs.declared.change.Put.TheVariants.{Text, Trees}
use Rattle.tl_tree_edit.specs.declared.operation.Operation.{Operation}
use Rattle.tl_tree_edit.specs.declared.operation.Operation.TheVariants.{Each, Markup}

abbrev pub put_of : Put → changes.Put
put_of (Trees trees) = changes.Trees (rows_in trees.now)
put_of (Text text) = changes.Text text.now

abbrev pub puts_of : Option Put → Option changes.Put
puts_of put = option_map put_of put

abbrev pub change_of : Change → changes.Change
change_of (Set key value) = changes.Set key.now value.now
change_of (Rename name) = changes.Rename name.now
change_of (Unset key) = changes.Unset key.now
change_of Remove = changes.Remove
change_of Unwrap = changes.Unwrap
change_of (Replace put) = changes.Replace (put_of put)
change_of (Fill put) = changes.Fill (put_of put)
change_of (Before put) = changes.Before (put_of put)
change_of (Prepend put) = changes.Prepend (put_of put)
change_of (Append put) = changes.Append (put_of put)
change_of (After put) = changes.After (put_of put)

abbrev pub changes_of : Option Change → Option changes.Change
changes_of change = option_map change_of change

abbrev pub edit_of : Edit → changes.Edit
edit_of edit = record { number = edit.number; change = change_of edit.change }

abbrev pub edits_of : List Edit → List changes.Edit
edits_of edits = map edit_of edits

abbrev pub operation_of : Operation → operations.Operation
operation_of (Each change) = operations.changes_each (change_of change)
operation_of (Markup position markup) = operations.puts position markup.now
