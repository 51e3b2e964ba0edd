use Rattle.std.proofs.Common.{rules}
use Rattle.std.specs.Prelude.{string_bytes}
use Rattle.tl_answers.proofs.Written.{made_as}
use Rattle.tl_answers.specs.Meant.{patch_operation}
use Rattle.tl_patch_edit.specs.View.{patch_view}
use Rattle.tl_tree.specs.TreeView.{rows_in}
use Rattle.tl_tree_edit.specs.Changes.{Rename, Set, Unset}
use Rattle.tl_tree_edit.specs.Operations.{Operation, changes_each}
use Rattle.tl_answers.proofs.edit.Edit.is_done_in.Goals as goal

pub returns-in-Set-clause-made : goal.returns-in-Set-clause-made
returns-in-Set-clause-made c =
    let said : Operation = changes_each (Set (string_bytes c.in-Set.key) c.in-Set.value.now) in
    rw c.in-Set.is (made_as (rows_in c.args.old.now) c.args.old.now.is_quirks c.args.numbers.now (rows_in c.args.new.now) c.is_made.result _ said (search rules) c.is_made.ensures.made)

pub returns-in-Unset-clause-made : goal.returns-in-Unset-clause-made
returns-in-Unset-clause-made c =
    let said : Operation = changes_each (Unset (string_bytes c.in-Unset.key)) in
    rw c.in-Unset.is (made_as (rows_in c.args.old.now) c.args.old.now.is_quirks c.args.numbers.now (rows_in c.args.new.now) c.is_made-in-Unset.result _ said (search rules) c.is_made-in-Unset.ensures.made)

pub returns-in-Rename-clause-made : goal.returns-in-Rename-clause-made
returns-in-Rename-clause-made c =
    let said : Operation = changes_each (Rename (string_bytes c.in-Rename.name)) in
    rw c.in-Rename.is (made_as (rows_in c.args.old.now) c.args.old.now.is_quirks c.args.numbers.now (rows_in c.args.new.now) c.is_made-in-Rename.result _ said (search rules) c.is_made-in-Rename.ensures.made)

pub returns-in-Element-clause-made : goal.returns-in-Element-clause-made
returns-in-Element-clause-made c =
    let said : Operation = patch_operation (patch_view c.in-Element.patch) in
    rw c.in-Element.is (made_as (rows_in c.args.old.now) c.args.old.now.is_quirks c.args.numbers.now (rows_in c.args.new.now) c.is_made-in-Element.result _ said (search rules) c.is_made-in-Element.ensures.made)
