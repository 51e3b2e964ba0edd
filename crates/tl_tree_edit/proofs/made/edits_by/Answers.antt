use Rattle.tl_tree.specs.TreeView.{rows_in}
use Rattle.tl_tree_edit.proofs.Places.{some_more}
use Rattle.tl_tree_edit.specs.Operations.{changes_each, made}
use Rattle.tl_tree_edit.specs.View.{change_of, edit_of}
use Rattle.tl_tree_edit.proofs.made.edits_by.Goals as goal

pub loop-number-preserved : goal.loop-number-preserved
loop-number-preserved c =
    some_more edit_of
    (made (rows_in c.args.old.now) c.args.old.now.is_quirks (changes_each (change_of c.args.change)))
    c.loop-number.edits.items c.push_edits.new.edits.items c.args.numbers.now c.loop-number.number-index
    c.loop-number.invariant c.in_ok-push_edits.ensures c.loop-number-test.true
