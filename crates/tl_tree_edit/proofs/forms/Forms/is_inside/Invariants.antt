use Rattle.std.proofs.Common.{◌+◌, ◌-◌, ◌≤◌}
use Rattle.tl_tree.specs.TreeView.{rows_in}
use Rattle.tl_tree_edit.specs.Inner.Contexts.{AreFormsOf}
use Rattle.tl_tree_edit.proofs.forms.Forms.is_inside.Given as goal

abbrev pub invariant-loop-self : goal.invariant-loop-self
invariant-loop-self l = record {
  forms : AreFormsOf (rows_in l.tree) l.self;
  within : l.self.next ≤ l.number + 1;
}

abbrev pub decreases-loop-self : goal.decreases-loop-self
decreases-loop-self l = l.number + 1 - l.self.next
