use Rattle.std.proofs.Common.{map, take, ◌≡◌}
use Rattle.tl_tree.specs.Sources.{source_at}
use Rattle.tl_tree.specs.TreeView.{rows_in}
use Rattle.tl_tree_safe.specs.Removed.{gone_of}
use Rattle.tl_tree_safe.specs.RemovalForms.{removals_written}
use Rattle.tl_tree_safe.proofs.removal_form.removals_in.Given as goal

-- what went so far is written
abbrev pub invariant-loop-removal : goal.invariant-loop-removal
invariant-loop-removal g l =
    l.told.items ≡ removals_written (g.F.RemovalForm.written l.form) (source_at l.tree) (rows_in l.tree) (map gone_of (take l.removal-index l.removals))
