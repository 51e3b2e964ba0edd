use Rattle.std.proofs.Common.{◌≡◌, ◌++◌, flat_map}
use Rattle.tl_tree.specs.Asked.{children_at}
use Rattle.tl_tree.specs.TreeView.{rows_in}
use Rattle.tl_tree_extract.specs.Table.{first_steps, last_steps, steps_of}
use Rattle.tl_tree_extract.proofs.tables.steps_of.Given as goal

abbrev pub invariant-first : goal.invariant-first
invariant-first l =
    l.steps.items ++ flat_map (first_steps (rows_in l.tree)) l.child-iterator
    ≡ flat_map (first_steps (rows_in l.tree)) (children_at (rows_in l.tree) l.table)

abbrev pub invariant-last : goal.invariant-last
invariant-last l =
    l.steps.items ++ flat_map (last_steps (rows_in l.tree)) l.child-iterator
    ≡ steps_of (rows_in l.tree) l.table
