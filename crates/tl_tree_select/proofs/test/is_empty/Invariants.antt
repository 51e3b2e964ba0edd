use Rattle.std.proofs.Common.{◌↔◌}
use Rattle.std.specs.List.{All}
use Rattle.tl_tree.specs.Asked.{children_at}
use Rattle.tl_tree_select.specs.Meaning.{IsNothing}
use Rattle.tl_tree_select.specs.Page.{seen}
use Rattle.tl_tree_select.proofs.test.is_empty.Given as goal

abbrev pub invariant-loop-child : goal.invariant-loop-child
invariant-loop-child l =
    All (IsNothing (seen l.page)) (children_at (seen l.page).rows l.number) ↔ All (IsNothing (seen l.page)) l.child-iterator
