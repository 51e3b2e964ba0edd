use Rattle.tl_tree_select.specs.Page.{seen}
use Rattle.tl_tree_select.proofs.Twins.{Twinned}
use Rattle.tl_tree_select.proofs.twin.twins.Given as goal

abbrev pub invariant-loop-number : goal.invariant-loop-number
invariant-loop-number l = Twinned (seen l.page) l.siblings l.number l.links.items l.latest
