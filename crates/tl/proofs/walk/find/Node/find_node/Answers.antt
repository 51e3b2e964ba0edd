use Rattle.std.proofs.Common.{inl, refl}
use Rattle.tl.proofs.walk.find.Node.find_node.Goals as goal

pub returns-in-Raw-clause-search : goal.returns-in-Raw-clause-search
returns-in-Raw-clause-search g c = rw c.in-Raw.is (inl (refl, refl))

pub returns-in-Comment-clause-search : goal.returns-in-Comment-clause-search
returns-in-Comment-clause-search g c = rw c.in-Comment.is (inl (refl, refl))

pub returns-in-Tag-clause-search : goal.returns-in-Tag-clause-search
returns-in-Tag-clause-search g c =
    rw c.in-Tag.is (rw (c.new-walker.ensures.left, c.new-walker.ensures.table, c.nodes.ensures.value, c.as_slice-handles.ensures, c.child_handles.ensures) at c.find_in_walk.ensures.search)
