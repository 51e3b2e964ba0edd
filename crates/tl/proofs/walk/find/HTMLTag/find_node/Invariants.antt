use Rattle.std.proofs.Common.{drop, map}
use denote.Param.Always.{always_mut}
use Rattle.tl.specs.Find.{FindsNode, sight}
use Rattle.tl.proofs.walk.find.HTMLTag.find_node.Given as goal

abbrev pub invariant-loop-child : goal.invariant-loop-child
invariant-loop-child g l =
    always_mut g.F.FnMut l.f
    × ((r : _) (q : _) → FindsNode g.F.FnMut l.f (map (sight l.parser.nodes) (drop l.child-index l.child-items)) r q
    → FindsNode g.F.FnMut l.fn.f (map (sight l.parser.nodes) l.child-items) r q)
