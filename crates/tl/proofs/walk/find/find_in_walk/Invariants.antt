use Rattle.std.proofs.Common.{ℕ, length}
use denote.Param.Always.{always_mut}
use Rattle.tl.specs.Find.{FindsNodeOrStops, sights}
use Rattle.tl_table.specs.TreeFault.{FirstDangles}
use Rattle.tl.specs.Walker.{IsMarked, events_to_come}
use Rattle.tl.proofs.walk.find.find_in_walk.Given as goal

abbrev pub invariant-loop-event : goal.invariant-loop-event
invariant-loop-event g l =
    always_mut g.F.FnMut l.f × IsMarked l.walker
    × ((r : _) (q : _) → FindsNodeOrStops g.F.FnMut l.f (sights l.walker.nodes.now (events_to_come l.walker)) r q → FindsNodeOrStops g.F.FnMut l.fn.f (sights l.initial.walker.nodes.now (events_to_come l.initial.walker)) r q)
    × ((h : ℕ) → FirstDangles l.fn.walker.nodes.now l.fn.walker.rest.now h → FirstDangles l.walker.nodes.now l.walker.rest.now h)

abbrev pub decreases-loop-event : goal.decreases-loop-event
decreases-loop-event g l = length (events_to_come l.walker)
