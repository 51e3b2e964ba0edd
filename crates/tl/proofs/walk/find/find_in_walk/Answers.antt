use Rattle.std.proofs.Common.{List, false, inl, of_calls, refl, rules, subst, true, Ok, Some}
use Rattle.std.specs.Fn.{CalledAt}
use Rattle.tl.specs.Find.{FindsNodeOrStops, sights}
use Rattle.tl.specs.View.{HTMLNode}
use Rattle.tl.specs.Walker.{events_to_come}
use Rattle.tl.proofs.Searching.{stopped, found, passed}
use Rattle.tl.proofs.walk.find.find_in_walk.Goals as goal

pub returns-in-Err-clause-search : goal.returns-in-Err-clause-search
returns-in-Err-clause-search g c = c.loop-event.invariant.2 _ _ (stopped g.F.FnMut c.loop-event.f c.loop-event.walker.nodes.now (events_to_come c.loop-event.walker) c.in-Err.error c.in-Err.ensures.steps)

pub returns-then-f-clause-search : goal.returns-then-f-clause-search
returns-then-f-clause-search g c =
    let nodes = c.loop-event.walker.nodes.now in
    let h = c.in-Meets.handle in
    let node = c.in-Meets.node.now in
    let after = c.f.new.self in
    let steps = rw (c.in-Ok-Some.field-0-is, c.in-Meets.is) at c.in-Ok-Some.ensures.steps in
    let met = rw (c.in-Ok-Some.field-0-is, c.in-Meets.is) at c.in-Ok-Some.ensures.met in
    let called : CalledAt g.F.FnMut c.loop-event.f node true after = record { shown = _; shows = refl; called = c.if-f.ensures } in
    c.loop-event.invariant.2 (Ok (Some h)) after (rw steps (inl (found g.F.FnMut c.loop-event.f after nodes h node (sights nodes (events_to_come c.next_event.new.self)) met called)))

pub loop-event-preserved-else-f : goal.loop-event-preserved-else-f
loop-event-preserved-else-f g c =
    let nodes = c.loop-event.walker.nodes.now in
    let h = c.in-Meets.handle in
    let node = c.in-Meets.node.now in
    let after = c.f.new.self in
    let later = events_to_come c.next_event.new.self in
    let searches_on : List HTMLNode → _ → _ → Type 0 = λ table r q. FindsNodeOrStops g.F.FnMut after (sights table later) r q in
    let steps = rw (c.in-Ok-Some.field-0-is, c.in-Meets.is) at c.in-Ok-Some.ensures.steps in
    let met = rw (c.in-Ok-Some.field-0-is, c.in-Meets.is) at c.in-Ok-Some.ensures.met in
    let called : CalledAt g.F.FnMut c.loop-event.f node false after = record { shown = _; shows = refl; called = c.if-f.ensures } in (
      search (rules, of_calls),
      c.in-Ok-Some.ensures.marked,
      λ r q rest. c.loop-event.invariant.2 r q (rw steps (passed g.F.FnMut c.loop-event.f after q nodes h node (sights nodes later) r met called (subst (λ table. searches_on table r q) c.in-Ok-Some.ensures.table rest))),
      λ h p. let no = c.in-Ok-Some.ensures.dangling h (c.loop-event.invariant.3 h p) in cc,
    )
