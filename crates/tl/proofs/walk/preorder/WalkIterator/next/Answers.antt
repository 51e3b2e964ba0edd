use Rattle.std.proofs.Common.{◌≡◌, ◌<◌, length, rules, None, Some, Ok, Err, subst}
use Rattle.tl.specs.Remaining.{Place, events_of, remaining_of}
use Rattle.tl.specs.Walker.{IsNext, place_of, event_view}
use Rattle.tl.proofs.Remaining.{fewer-error, fewer-step, given-end, given-error, given-event}
use Rattle.tl.proofs.walk.preorder.WalkIterator.next.Goals as goal

pub returns-in-Ok-Some-clause-steps : goal.returns-in-Ok-Some-clause-steps
returns-in-Ok-Some-clause-steps c =
    let taken = rw c.in-Ok-Some.field-0-is at c.in-Ok-Some.ensures.steps_on in
    subst (λ (p : Place). IsNext p (Some (Ok c.in-Ok-Some.event)) (place_of c.next_event.new.self)) c.self.view_is
    (given-event c.self.inside.walker c.next_event.new.self c.in-Ok-Some.event (taken c.self.invariant.1))

pub returns-in-Ok-Some-clause-goes : goal.returns-in-Ok-Some-clause-goes
returns-in-Ok-Some-clause-goes c =
    let less : length (events_of (place_of c.next_event.new.self)) < length (events_of c.args.self.now) =
    fewer-step (remaining_of c.args.self.now) (event_view c.in-Ok-Some.event) (remaining_of (place_of c.next_event.new.self)) (returns-in-Ok-Some-clause-steps c) in
    search (rules, less)

pub returns-in-Ok-None-clause-steps : goal.returns-in-Ok-None-clause-steps
returns-in-Ok-None-clause-steps c =
    let taken = rw c.in-Ok-None.field-0-is at c.in-Ok-None.ensures.steps_on in
    subst (λ (p : Place). IsNext p None (place_of c.next_event.new.self)) c.self.view_is
    (given-end c.self.inside.walker c.next_event.new.self (taken c.self.invariant.1))

pub returns-in-Err-clause-steps : goal.returns-in-Err-clause-steps
returns-in-Err-clause-steps c =
    subst (λ (p : Place). IsNext p (Some (Err c.in-Err.error)) (place_of c.stop.new.self)) c.self.view_is
    (given-error c.self.inside.walker c.stop.new.self c.in-Err.error (c.in-Err.ensures.steps_on c.self.invariant.1) c.stop.ensures.remaining)

pub returns-in-Err-clause-goes : goal.returns-in-Err-clause-goes
returns-in-Err-clause-goes c =
    let ended = returns-in-Err-clause-steps c in
    let less : length (events_of (place_of c.stop.new.self)) < length (events_of c.args.self.now) =
    fewer-error (remaining_of c.args.self.now) (remaining_of (place_of c.stop.new.self)) c.in-Err.error ended.0 ended.1 in
    search (rules, less)
