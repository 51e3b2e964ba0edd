use Rattle.std.proofs.Common.{arith, rules}
use Rattle.std.proofs.lemmas.Grind.{common_steps}
use Rattle.tl.proofs.walk.print.write_walk.Goals as goal

pub loop-event-preserved : goal.loop-event-preserved
loop-event-preserved c = record {
  marked = search rules;
  bytes = grind (arith, common_steps);
  faults = search rules;
  own = search rules;
  dangling = λ h p. let no = c.in-Ok-Some.ensures.dangling h (c.loop-event.invariant.dangling h p) in cc;
}
