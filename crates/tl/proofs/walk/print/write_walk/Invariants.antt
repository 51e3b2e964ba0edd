use Rattle.std.proofs.Common.{◌≡◌, ℕ, ◌++◌, length, flat_map, string_bytes}
use Rattle.std.specs.List.{AllByRecursion}
use Rattle.tl_spec.specs.Print.Clean.{MeetsOwnKeys}
use Rattle.tl_spec.specs.Print.{print_of_event}
use Rattle.tl_spec.specs.Walk.{fault_among}
use Rattle.tl_table.specs.TreeFault.{FirstDangles}
use Rattle.tl.specs.Walker.{events_to_come, IsMarked}
use Rattle.tl.proofs.walk.print.write_walk.Given as goal

abbrev pub invariant-loop-event : goal.invariant-loop-event
invariant-loop-event l = record {
  marked : IsMarked l.walker;
  bytes : string_bytes l.initial.out ++ flat_map print_of_event (events_to_come l.initial.walker) ≡ string_bytes l.out ++ flat_map print_of_event (events_to_come l.walker);
  faults : fault_among (events_to_come l.initial.walker) ≡ fault_among (events_to_come l.walker);
  own : AllByRecursion MeetsOwnKeys (events_to_come l.walker) → AllByRecursion MeetsOwnKeys (events_to_come l.initial.walker);
  dangling : (h : ℕ) → FirstDangles l.fn.walker.nodes.now l.fn.walker.rest.now h → FirstDangles l.walker.nodes.now l.walker.rest.now h;
}

abbrev pub decreases-loop-event : goal.decreases-loop-event
decreases-loop-event l = length (events_to_come l.walker)
