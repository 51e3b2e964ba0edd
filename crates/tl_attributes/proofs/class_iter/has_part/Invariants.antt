use Rattle.std.proofs.Common.{◌≡◌, ◌-◌, length, drop}
use Rattle.std.specs.List.{list_any}
use Rattle.std.specs.Str.{bytes_eq}
use Rattle.tl_spec.specs.Lookup.ClassMember.{parts}
use Rattle.tl_attributes.proofs.class_iter.has_part.Given as goal

abbrev pub invariant-loop-at : goal.invariant-loop-at
invariant-loop-at l = list_any (bytes_eq l.part) (parts l.bytes) ≡ list_any (bytes_eq l.part) (parts (drop l.at l.bytes))

abbrev pub decreases-loop-at : goal.decreases-loop-at
decreases-loop-at l = length l.bytes - l.at
