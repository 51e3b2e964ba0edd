use Rattle.std.proofs.Common.{◌≡◌, ◌-◌, ◌⊎◌, ℕ, List, true, length, drop}
use Rattle.std.specs.List.{list_any}
use Rattle.std.specs.Str.{bytes_eq}
use Rattle.tl_spec.specs.Lookup.ClassMember.{parts}
use Rattle.tl_attributes.specs.Summary.{fingerprint_of, MayBeMember}
use Rattle.tl_attributes.proofs.summary.class_bits.Given as goal

abbrev pub invariant-loop-at : goal.invariant-loop-at
invariant-loop-at l =
    (member : List ℕ) → list_any (bytes_eq member) (parts l.class) ≡ true → MayBeMember l.bits (fingerprint_of member) ⊎ (list_any (bytes_eq member) (parts (drop l.at l.class)) ≡ true)

abbrev pub decreases-loop-at : goal.decreases-loop-at
decreases-loop-at l = length l.class - l.at
