use Rattle.std.proofs.Common.{◌≡◌, ◌-◌, Bool, drop, length}
use Rattle.tl_patch.specs.Places.{has_name_end}
use Rattle.tl_patch_spec.specs.TagNames.{IsInName}
use Rattle.tl_patch.proofs.name.name_end.Given as goal

abbrev pub invariant-loop-end : goal.invariant-loop-end
invariant-loop-end l =
    ((is_end : Bool) → IsInName is_end l.from l.tag → IsInName is_end l.end l.tag)
    × (has_name_end (drop l.end l.tag) ≡ has_name_end (drop l.from l.tag))

abbrev pub decreases-loop-end : goal.decreases-loop-end
decreases-loop-end l = length l.tag - l.end
