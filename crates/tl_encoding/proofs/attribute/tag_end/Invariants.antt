use Rattle.std.proofs.Common.{◌≡◌, ◌-◌, length}
use Rattle.tl_encoding.specs.Attributes.{after_attributes, tag_end}
use Rattle.tl_encoding.proofs.attribute.tag_end.Given as goal

-- what is left of the tag ends where the tag does
abbrev pub invariant-loop-step : goal.invariant-loop-step
invariant-loop-step l = tag_end l.tag ≡ after_attributes (length l.tag - l._step) l.rest
