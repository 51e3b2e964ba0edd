use Rattle.std.proofs.Common.{◌≡◌, ◌-◌, length}
use Rattle.tl_encoding.specs.Attributes.{value_among, value_at}
use Rattle.tl_encoding.proofs.attribute.value_at.Given as goal

-- what is left of the tag has the value that the tag has
abbrev pub invariant-loop-step : goal.invariant-loop-step
invariant-loop-step l = value_at l.word l.tag ≡ value_among (length l.tag - l._step) l.word l.rest
