use Rattle.std.proofs.Common.{length, ◌-◌}
use Rattle.tl.proofs.ReadAttributes.{IsReadUpTo}
use Rattle.tl.proofs.parser.builder.attribute.read_attributes.Given as goal

abbrev pub invariant-loop-place : goal.invariant-loop-place
invariant-loop-place g l = IsReadUpTo g.S.Source.held (g.S.Source.text l.fn.source) l.fn.at l.end l.attributes

abbrev pub decreases-loop-place : goal.decreases-loop-place
decreases-loop-place g l = length (g.S.Source.text l.fn.source) - l.end
