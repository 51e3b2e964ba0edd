use Rattle.std.proofs.Common.{length, ◌-◌}
use Rattle.tl_spec.specs.Tree.Builder.{IsReached}
use Rattle.tl.specs.Builder.{state_of, AreHeld}
use Rattle.tl.proofs.parser.builder.read.Given as goal

abbrev pub invariant-loop-token : goal.invariant-loop-token
invariant-loop-token g l = record {
  reached : IsReached (g.S.Source.text l.fn.source) l.at (state_of l.table);
  held : AreHeld g.S.Source.held l.table;
}

abbrev pub decreases-loop-token : goal.decreases-loop-token
decreases-loop-token g l = length (g.S.Source.text l.fn.source) - l.at
