use Rattle.std.proofs.Common.{◌≡◌, length}
use Rattle.tl_tree_safe.specs.Fitted.{past_lines}
use Rattle.tl_tree_safe.proofs.texts.past_lines.Given as goal

abbrev pub invariant-loop-rest : goal.invariant-loop-rest
invariant-loop-rest l = past_lines l.characters ≡ past_lines l.rest

abbrev pub decreases-loop-rest : goal.decreases-loop-rest
decreases-loop-rest l = length l.rest
