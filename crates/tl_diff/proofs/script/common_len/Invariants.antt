use Rattle.std.proofs.Common.{take, ◌≡◌}
use Rattle.tl_diff.specs.Scripts.{lines_said}
use Rattle.tl_diff.proofs.script.common_len.Given as goal

-- the lines so far are the same
abbrev pub invariant-loop-len : goal.invariant-loop-len
invariant-loop-len l = take l.len (lines_said l.left) ≡ take l.len (lines_said l.right)
