use Rattle.std.proofs.Common.{◌≡◌, ◌++◌, length}
use Rattle.tl_cli.specs.Visible.{visible, visible_behind}
use Rattle.tl_cli.proofs.visible.visible.Given as goal

abbrev pub decreases-loop-rest : goal.decreases-loop-rest
decreases-loop-rest l = length l.rest

-- what is shown, and then what is left, is the whole
abbrev pub invariant-loop-rest : goal.invariant-loop-rest
invariant-loop-rest l = l.shown.items ++ visible_behind l.before l.rest ≡ visible l.bytes
