use Rattle.std.proofs.Common.{All, false, take, ◌≡◌}
use Rattle.tl_values.proofs.Splits.{is_mark}
use Rattle.tl_values.proofs.parameters.split_parameter.Given as goal

-- no mark so far
abbrev pub invariant-loop-at : goal.invariant-loop-at
invariant-loop-at l = All (λ x. is_mark x ≡ false) (take l.at l.query)
