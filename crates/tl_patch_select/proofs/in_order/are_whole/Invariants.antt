use Rattle.std.proofs.Common.{take, ℕ}
use Rattle.std.specs.List.{All}
use Rattle.tl_patch_select.specs.Inner.Sources.{IsWholeOf}
use Rattle.tl_patch_select.proofs.in_order.are_whole.Given as goal

-- those so far are whole
abbrev pub invariant-loop-at : goal.invariant-loop-at
invariant-loop-at l = (tail : ℕ) → All (IsWholeOf l.elements l.tree tail) (take l.at l.numbers)
