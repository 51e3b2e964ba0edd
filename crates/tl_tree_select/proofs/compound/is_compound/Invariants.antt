use Rattle.std.proofs.Common.{◌≡◌, ◌<◌, ℕ, true, IfSome, slice_get}
use Rattle.tl_tree_select.specs.Inner.Compound.{fits}
use Rattle.tl_tree_select.proofs.compound.is_compound.Given as goal

abbrev pub invariant-loop-place : goal.invariant-loop-place
invariant-loop-place l = (k : ℕ) → k < l.place → IfSome (slice_get l.steps k) (λ step. fits k step ≡ true)
