use Rattle.std.proofs.Common.{◌<◌, ◌≤◌, ℕ}
use Rattle.tl_tree_select.specs.Page.{seen}
use Rattle.tl_tree_select.specs.Inner.Compound.{HoldsAt}
use Rattle.tl_tree_select.proofs.compound.hold_from.Given as goal

abbrev pub invariant-loop-place : goal.invariant-loop-place
invariant-loop-place l = record {
  from : l.from ≤ l.place;
  hold : (k : ℕ) → l.from ≤ k → k < l.place → HoldsAt (seen l.page) l.steps k l.number;
}
