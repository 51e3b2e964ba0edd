use Rattle.std.proofs.Common.{drop, get_or, length, ℕ, ◌+◌, ◌<◌, ◌≡◌, ◌≤◌}
use Rattle.tl_tree_extract.specs.Inner.Slots.{first_across}
use Rattle.tl_tree_extract.proofs.row_slots.put_cells.Given as goal

abbrev pub invariant-loop-index : goal.invariant-loop-index
invariant-loop-index l = record {
  within : l.index ≤ length l.open;
  size : length l.slots ≡ length l.fn.slots;
  here : (k : ℕ) → k < length l.fn.slots → get_or l.slots k 0 ≡ l.index + first_across k (drop l.index l.open);
}

abbrev pub decreases-loop-index : goal.decreases-loop-index
decreases-loop-index l = l.index
