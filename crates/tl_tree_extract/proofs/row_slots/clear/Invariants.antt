use Rattle.std.proofs.Common.{get_or, length, ℕ, ◌<◌, ◌≡◌}
use Rattle.tl_tree_extract.proofs.row_slots.clear.Given as goal

abbrev pub invariant-loop : goal.invariant-loop
invariant-loop l = record {
  size : length l.slots.items ≡ l.counter;
  empty : (k : ℕ) → k < length l.slots.items → get_or l.slots.items k 0 ≡ l.cells;
}
