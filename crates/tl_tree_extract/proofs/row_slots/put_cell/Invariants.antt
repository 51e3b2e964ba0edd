use Rattle.std.proofs.Common.{if◌then◌else◌, get_or, length, nat_le, nat_lt, ℕ, ◌&&◌, ◌<◌, ◌≡◌}
use Rattle.tl_tree_extract.proofs.row_slots.put_cell.Given as goal

abbrev pub invariant-loop-column : goal.invariant-loop-column
invariant-loop-column l = record {
  size : length l.slots ≡ length l.fn.slots;
  here : (k : ℕ) → k < length l.fn.slots → get_or l.slots k 0 ≡ (if nat_le l.fn.cell.left k && nat_lt k l.column then l.index else get_or l.fn.slots k 0);
  ended : l.fn.cell.right < l.column → l.column ≡ l.fn.cell.left;
}
