use Rattle.std.proofs.Common.{false, get_or, length, ℕ, ◌<◌, ◌≡◌}
use Rattle.tl_tree_extract.proofs.marks.no_marks.Given as goal

abbrev pub invariant-loop : goal.invariant-loop
invariant-loop l = record {
  count : length l.marks.items ≡ l.counter;
  none : (n : ℕ) → n < l.counter → get_or l.marks.items n false ≡ false;
}
