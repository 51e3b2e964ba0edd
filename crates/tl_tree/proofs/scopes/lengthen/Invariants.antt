use Rattle.std.proofs.Common.{get_or, length, ℕ, ◌+◌, ◌-◌, ◌≡◌, ◌≤◌}
use Rattle.tl_tree.proofs.scopes.lengthen.Given as goal

abbrev pub invariant-loop-numbers : goal.invariant-loop-numbers
invariant-loop-numbers l = record {
  longer : length l.fn.numbers.items ≤ length l.numbers.items;
  same : (n : ℕ) → get_or l.numbers.items n 0 ≡ get_or l.fn.numbers.items n 0;
}

abbrev pub decreases-loop-numbers : goal.decreases-loop-numbers
decreases-loop-numbers l = l.place + 1 - length l.numbers.items
