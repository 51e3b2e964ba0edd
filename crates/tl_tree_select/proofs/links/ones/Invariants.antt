use Rattle.std.proofs.Common.{◌≡◌, ◌<◌, ℕ, length}
use Rattle.tl_tree_select.specs.Inner.Links.{count_at, is_at, one_if}
use Rattle.tl_tree_select.proofs.links.ones.Given as goal

abbrev pub invariant-loop-number : goal.invariant-loop-number
invariant-loop-number l = record {
  len : length l.counts.items ≡ l.number;
  each : (n : ℕ) → n < l.number → count_at l.counts.items n ≡ one_if (is_at l.marks n);
}
