use Rattle.std.proofs.Common.{◌≡◌, ◌<◌, ℕ, length}
use Rattle.tl_tree_select.specs.Inner.Links.{is_at, source_mark}
use Rattle.tl_tree_select.proofs.links.sources.Given as goal

abbrev pub invariant-loop-number : goal.invariant-loop-number
invariant-loop-number l = record {
  len : length l.found.items ≡ l.number;
  each : (n : ℕ) → n < l.number → is_at l.found.items n ≡ source_mark l.links l.marks l.often l.found.items n;
}
