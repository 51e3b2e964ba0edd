use Rattle.std.proofs.Common.{◌≡◌, ◌↔◌, ◌<◌, ℕ, length, true}
use Rattle.tl_tree_select.specs.Meaning.{IsTerm}
use Rattle.tl_tree_select.specs.Inner.Links.{count_at, is_at}
use Rattle.tl_tree_select.proofs.columns.terms.Given as goal

abbrev pub invariant-loop-number : goal.invariant-loop-number
invariant-loop-number l = record {
  len : length l.found.items ≡ l.number;
  each : (n : ℕ) → n < l.number → (is_at l.found.items n ≡ true) ↔ ((is_at l.marks n ≡ true) × IsTerm l.formula (count_at l.counts.items n));
}
