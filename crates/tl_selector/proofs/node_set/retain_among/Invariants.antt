use Rattle.std.proofs.Common.{◌≡◌, ◌<◌, ◌≤◌, ◌&&◌, ℕ, length}
use Rattle.std.specs.Option.{option_copied}
use Rattle.tl_selector.specs.NodeSet.{is_among, is_at}
use Rattle.tl_selector.proofs.node_set.retain_among.Given as goal

abbrev pub invariant-loop-number : goal.invariant-loop-number
invariant-loop-number l = record {
  len : length l.mark-items ≡ length l.fn.marks.items;
  done : (n : ℕ) → n < l.number → is_at l.mark-items n ≡ (is_at l.fn.marks.items n && is_among (option_copied l.among) n);
  left : (n : ℕ) → l.number ≤ n → is_at l.mark-items n ≡ is_at l.fn.marks.items n;
}
