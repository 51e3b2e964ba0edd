use Rattle.std.proofs.Common.{◌≡◌, ℕ, ◌-◌, ◌<◌, ◌≤◌, ◌&&◌, true, get_or, length}
use Rattle.tl_html_parts.specs.Bytes.{is_kept_in_value}
use Rattle.tl_html_parts.specs.Inner.Tail.{is_other}
use Rattle.tl_html_parts.proofs.value.plain_len.Given as goal

abbrev pub invariant-loop-at : goal.invariant-loop-at
invariant-loop-at l = record {
  bound : l.at ≤ length l.text;
  passed : (k : ℕ) → k < l.at → (is_other l.quote (get_or l.text k 0) && is_kept_in_value (get_or l.text k 0)) ≡ true;
}

abbrev pub decreases-loop-at : goal.decreases-loop-at
decreases-loop-at l = l.most - l.at
