use Rattle.std.proofs.Common.{◌≡◌, ℕ, ◌-◌, ◌<◌, ◌≤◌, ◌||◌, ◌==◌, false, get_or, length}
use Rattle.tl_html_spec.specs.HtmlTokenizer.{ends_name}
use Rattle.tl_html_tokens.proofs.quiet.name_len.Given as goal

abbrev pub invariant-loop-at : goal.invariant-loop-at
invariant-loop-at l = record {
  bound : l.at ≤ length l.text;
  passed : (k : ℕ) → k < l.at → (ends_name (get_or l.text k 0) || (get_or l.text k 0 == 61) || (get_or l.text k 0 == 13)) ≡ false;
}

abbrev pub decreases-loop-at : goal.decreases-loop-at
decreases-loop-at l = length l.text - l.at
