use Rattle.std.proofs.Common.{Bool, ℕ, ◌≡◌, ◌-◌, ◌≤◌, drop, length}
use Rattle.tl_html_spec.specs.HtmlTokenizer.{OpenTag}
use Rattle.tl_html_tokens.specs.Inner.InTag.{IsInTag}
use Rattle.tl_html_parts.specs.Rest.{tail_tokens}
use Rattle.tl_html_parts.proofs.tail.after_blank.Given as goal

abbrev pub invariant-loop-at : goal.invariant-loop-at
invariant-loop-at l = record {
  tokens : (tag : OpenTag) → tail_tokens tag (drop l.from l.text) ≡ tail_tokens tag (drop l.at l.text);
  tag : (start : ℕ) (is_end : Bool) → IsInTag l.text start l.from is_end → IsInTag l.text start l.at is_end;
  order : l.from ≤ l.at;
  within : l.at ≤ length l.text;
}

abbrev pub decreases-loop-at : goal.decreases-loop-at
decreases-loop-at l = length l.text - l.at
