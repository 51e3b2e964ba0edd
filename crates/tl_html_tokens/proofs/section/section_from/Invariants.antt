use Rattle.std.proofs.Common.{◌≡◌, ◌+◌, ◌-◌, ◌≤◌, drop, length}
use Rattle.tl_html_tokens.specs.Sections.{section_len, section_past}
use Rattle.tl_html_tokens.proofs.section.section_from.Given as goal

abbrev pub invariant-loop-at : goal.invariant-loop-at
invariant-loop-at l = record {
  within : l.at ≤ length l.page;
  text : l.from + section_len (drop l.from l.page) ≡ l.at + section_len (drop l.at l.page);
  past : l.from + section_past (drop l.from l.page) ≡ l.at + section_past (drop l.at l.page);
}

abbrev pub decreases-loop-at : goal.decreases-loop-at
decreases-loop-at l = length l.page - l.at
