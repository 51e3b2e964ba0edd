use Rattle.std.proofs.Common.{◌&&◌, ℕ, Bool}
use Rattle.tl_html_parts.specs.Bytes.{is_kept_in_value}
use Rattle.tl_html_parts.specs.Inner.Tail.{is_other}
use Rattle.tl_html_parts.proofs.Splits.{all_up_to}
use Rattle.tl_html_parts.proofs.value.plain_len.Goals as goal

abbrev plain : ℕ → ℕ → Bool
plain quote b = is_other quote b && is_kept_in_value b

pub returns-else-is_kept_in_value-clause-plain : goal.returns-else-is_kept_in_value-clause-plain
returns-else-is_kept_in_value-clause-plain c = all_up_to (plain c.args.quote) c.args.text.now c.loop-at.at c.loop-at.invariant.bound c.loop-at.invariant.passed

pub returns-else-text-at-clause-plain : goal.returns-else-text-at-clause-plain
returns-else-text-at-clause-plain c = all_up_to (plain c.args.quote) c.args.text.now c.loop-at.at c.loop-at.invariant.bound c.loop-at.invariant.passed

pub returns-after-loop-at-clause-plain : goal.returns-after-loop-at-clause-plain
returns-after-loop-at-clause-plain c = all_up_to (plain c.args.quote) c.args.text.now c.loop-at.at c.loop-at.invariant.bound c.loop-at.invariant.passed
