use Rattle.tl_html_parts.specs.Bytes.{is_plain_of}
use Rattle.tl_html_parts.proofs.Splits.{all_up_to}
use Rattle.tl_html_parts.proofs.byte_class.plain_len.Goals as goal

pub returns-else-keeps-clause-plain : goal.returns-else-keeps-clause-plain
returns-else-keeps-clause-plain c = all_up_to (is_plain_of c.args.class) c.args.text.now c.loop-at.at c.loop-at.invariant.bound c.loop-at.invariant.passed

pub returns-after-loop-at-clause-plain : goal.returns-after-loop-at-clause-plain
returns-after-loop-at-clause-plain c = all_up_to (is_plain_of c.args.class) c.args.text.now c.loop-at.at c.loop-at.invariant.bound c.loop-at.invariant.passed
