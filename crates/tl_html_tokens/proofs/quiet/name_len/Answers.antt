use Rattle.std.proofs.Common.{◌||◌, ◌==◌}
use Rattle.tl_html_spec.specs.HtmlTokenizer.{ends_name}
use Rattle.tl_html_tokens.proofs.Plain.{all_before}
use Rattle.tl_html_tokens.proofs.quiet.name_len.Goals as goal

pub returns-else-is_inside_name-clause-quiet : goal.returns-else-is_inside_name-clause-quiet
returns-else-is_inside_name-clause-quiet c =
    all_before (λ b. ends_name b || (b == 61) || (b == 13)) c.args.text.now c.loop-at.at c.loop-at.invariant.bound c.loop-at.invariant.passed

pub returns-after-loop-at-clause-quiet : goal.returns-after-loop-at-clause-quiet
returns-after-loop-at-clause-quiet c =
    all_before (λ b. ends_name b || (b == 61) || (b == 13)) c.args.text.now c.loop-at.at c.loop-at.invariant.bound c.loop-at.invariant.passed
