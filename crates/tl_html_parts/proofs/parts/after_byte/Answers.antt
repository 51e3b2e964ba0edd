use Rattle.std.proofs.Common.{◌∙◌, sym}
use Rattle.tl_html_parts.proofs.Splits.{past_front}
use Rattle.tl_html_parts.proofs.parts.after_byte.Goals as goal

pub returns-then-is_at-clause-rest : goal.returns-then-is_at-clause-rest
returns-then-is_at-clause-rest c = sym (past_front c.args.byte c.args.text.now c.args.at (sym c.is_at.ensures ∙ c.if-is_at.true))
