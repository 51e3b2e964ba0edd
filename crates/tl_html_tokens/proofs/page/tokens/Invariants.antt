use Rattle.std.proofs.Common.{◌-◌, length}
use Rattle.tl_html_tokens.specs.Tokens.{mark_len}
use Rattle.tl_html_tokens.proofs.Joining.{IsRead}
use Rattle.tl_html_tokens.proofs.page.tokens.Given as goal

abbrev pub invariant-loop-last : goal.invariant-loop-last
invariant-loop-last l = IsRead l.page (mark_len l.page) l.tokens.items l.last l.mode

abbrev pub decreases-loop-last : goal.decreases-loop-last
decreases-loop-last l = length l.page - l.last.end
