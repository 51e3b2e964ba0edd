use Rattle.std.proofs.Common.{◌≡◌, length}
use Rattle.tl_css.specs.Lexical.{past_comments}
use Rattle.tl_css.proofs.text.gap.past_comments.Given as goal

abbrev pub invariant-comments : goal.invariant-comments
invariant-comments l = past_comments l.left ≡ past_comments l.s

abbrev pub decreases-comments : goal.decreases-comments
decreases-comments l = length l.left
