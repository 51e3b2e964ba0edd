use Rattle.std.proofs.Common.{refl, sym, ◌∙◌}
use Rattle.tl_css.proofs.Runs.{comment_lt, past_some, past_none}
use Rattle.tl_css.proofs.text.gap.past_comments.Goals as goal

pub comments-smaller : goal.comments-smaller
comments-smaller c = comment_lt _ _ c.in-Some.ensures

pub comments-preserved : goal.comments-preserved
comments-preserved c = past_some _ _ c.in-Some.ensures ∙ c.comments.invariant

pub returns : goal.returns
returns c = sym (past_none _ c.in_default.ensures) ∙ c.comments.invariant
