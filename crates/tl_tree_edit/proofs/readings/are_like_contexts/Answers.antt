use Rattle.std.proofs.Common.{sym, true≢false, ◌∙◌}
use Rattle.tl_tree.specs.Asked.{node_at}
use Rattle.tl_tree.specs.TreeView.{rows_in}
use Rattle.tl_tree_edit.proofs.Held.{contexts_alike}
use Rattle.tl_tree_edit.proofs.readings.are_like_contexts.Goals as goal

pub returns : goal.returns
returns c =
    λ is.
    contexts_alike c.args.is_adjacent (node_at (rows_in c.args.tree.now) c.args.one) (node_at (rows_in c.args.tree.now) c.args.other)
    (λ e. true≢false (sym (c.is_math.ensures.1 e) ∙ c.if-is_math.false))
    (c.are_spaced_alike.ensures.0 c.if-not-are_spaced_alike.false) (c.are_named_alike.ensures.0 is)
