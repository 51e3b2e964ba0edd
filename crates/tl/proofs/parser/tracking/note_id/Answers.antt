use Rattle.std.proofs.Common.{[], ◌∷◌, ◌++◌, sym, ◌∙◌}
use Rattle.tl.specs.View.{node_view}
use Rattle.tl.proofs.Tracked.{ids-untracked}
use Rattle.tl.proofs.parser.tracking.note_id.Goals as goal

pub returns-then-not-is_tracking_ids-clause-ids : goal.returns-then-not-is_tracking_ids-clause-ids
returns-then-not-is_tracking_ids-clause-ids c =
    λ nodes e h. ids-untracked c.args.tracking.now (nodes ++ node_view c.args.node.now ∷ []) (sym c.is_tracking_ids.ensures ∙ c.if-not-is_tracking_ids.true)
