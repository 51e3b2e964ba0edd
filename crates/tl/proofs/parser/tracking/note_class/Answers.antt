use Rattle.std.proofs.Common.{[], ◌∷◌, ◌++◌, sym, ◌∙◌}
use Rattle.tl.specs.View.{node_view}
use Rattle.tl.proofs.Tracked.{classes-untracked}
use Rattle.tl.proofs.parser.tracking.note_class.Goals as goal

pub returns-then-not-is_tracking_classes-clause-classes : goal.returns-then-not-is_tracking_classes-clause-classes
returns-then-not-is_tracking_classes-clause-classes c =
    λ nodes e h. classes-untracked c.args.tracking.now (nodes ++ node_view c.args.node.now ∷ []) (sym c.is_tracking_classes.ensures ∙ c.if-not-is_tracking_classes.true)
