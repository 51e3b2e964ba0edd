use Rattle.std.proofs.Common.{List, [], ap, ◌++◌, ◌∙◌, ◌∷◌}
use Rattle.tl_tree.specs.declared.source.Bounds.{Bounds}
use Rattle.tl_tree.proofs.source.begun.Goals as goal

pub returns : goal.returns
returns c =
    c.in_ok-push.ensures
    ∙ ap (λ (own : List Bounds). own ++ record { start = 0; end = c.args.begin } ∷ []) c.in_ok-sources.ensures
