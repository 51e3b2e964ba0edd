use Rattle.std.proofs.Common.{ap, sym, ◌∙◌}
use Rattle.tl_tree.specs.Inner.AtRest.{is_open_or_none}
use Rattle.tl_tree.specs.Inner.Builders.{builder_of}
use Rattle.tl_tree.specs.Inner.Frames.{path_of}
use Rattle.tl_tree.proofs.builder.Builder.is_rebuilt.Goals as goal

pub returns-in-Some : goal.returns-in-Some
unfolding builder_of
returns-in-Some c =
    let b = c.args.self.now in
    c.is_open_number.ensures
    ∙ ap (λ own. is_open_or_none own (path_of b.path)) (sym c.in-Some.is ∙ c.latest.ensures b.path.store)

pub returns-in-None : goal.returns-in-None
unfolding builder_of
returns-in-None c =
    let b = c.args.self.now in
    ap (λ own. is_open_or_none own (path_of b.path)) (sym c.in-None.is ∙ c.latest.ensures b.path.store)
