use Rattle.std.proofs.Common.{ap, not, sym, ◌&&◌, ◌∙◌}
use Rattle.tl_dom_spec.specs.Formatting.{is_listed}
use Rattle.tl_dom_spec.specs.Path.{Frame, top}
use Rattle.tl_tree.specs.Inner.Active.{active_of}
use Rattle.tl_tree.specs.Inner.Builders.{builder_of}
use Rattle.tl_tree.specs.Inner.Frames.{path_of}
use Rattle.tl_tree.proofs.builder.Builder.is_current_alone.Goals as goal

pub returns-then-is_current : goal.returns-then-is_current
unfolding builder_of
returns-then-is_current c =
    let b = c.args.self.now in
    let entries = active_of b.path.store b.active in
    let own = top (path_of b.path) in
    ap not (c.is_listed.ensures b.path.store ∙ ap (λ (f : Frame). is_listed f.number entries) c.top.ensures.stands)
    ∙ ap (λ x. x && not (is_listed own.number entries)) (sym c.if-is_current.true ∙ c.is_current.ensures)

pub returns-else-is_current : goal.returns-else-is_current
unfolding builder_of
returns-else-is_current c =
    let b = c.args.self.now in
    let entries = active_of b.path.store b.active in
    let own = top (path_of b.path) in
    c.if-is_current.false
    ∙ ap (λ x. x && not (is_listed own.number entries)) (sym c.if-is_current.false ∙ c.is_current.ensures)
