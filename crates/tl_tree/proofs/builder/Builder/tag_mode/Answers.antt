use Rattle.std.proofs.Common.{None, ap, cond, sym, ◌∙◌}
use Rattle.tl_dom_spec.specs.Groups.{group}
use Rattle.tl_dom_spec.specs.Reset as reset
use Rattle.tl_tree.specs.Inner.Builders.{builder_of}
use Rattle.tl_tree.specs.Inner.Store.{bytes_of, tag_of}
use Rattle.tl_tree.proofs.builder.Builder.tag_mode.Goals as goal

pub returns-then-not-is_html : goal.returns-then-not-is_html
unfolding tag_of
returns-then-not-is_html c =
    let b = c.args.self.now in
    let d = builder_of b in
    let name = bytes_of b.path.store c.tag-entry.result.name in
    sym (ap (reset.tag_mode d c.args.is_last) (sym c.tag-entry.ensures.stands)
    ∙ ap (λ h. cond h (reset.mode_at d c.args.is_last (group name)) None) (sym c.is_html.ensures ∙ c.if-not-is_html.true))

pub returns : goal.returns
unfolding tag_of
returns c =
    let b = c.args.self.now in
    let d = builder_of b in
    let name = bytes_of b.path.store c.tag-entry.result.name in
    c.mode_at.ensures
    ∙ (ap (reset.mode_at d c.args.is_last) (c.group_of.ensures name c.tag-entry.ensures.known)
    ∙ sym (ap (reset.tag_mode d c.args.is_last) (sym c.tag-entry.ensures.stands)
    ∙ ap (λ h. cond h (reset.mode_at d c.args.is_last (group name)) None) (sym c.is_html.ensures ∙ c.if-not-is_html.false)))
