use Rattle.std.proofs.Common.{ap, sym, ◌∙◌, ◌≡◌}
use Rattle.tl_dom_spec.specs.Builder.{in_body}
use Rattle.tl_dom_spec.specs.Dispatcher.{calm}
use Rattle.tl_dom_spec.specs.Groups.{group}
use Rattle.tl_dom_spec.specs.Tags.{is_html}
use Rattle.tl_html_parts.specs.Places.{part_in}
use Rattle.tl_tree.proofs.IgnoredTags.{ignored-step}
use Rattle.tl_tree.proofs.Sought.{is-opened}
use Rattle.tl_tree.specs.Inner.Builders.{builder_of}
use Rattle.tl_tree.specs.Inner.GroupNames.{group_view}
use Rattle.tl_tree.specs.Inner.Modes.{mode_of}
use Rattle.tl_tree.specs.declared.builder.Builder.{Builder}
use Rattle.tl_tree.proofs.builder.Builder.ignored_group.Goals as goal

mode-is : (b : Builder) → mode_of b.mode ≡ in_body → (builder_of b).mode ≡ in_body
unfolding builder_of
mode-is b e = e

pub returns-then-is_html-clause-group : goal.returns-then-is_html-clause-group
returns-then-is_html-clause-group c =
    let name = part_in c.args.self.now.path.store.page.now c.args.name in
    c.group_of-group.ensures name c.of-known.ensures
    ∙ ap group (sym (c.requires.plain (is-opened c.args.name.is_plain c.if-not-name.false)))

pub returns-then-is_html-clause-ignored : goal.returns-then-is_html-clause-ignored
returns-then-is_html-clause-ignored c = λ t closes.
    let b = builder_of c.args.self.now in
    let g = group_view c.group_of-group.result in
    ignored-step b g t closes
    (mode-is c.args.self.now (c.is_in_body.ensures c.if-not-is_in_body.false))
    (sym (c.is_html.ensures ∙ ap is_html c.adjusted_tag.ensures.stands) ∙ c.if-is_html.true)
    (c.is_ignored.ensures (calm b) t closes c.if-not-is_ignored.false)
