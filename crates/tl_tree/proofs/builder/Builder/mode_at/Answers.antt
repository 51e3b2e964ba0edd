use Rattle.std.proofs.Common.{Some, ap, cond, sym, ◌∙◌}
use Rattle.tl_dom_spec.specs.Builder.{after_head, before_head}
use Rattle.tl_dom_spec.specs.Reset as reset
use Rattle.tl_tree.specs.Inner.Builders.{builder_of}
use Rattle.tl_tree.specs.Inner.GroupNames.{group_view}
use Rattle.tl_tree.proofs.builder.Builder.mode_at.Goals as goal

pub returns-in-TheHtml : goal.returns-in-TheHtml
unfolding builder_of
returns-in-TheHtml c =
    let d = builder_of c.args.self.now in
    sym (ap (λ g. reset.mode_at d c.args.is_last (group_view g)) c.in-TheHtml.is
    ∙ ap (λ h. Some (cond h after_head before_head)) c.if-self.true)

pub returns-in-TheHtml-2 : goal.returns-in-TheHtml-2
unfolding builder_of
returns-in-TheHtml-2 c =
    let d = builder_of c.args.self.now in
    sym (ap (λ g. reset.mode_at d c.args.is_last (group_view g)) c.in-TheHtml-2.is
    ∙ ap (λ h. Some (cond h after_head before_head)) c.if-self.false)
