use Rattle.std.proofs.Common.{Bool, ap, cond, sym, ◌∙◌}
use Rattle.std.proofs.lemmas.Result.{on_ok_weaker}
use Rattle.tl_dom_spec.specs.Builder as dom
use Rattle.tl_dom_spec.specs.Tags.{is_named}
use Rattle.tl_tree.specs.Inner.Builders.{builder_of}
use Rattle.tl_tree.proofs.builder.Builder.any_other_end_tag.Goals as goal

pub returns-then-not-is_within-clause-ok : goal.returns-then-not-is_within-clause-ok
unfolding builder_of
returns-then-not-is_within-clause-ok c =
    let b = builder_of c.args.self.now in
    let own = is_named c.args.name.now in
    ap (λ (x : Bool). cond x (dom.close_except_for own own b) b) (sym c.if-not-is_within.true ∙ c.is_within.ensures)

pub returns-clause-ok : goal.returns-clause-ok
unfolding builder_of
returns-clause-ok c =
    let b = builder_of c.args.self.now in
    let own = is_named c.args.name.now in
    on_ok_weaker c.close_except_for.result
    (λ e. e ∙ ap (λ (x : Bool). cond x (dom.close_except_for own own b) b) (sym c.if-not-is_within.false ∙ c.is_within.ensures))
    c.close_except_for.ensures.ok
