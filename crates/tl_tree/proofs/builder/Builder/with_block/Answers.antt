use Rattle.std.proofs.Common.{ap, ◌∙◌}
use Rattle.std.proofs.lemmas.Result.{IfOk-weaker}
use Rattle.tl_dom_spec.specs.Adoption.{with_block}
use Rattle.tl_tree.specs.Inner.Active.{listed_of}
use Rattle.tl_tree.specs.Inner.Builders.{builder_of}
use Rattle.tl_tree.proofs.builder.Builder.with_block.Goals as goal

pub returns-in-Some-clause-ok : goal.returns-in-Some-clause-ok
unfolding builder_of
returns-in-Some-clause-ok c =
    let b = c.args.self.now in
    IfOk-weaker c.with_furthest.result _ _
    (λ _ e. e ∙ ap (with_block (builder_of b) (listed_of b.path.store c.args.own)) c.in-Some.ensures.stands)
    c.with_furthest.ensures.ok

pub returns-in-None-clause-ok : goal.returns-in-None-clause-ok
unfolding builder_of
returns-in-None-clause-ok c =
    let b = c.args.self.now in
    IfOk-weaker c.without_block.result _ _
    (λ _ e. e ∙ ap (with_block (builder_of b) (listed_of b.path.store c.args.own)) c.in-None.ensures.stands)
    c.without_block.ensures.ok
