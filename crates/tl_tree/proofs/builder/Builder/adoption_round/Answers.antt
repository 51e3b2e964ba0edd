use Rattle.std.proofs.Common.{ap, ◌∙◌}
use Rattle.std.proofs.lemmas.Result.{IfOk-weaker}
use Rattle.tl_dom_spec.specs.Adoption.{with_formatting}
use Rattle.tl_tree.specs.Inner.Builders.{builder_of}
use Rattle.tl_tree.proofs.builder.Builder.adoption_round.Goals as goal

pub returns-in-Some-clause-ok : goal.returns-in-Some-clause-ok
returns-in-Some-clause-ok c =
    let b = builder_of c.args.self.now in
    IfOk-weaker c.with_formatting.result _ _
    (λ _ e. e c.args.name.now ∙ ap (with_formatting c.args.name.now b) c.in-Some.ensures.stands)
    c.with_formatting.ensures.ok

pub returns-in-None-clause-ok : goal.returns-in-None-clause-ok
returns-in-None-clause-ok c =
    let b = builder_of c.args.self.now in
    IfOk-weaker c.without_formatting.result _ _
    (λ _ e. e ∙ ap (with_formatting c.args.name.now b) c.in-None.ensures.stands)
    c.without_formatting.ensures.ok
