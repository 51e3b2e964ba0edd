use Rattle.std.proofs.Common.{ap, ◌∙◌}
use Rattle.std.proofs.lemmas.Result.{on_ok_weaker}
use Rattle.tl_dom_spec.specs.Builder.{insert_and_pop_at}
use Rattle.tl_dom_spec.specs.Path.{Place}
use Rattle.tl_tree.specs.Inner.Builders.{builder_of, token_of}
use Rattle.tl_tree.proofs.builder.Builder.insert_and_pop.Goals as goal

pub returns-clause-ok : goal.returns-clause-ok
returns-clause-ok c =
    let b = c.args.self.now in
    on_ok_weaker c.insert_and_pop_at.result
    (λ is. is ∙ ap (λ (at : Place). insert_and_pop_at at (token_of b).tag (builder_of b)) c.appropriate_place-place.ensures)
    c.insert_and_pop_at.ensures.ok
