use Rattle.std.proofs.Common.{ap, ◌∙◌}
use Rattle.std.proofs.lemmas.Result.{on_ok_weaker}
use Rattle.tl_dom_spec.specs.Builder.{insert_element_at}
use Rattle.tl_dom_spec.specs.Path.{Place}
use Rattle.tl_tree.specs.Inner.Builders.{builder_of}
use Rattle.tl_tree.specs.Inner.Store.{tag_at}
use Rattle.tl_tree.proofs.builder.Builder.insert_tag.Goals as goal

pub returns-clause-ok : goal.returns-clause-ok
returns-clause-ok c =
    let b = c.args.self.now in
    on_ok_weaker c.insert_tag_at.result
    (λ is. is ∙ ap (λ (at : Place). insert_element_at at (tag_at b.path.store c.args.tag) (builder_of b)) c.appropriate_place-place.ensures)
    c.insert_tag_at.ensures.ok
