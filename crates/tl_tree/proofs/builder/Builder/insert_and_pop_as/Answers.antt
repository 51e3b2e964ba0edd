use Rattle.std.proofs.Common.{ap, ◌∙◌}
use Rattle.std.proofs.lemmas.Result.{on_ok_weaker}
use Rattle.tl_dom_spec.specs.Builder as dom
use Rattle.tl_dom_spec.specs.Tags.{Tag}
use Rattle.tl_tree.specs.Inner.Builders.{builder_of, token_of}
use Rattle.tl_tree.proofs.builder.Builder.insert_and_pop_as.Goals as goal

pub insert_and_pop_tag-requires : goal.insert_and_pop_tag-requires
insert_and_pop_tag-requires c = c.in_ok-tag.ensures.within

pub returns-clause-ok : goal.returns-clause-ok
returns-clause-ok c =
    let own = (token_of c.args.self.now).tag in
    on_ok_weaker c.insert_and_pop_tag.result
    (λ is. is
    ∙ (ap (λ (t : Tag). dom.insert_and_pop t (builder_of c.add_token_as.new.self)) c.in_ok-tag.ensures.tag
    ∙ ap (dom.insert_and_pop (record own { name = c.args.name.now })) c.add_token_as.ensures.ok))
    c.insert_and_pop_tag.ensures.ok
