use Rattle.std.proofs.Common.{ap, ◌∙◌}
use Rattle.std.proofs.lemmas.Result.{on_ok_weaker}
use Rattle.tl_dom_spec.specs.Builder as dom
use Rattle.tl_dom_spec.specs.Tags.{Tag, bare_tag}
use Rattle.tl_tree.specs.Inner.Builders.{builder_of}
use Rattle.tl_tree.proofs.builder.Builder.insert_and_pop_implied.Goals as goal

pub insert_and_pop_tag-requires : goal.insert_and_pop_tag-requires
insert_and_pop_tag-requires c = c.in_ok-tag.ensures.within

pub returns-clause-ok : goal.returns-clause-ok
returns-clause-ok c =
    on_ok_weaker c.add_one.result
    (λ is. is ∙ ap dom.add_one (c.in_ok-insert_and_pop_tag.ensures.ok
    ∙ (ap (λ (t : Tag). dom.insert_and_pop t (builder_of c.add_bare_tag.new.self)) c.in_ok-tag.ensures.tag
    ∙ ap (dom.insert_and_pop (bare_tag c.args.name.now)) c.add_bare_tag.ensures.ok)))
    c.add_one.ensures.ok
