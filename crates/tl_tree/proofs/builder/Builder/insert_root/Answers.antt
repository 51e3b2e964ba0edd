use Rattle.std.proofs.Common.{ap, codes, ◌∙◌}
use Rattle.std.proofs.lemmas.Result.{on_ok_weaker}
use Rattle.tl_dom_spec.specs.Builder as dom
use Rattle.tl_dom_spec.specs.Tags.{Tag, bare_tag}
use Rattle.tl_tree.specs.Inner.Builders.{builder_of}
use Rattle.tl_tree.proofs.builder.Builder.insert_root.Goals as goal

pub insert_tag-requires : goal.insert_tag-requires
insert_tag-requires c = c.in_ok-tag.ensures.within

pub returns-clause-ok : goal.returns-clause-ok
returns-clause-ok c =
    on_ok_weaker c.insert_tag.result
    (λ is. is
    ∙ (ap (λ (t : Tag). dom.insert_element t (builder_of c.add_bare_tag.new.self)) c.in_ok-tag.ensures.tag
    ∙ ap (dom.insert_element (bare_tag (codes "html"))) c.add_bare_tag.ensures.ok))
    c.insert_tag.ensures.ok
