use Rattle.std.proofs.Common.{OnOk, ap, codes, subst, ◌∙◌, ◌≡◌}
use Rattle.tl_dom_spec.specs.Body.{item_closed}
use Rattle.tl_dom_spec.specs.Builder.{Builder, insert_element}
use Rattle.tl_dom_spec.specs.Tags.{is_any}
use Rattle.tl_tree.specs.Inner.Builders.{Said, builder_of, token_of}
use Rattle.tl_tree.proofs.builder.Builder.item_start.Goals as goal

pub returns-clause-ok : goal.returns-clause-ok
returns-clause-ok c =
    let closed = builder_of c.list_item_closed.new.self in
    subst (λ (after : Builder). OnOk c.insert_element.result (builder_of c.insert_element.new.self ≡ after))
    (ap (λ (said : Said). insert_element said.tag closed) (c.list_item_closed.ensures.token ∙ c.frameset_not_ok.ensures.token)
    ∙ ap (insert_element (token_of c.args.self.now).tag)
    (c.in_ok-list_item_closed.ensures.ok ∙ ap (item_closed (is_any (codes "li"))) c.frameset_not_ok.ensures.ok))
    c.insert_element.ensures.ok
