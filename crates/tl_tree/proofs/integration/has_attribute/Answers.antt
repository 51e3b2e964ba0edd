use Rattle.std.proofs.Common.{List, ap, sym, ◌∙◌, ℕ}
use Rattle.std.specs.Str.{bytes_eq}
use Rattle.tl_dom_spec.specs.Tags as dom
use Rattle.tl_tree.proofs.Pointed.{attribute-found, attribute-missed}
use Rattle.tl_tree.proofs.integration.has_attribute.Goals as goal

pub returns-then-eq : goal.returns-then-eq
returns-then-eq c =
    attribute-found (λ (a : dom.Attribute). bytes_eq a.key c.args.key.now) c.args.store.now c.args.number c.tag-tag.result c.tag-tag.ensures.stands
    c.attributes-attribute-items.result.now c.attributes-attribute-items.ensures c.loop-attribute.attribute-index _ c.loop-attribute-test.true
    (sym (ap (λ (k : List ℕ). bytes_eq k c.args.key.now) c.bytes.ensures) ∙ (sym c.eq.ensures ∙ c.if-eq.true))

pub returns : goal.returns
returns c =
    attribute-missed (λ (a : dom.Attribute). bytes_eq a.key c.args.key.now) c.args.store.now c.args.number c.tag-tag.result c.tag-tag.ensures.stands
    c.attributes-attribute-items.result.now c.attributes-attribute-items.ensures c.loop-attribute.attribute-index c.loop-attribute-test.false c.loop-attribute.invariant
