use Rattle.std.proofs.Common.{map, sym, ◌&&◌, ◌∙◌}
use Rattle.std.specs.Char.{to_ascii_lowercase}
use Rattle.std.specs.Str.{bytes_eq}
use Rattle.tl_dom_spec.specs.Tags as dom
use Rattle.tl_tree.proofs.Pointed.{attribute-found, attribute-missed}
use Rattle.tl_tree.proofs.integration.has_value.Goals as goal

pub returns-then-is_setting : goal.returns-then-is_setting
returns-then-is_setting c =
    attribute-found (λ (a : dom.Attribute). bytes_eq a.key c.args.key.now && bytes_eq (map to_ascii_lowercase a.value) c.args.value.now)
    c.args.store.now c.args.number c.tag-tag.result c.tag-tag.ensures.stands
    c.attributes-attribute-items.result.now c.attributes-attribute-items.ensures c.loop-attribute.attribute-index _ c.loop-attribute-test.true
    (sym c.is_setting.ensures ∙ c.if-is_setting.true)

pub returns : goal.returns
returns c =
    attribute-missed (λ (a : dom.Attribute). bytes_eq a.key c.args.key.now && bytes_eq (map to_ascii_lowercase a.value) c.args.value.now)
    c.args.store.now c.args.number c.tag-tag.result c.tag-tag.ensures.stands
    c.attributes-attribute-items.result.now c.attributes-attribute-items.ensures c.loop-attribute.attribute-index c.loop-attribute-test.false c.loop-attribute.invariant
