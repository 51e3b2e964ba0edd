use Rattle.std.proofs.Common.{List, ap, arith, map, sym, ◌∙◌}
use Rattle.std.proofs.lemmas.List.{take_all}
use Rattle.std.specs.List.{list_any}
use Rattle.tl_dom_spec.specs.Formatting.{is_same_attribute}
use Rattle.tl_tree.proofs.AlikeTags.{any-found}
use Rattle.tl_tree.proofs.Looped.{any-missed, entry-within}
use Rattle.tl_tree.specs.Inner.Store.{attribute_of}
use Rattle.tl_tree.specs.declared.entries.AttributeEntry.{AttributeEntry}
use Rattle.tl_tree.proofs.alike.has_attribute.Goals as goal

pub returns-then-is_same_attribute : goal.returns-then-is_same_attribute
returns-then-is_same_attribute c =
    let s = c.args.store.now in
    let test = is_same_attribute (attribute_of s c.args.own) in
    sym (ap (λ (xs : List AttributeEntry). list_any test (map (attribute_of s) xs)) (sym c.attributes-attribute-items.ensures)
    ∙ any-found test (attribute_of s) c.attributes-attribute-items.result.now c.loop-attribute.attribute-index _ c.loop-attribute-test.true (sym c.is_same_attribute.ensures ∙ c.if-is_same_attribute.true))

pub is_same_attribute-requires-clause-one : goal.is_same_attribute-requires-clause-one
is_same_attribute-requires-clause-one c = c.requires.own

pub is_same_attribute-requires-clause-other : goal.is_same_attribute-requires-clause-other
is_same_attribute-requires-clause-other c =
    entry-within c.args.store.now c.args.other c.attributes-attribute-items.result.now c.loop-attribute.attribute-index _ c.attributes-attribute-items.ensures c.loop-attribute-test.true

pub loop-attribute-preserved : goal.loop-attribute-preserved
loop-attribute-preserved c =
    let s = c.args.store.now in
    any-missed (is_same_attribute (attribute_of s c.args.own)) (attribute_of s) c.attributes-attribute-items.result.now c.loop-attribute.attribute-index _ c.loop-attribute-test.true c.loop-attribute.invariant (sym c.is_same_attribute.ensures ∙ c.if-is_same_attribute.false)

pub returns : goal.returns
returns c =
    let s = c.args.store.now in
    let end = c.loop-attribute-test.false in
    let items = c.attributes-attribute-items.result.now in
    sym c.loop-attribute.invariant
    ∙ ap (λ (xs : List AttributeEntry). list_any (is_same_attribute (attribute_of s c.args.own)) (map (attribute_of s) xs))
    (take_all c.loop-attribute.attribute-index items (omega arith) ∙ c.attributes-attribute-items.ensures)
