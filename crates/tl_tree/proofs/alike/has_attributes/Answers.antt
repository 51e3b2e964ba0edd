use Rattle.std.proofs.Common.{Bool, List, add-one, ap, map, sym, take, ℕ, ◌∙◌}
use Rattle.std.specs.List.{list_all, list_any}
use Rattle.tl_dom_spec.specs.Formatting.{is_same_attribute}
use Rattle.tl_dom_spec.specs.Tags as dom
use Rattle.tl_tree.proofs.AlikeTags.{all-missed, all-next}
use Rattle.tl_tree.specs.Inner.Store.{attribute_of, entries_of}
use Rattle.tl_tree.specs.declared.entries.AttributeEntry.{AttributeEntry}
use Rattle.tl_tree.proofs.Looped.{entry-within}
use Rattle.tl_tree.specs.declared.entries.AttributeSpace.TheVariants.{Plain}
use Rattle.tl_tree.proofs.alike.has_attributes.Goals as goal

pub returns-then-not-has_attribute_by : goal.returns-then-not-has_attribute_by
returns-then-not-has_attribute_by c =
    let s = c.args.store.now in
    let others = map (attribute_of s) (entries_of s c.args.other) in
    let test : dom.Attribute → Bool = λ x. list_any (is_same_attribute x) others in
    sym (ap (λ (xs : List AttributeEntry). list_all test (map (attribute_of s) xs)) (sym c.attributes-attributes.ensures)
    ∙ all-missed test (attribute_of s) c.attributes-attributes.result.now c.loop-place.place _ c.loop-place-test.true (sym c.has_attribute_by.ensures ∙ c.if-not-has_attribute_by.true))

pub has_attribute_by-requires-clause-own : goal.has_attribute_by-requires-clause-own
has_attribute_by-requires-clause-own c =
    entry-within c.args.store.now c.args.own c.attributes-attributes.result.now c.loop-place.place _ c.attributes-attributes.ensures c.loop-place-test.true

pub has_attribute_by-requires-clause-other : goal.has_attribute_by-requires-clause-other
has_attribute_by-requires-clause-other c = c.requires.other

pub loop-place-preserved : goal.loop-place-preserved
loop-place-preserved c =
    let s = c.args.store.now in
    let i = c.loop-place.place in
    let items = c.attributes-attributes.result.now in
    let none : AttributeEntry = record { space = Plain; key = record { start = 0; len = 0 }; value = record { start = 0; len = 0 } } in
    let others = map (attribute_of s) (entries_of s c.args.other) in
    let test : dom.Attribute → Bool = λ x. list_any (is_same_attribute x) others in
    ap (λ (n : ℕ). list_all test (map (attribute_of s) (take n items))) (add-one i)
    ∙ all-next test (attribute_of s) items i none c.loop-place-test.true c.loop-place.invariant (sym c.has_attribute_by.ensures ∙ c.if-not-has_attribute_by.false)
