use Rattle.std.proofs.Common.{Bool, List, add-one, ap, arith, get_or, length, map, sym, take, true, ◌∙◌, ◌≡◌, ℕ}
use Rattle.std.specs.List.{list_all, list_any}
use Rattle.tl_dom_spec.specs.Formatting.{is_same_attribute}
use Rattle.tl_dom_spec.specs.Tags as dom
use Rattle.tl_tree.proofs.AlikeTags.{all-next, any-found}
use Rattle.tl_tree.specs.Inner.Store.{attribute_of, entries_of}
use Rattle.tl_tree.specs.declared.entries.AttributeEntry.{AttributeEntry}
use Rattle.tl_tree.specs.declared.entries.AttributeSpace.TheVariants.{Plain}
use Rattle.tl_tree.proofs.Looped.{entry-within}
use Rattle.tl_tree.proofs.alike.same_front.Goals as goal

pub loop-place-preserved : goal.loop-place-preserved
loop-place-preserved c =
    let s = c.args.store.now in
    let i = c.loop-place.place in
    let first : List AttributeEntry = entries_of s c.args.own in
    let second : List AttributeEntry = entries_of s c.args.other in
    let none : AttributeEntry = record { space = Plain; key = record { start = 0; len = 0 }; value = record { start = 0; len = 0 } } in
    let test : dom.Attribute → Bool = λ x. list_any (is_same_attribute x) (map (attribute_of s) second) in
    let one : length c.attributes-first.result.now ≡ length first = ap (λ (xs : List AttributeEntry). length xs) c.attributes-first.ensures in
    let two : length c.attributes-second.result.now ≡ length second = ap (λ (xs : List AttributeEntry). length xs) c.attributes-second.ensures in
    let least = c.min-shorter.ensures in
    let inside = c.loop-place-test.true in
    let same : is_same_attribute (attribute_of s (get_or first i none)) (attribute_of s (get_or second i none)) ≡ true =
    ap (λ (xs : List AttributeEntry). is_same_attribute (attribute_of s (get_or xs i none)) (attribute_of s (get_or second i none))) (sym c.attributes-first.ensures)
    ∙ ap (λ (xs : List AttributeEntry). is_same_attribute (attribute_of s (get_or c.attributes-first.result.now i none)) (attribute_of s (get_or xs i none))) (sym c.attributes-second.ensures)
    ∙ sym c.is_same_attribute.ensures ∙ c.if-not-is_same_attribute.false in
    ap (λ (n : ℕ). list_all test (map (attribute_of s) (take n first))) (add-one i)
    ∙ all-next test (attribute_of s) first i none (omega arith) c.loop-place.invariant
    (any-found (is_same_attribute (attribute_of s (get_or first i none))) (attribute_of s) second i none (omega arith) same)

pub is_same_attribute-requires-clause-one : goal.is_same_attribute-requires-clause-one
is_same_attribute-requires-clause-one c =
    let least = c.min-shorter.ensures in
    let inside = c.loop-place-test.true in
    entry-within c.args.store.now c.args.own c.attributes-first.result.now c.loop-place.place _ c.attributes-first.ensures (omega arith)

pub is_same_attribute-requires-clause-other : goal.is_same_attribute-requires-clause-other
is_same_attribute-requires-clause-other c =
    let least = c.min-shorter.ensures in
    let inside = c.loop-place-test.true in
    entry-within c.args.store.now c.args.other c.attributes-second.result.now c.loop-place.place _ c.attributes-second.ensures (omega arith)
