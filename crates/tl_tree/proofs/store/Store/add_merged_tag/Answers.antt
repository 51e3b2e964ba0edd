use Rattle.std.proofs.Common.{IsTrue, List, [], ap, arith, length, refl, subst, sym, vec_len, ◌<◌, ◌∙◌, ◌≡◌, ℕ}
use Rattle.std.proofs.lemmas.Bool.{eqb-true, ltb-true}
use Rattle.std.proofs.lemmas.List.{nil_from_length}
use Rattle.std.proofs.lemmas.Result.{IfOk-from_err, IfOk-weaker}
use Rattle.std.specs.List.{list_all}
use Rattle.tl_dom_spec.specs.Builder.{with_more}
use Rattle.tl_dom_spec.specs.Tags.{Tag}
use Rattle.tl_tree.proofs.Grown.{grows_refl, grows_trans, tag-at-grown, tag-grown}
use Rattle.tl_tree.proofs.Merged.{longer-within, merged-tag, missing-within, none-missing, tag-kept}
use Rattle.tl_tree.specs.Inner.Merging.{missing}
use Rattle.tl_tree.specs.Inner.Store.{Grows, is_attribute, is_tag, tag_at, tag_of}
use Rattle.tl_tree.specs.declared.entries.AttributeEntry.{AttributeEntry}
use Rattle.tl_tree.specs.declared.entries.TagEntry.{TagEntry}
use Rattle.tl_tree.specs.declared.store.Store.{Store}
use Rattle.tl_tree.proofs.store.Store.add_merged_tag.Goals as goal

-- a merged tag, of those that the numbers stand for
at-numbers : (s : Store) (m n : ℕ) (own other : Tag) → own ≡ tag_at s m → other ≡ tag_at s n → with_more other.attributes own ≡ with_more (tag_at s n).attributes (tag_at s m)
at-numbers s m n own other own_is other_is =
    ap (λ (t : Tag). with_more t.attributes own) other_is ∙ ap (with_more (tag_at s n).attributes) own_is

-- a tag that misses none stays
stays : (s t : Store) → Grows s t → (m n : ℕ) → m < length s.tags.items → (own other last : TagEntry) → tag_of s own ≡ tag_at s m → tag_of s other ≡ tag_at s n → IsTrue (is_tag s other) → tag_of t last ≡ tag_of s own → missing t last other ≡ [] → tag_at t m ≡ with_more (tag_at s n).attributes (tag_at s m)
stays s t g m n h own other last own_is other_is within last_is none =
    tag-at-grown s t g m h
    ∙ (sym own_is ∙ (sym last_is
    ∙ (none-missing t last other none
    ∙ at-numbers s m n (tag_of t last) (tag_of t other) (last_is ∙ own_is) (tag-grown s t g other within ∙ other_is))))

pub missing-requires-clause-own : goal.missing-requires-clause-own
missing-requires-clause-own c = c.in_ok-last.ensures.last.within

pub missing-requires-clause-other : goal.missing-requires-clause-other
missing-requires-clause-other c =
    tag-kept c.args.self.now c.put_last.new.store c.put_last.ensures.grows c.tag-others.result c.tag-others.ensures.within

pub add_attributes-requires : goal.add_attributes-requires
add_attributes-requires c =
    let t = c.put_last.new.store in
    subst (λ (xs : List AttributeEntry). IsTrue (list_all (is_attribute t) xs)) (sym (c.as_slice.ensures.value ∙ c.in_ok-more.ensures))
    (missing-within t c.in_ok-last.last c.tag-others.result)

pub add_tag-requires : goal.add_tag-requires
add_tag-requires c =
    longer-within c.put_last.new.store c.add_attributes.new.store c.add_attributes.ensures.grows c.list_of_more-list.result c.in_ok-last.last c.in_ok-last.ensures.last
    c.as_slice.result.now c.in_ok-add_attributes.ensures.stands c.attribute_count.result c.attribute_count.ensures

pub returns-then-eq-clause-stands : goal.returns-then-eq-clause-stands
returns-then-eq-clause-stands c =
    let s = c.args.self.now in
    let more = c.in_ok-more.more in
    let counted = eqb-true (vec_len more) 0 (sym c.is_empty.ensures ∙ c.if-is_empty.true) in
    let none = sym c.in_ok-more.ensures ∙ nil_from_length more.items (omega arith) in
    stays s c.put_last.new.store c.put_last.ensures.grows c.args.own c.args.other (ltb-true c.args.own (length s.tags.items) c.requires.own)
    c.tag-tag.result c.tag-others.result c.in_ok-last.last c.tag-tag.ensures.stands c.tag-others.ensures.stands c.tag-others.ensures.within c.in_ok-last.ensures.stands none

pub returns-then-eq-clause-space : goal.returns-then-eq-clause-space
returns-then-eq-clause-space c = ap (λ (t : Tag). t.space) (returns-then-eq-clause-stands c)

pub returns-then-eq-clause-name : goal.returns-then-eq-clause-name
returns-then-eq-clause-name c = ap (λ (t : Tag). t.name) (returns-then-eq-clause-stands c)

pub returns-clause-stands : goal.returns-clause-stands
returns-clause-stands c =
    let s = c.args.self.now in
    let t = c.put_last.new.store in
    let last = c.in_ok-last.last in
    let other = c.tag-others.result in
    let whole = merged-tag t c.add_attributes.new.store c.add_attributes.ensures.grows c.list_of_more-list.result last c.in_ok-last.ensures.last
    c.as_slice.result.now c.in_ok-add_attributes.ensures.stands c.attribute_count.result c.attribute_count.ensures
    t (grows_refl t) last other refl (c.as_slice.ensures.value ∙ c.in_ok-more.ensures) in
    IfOk-weaker c.add_tag.result _ _
    (λ number is.
    is ∙ (whole
    ∙ at-numbers s c.args.own c.args.other (tag_of t last) (tag_of t other) (c.in_ok-last.ensures.stands ∙ c.tag-tag.ensures.stands)
    (tag-grown s t c.put_last.ensures.grows other c.tag-others.ensures.within ∙ c.tag-others.ensures.stands)))
    c.add_tag.ensures.stands

pub returns-clause-space : goal.returns-clause-space
returns-clause-space c =
    IfOk-weaker c.add_tag.result _ _ (λ number is. ap (λ (t : Tag). t.space) is) (returns-clause-stands c)

pub returns-clause-name : goal.returns-clause-name
returns-clause-name c =
    IfOk-weaker c.add_tag.result _ _ (λ number is. ap (λ (t : Tag). t.name) is) (returns-clause-stands c)

pub returns-in_err-add_attributes-clause-grows : goal.returns-in_err-add_attributes-clause-grows
returns-in_err-add_attributes-clause-grows c =
    grows_trans c.args.self.now c.put_last.new.store c.add_attributes.new.store c.put_last.ensures.grows c.add_attributes.ensures.grows

pub returns-clause-grows : goal.returns-clause-grows
returns-clause-grows c =
    let s = c.args.self.now in
    let u = c.add_attributes.new.store in
    grows_trans s u c.add_tag.new.self (grows_trans s c.put_last.new.store u c.put_last.ensures.grows c.add_attributes.ensures.grows) c.add_tag.ensures.grows

pub returns-in_err-last-clause-stands : goal.returns-in_err-last-clause-stands
returns-in_err-last-clause-stands c = IfOk-from_err c.from_residual.result _ c.from_residual.ensures.0

pub returns-in_err-last-clause-space : goal.returns-in_err-last-clause-space
returns-in_err-last-clause-space c = IfOk-from_err c.from_residual.result _ c.from_residual.ensures.0

pub returns-in_err-last-clause-name : goal.returns-in_err-last-clause-name
returns-in_err-last-clause-name c = IfOk-from_err c.from_residual.result _ c.from_residual.ensures.0

pub returns-in_err-more-clause-stands : goal.returns-in_err-more-clause-stands
returns-in_err-more-clause-stands c = IfOk-from_err c.from_residual-in_err-more.result _ c.from_residual-in_err-more.ensures.0

pub returns-in_err-more-clause-space : goal.returns-in_err-more-clause-space
returns-in_err-more-clause-space c = IfOk-from_err c.from_residual-in_err-more.result _ c.from_residual-in_err-more.ensures.0

pub returns-in_err-more-clause-name : goal.returns-in_err-more-clause-name
returns-in_err-more-clause-name c = IfOk-from_err c.from_residual-in_err-more.result _ c.from_residual-in_err-more.ensures.0

pub returns-in_err-add_attributes-clause-stands : goal.returns-in_err-add_attributes-clause-stands
returns-in_err-add_attributes-clause-stands c = IfOk-from_err c.from_residual-in_err-add_attributes.result _ c.from_residual-in_err-add_attributes.ensures.0

pub returns-in_err-add_attributes-clause-space : goal.returns-in_err-add_attributes-clause-space
returns-in_err-add_attributes-clause-space c = IfOk-from_err c.from_residual-in_err-add_attributes.result _ c.from_residual-in_err-add_attributes.ensures.0

pub returns-in_err-add_attributes-clause-name : goal.returns-in_err-add_attributes-clause-name
returns-in_err-add_attributes-clause-name c = IfOk-from_err c.from_residual-in_err-add_attributes.result _ c.from_residual-in_err-add_attributes.ensures.0
