use Rattle.std.proofs.Common.{List, ap, ap₂, arith, get_or, length, map, subst, sym, take, ℕ, ◌+◌, ◌<◌, ◌∙◌, ◌≡◌}
use Rattle.std.proofs.lemmas.List.{take_all, take_more}
use Rattle.tl_dom_spec.specs.Tags as dom
use Rattle.tl_html_parts.specs.Parts.{attributes_of, name_of, value_of}
use Rattle.tl_html_parts.specs.Places.{IsPart, pairs_in, part_in}
use Rattle.tl_html_parts.specs.declared.place.AttributePlace.{AttributePlace}
use Rattle.tl_html_parts.specs.declared.place.PartPlace.{PartPlace}
use Rattle.tl_html_spec.specs.HtmlTokenizer.{OpenTag, with_attribute}
use Rattle.tl_tree.proofs.Grown.{grows_trans}
use Rattle.tl_tree.proofs.SaidTags.{one-more}
use Rattle.tl_tree.specs.Inner.Said.{attributes_so_far}
use Rattle.tl_tree.proofs.said_attributes.put_attributes.Goals as goal

-- a part of the same page
part-of : (said : List ℕ → List ℕ) (page now : List ℕ) (p : PartPlace) → now ≡ page → IsPart said page p → IsPart said now p
part-of said page now p e h = subst (λ (q : List ℕ). IsPart said q p) (sym e) h

-- one attribute more, which was put from the same page
put-more : (page now : List ℕ) (xs : List AttributePlace) (i : ℕ) (d : AttributePlace) (own all : List dom.Attribute) → i < length xs → now ≡ page → own ≡ map dom.plain_attribute (attributes_of (pairs_in page (take i xs))) →
    ((tag : OpenTag) → own ≡ attributes_so_far tag → all ≡ attributes_so_far (with_attribute tag (name_of (part_in now (get_or xs i d).key)) (value_of (part_in now (get_or xs i d).value)))) →
    all ≡ map dom.plain_attribute (attributes_of (pairs_in page (take (i + 1) xs)))
put-more page now xs i d own all l same stands put =
    let a : AttributePlace = get_or xs i d in
    one-more page (take i xs) (take (i + 1) xs) a own all (take_more xs i d l) stands
    (λ tag e. put tag e ∙ ap₂ (λ (k v : List ℕ). attributes_so_far (with_attribute tag (name_of k) (value_of v))) (ap (λ (p : List ℕ). part_in p a.key) same) (ap (λ (p : List ℕ). part_in p a.value) same))

pub put_attribute-requires-clause-key : goal.put_attribute-requires-clause-key
put_attribute-requires-clause-key c =
    part-of name_of _ _ _ c.loop-attribute.invariant.grows.page (c.requires c.loop-attribute.attribute-index _ c.loop-attribute-test.true).0

pub put_attribute-requires-clause-value : goal.put_attribute-requires-clause-value
put_attribute-requires-clause-value c =
    part-of value_of _ _ _ c.loop-attribute.invariant.grows.page (c.requires c.loop-attribute.attribute-index _ c.loop-attribute-test.true).1

pub loop-attribute-preserved : goal.loop-attribute-preserved
loop-attribute-preserved c =
    let own = c.loop-attribute.invariant in
    record {
      stands = put-more c.args.store.now.page.now c.loop-attribute.store.page.now c.args.attributes.now c.loop-attribute.attribute-index _ _ _ c.loop-attribute-test.true own.grows.page own.stands c.in_ok-put_attribute.ensures.stands;
      keys = c.in_ok-put_attribute.ensures.keys;
      within = c.in_ok-put_attribute.ensures.within;
      grows = grows_trans c.args.store.now c.loop-attribute.store c.put_attribute.new.store own.grows c.put_attribute.ensures.grows;
    }

pub put_attribute-requires-clause-keys : goal.put_attribute-requires-clause-keys
put_attribute-requires-clause-keys c = c.loop-attribute.invariant.keys

pub put_attribute-requires-clause-entries : goal.put_attribute-requires-clause-entries
put_attribute-requires-clause-entries c = c.loop-attribute.invariant.within

pub returns-in_err-put_attribute-clause-grows : goal.returns-in_err-put_attribute-clause-grows
returns-in_err-put_attribute-clause-grows c =
    grows_trans c.args.store.now c.loop-attribute.store c.put_attribute.new.store c.loop-attribute.invariant.grows c.put_attribute.ensures.grows

pub returns-clause-read : goal.returns-clause-read
returns-clause-read c =
    let page = c.args.store.now.page.now in
    let end = c.loop-attribute-test.false in
    c.loop-attribute.invariant.stands
    ∙ ap (λ (xs : List AttributePlace). map dom.plain_attribute (attributes_of (pairs_in page xs)))
    (take_all c.loop-attribute.attribute-index c.args.attributes.now (omega arith))

pub returns-clause-within : goal.returns-clause-within
returns-clause-within c = c.loop-attribute.invariant.within

pub returns-clause-grows : goal.returns-clause-grows
returns-clause-grows c = c.loop-attribute.invariant.grows
