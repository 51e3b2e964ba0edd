use Rattle.std.proofs.Common.{IsTrue, List, ap, is_ok, refl, subst, sym, ℕ, ◌≡◌, ◌∙◌, false, true}
use Rattle.std.proofs.lemmas.Bool.{and_from}
use Rattle.std.specs.List.{list_all}
use Rattle.tl_html_parts.specs.Parts.{name_of, value_of}
use Rattle.tl_html_parts.specs.Places.{IsPart, part_in}
use Rattle.tl_tree.proofs.Listed.{all-pushed}
use Rattle.tl_tree.proofs.SaidTags.{attributes-kept, key-added, key-repeated, keys-added, keys-has, keys-same, put-later, span-kept}
use Rattle.tl_tree.specs.Inner.Said.{AreKeysBehind, has_key, keys_in, with_key}
use Rattle.tl_tree.specs.Inner.Store.{bytes_of, is_attribute, is_span}
use Rattle.tl_tree.specs.declared.entries.AttributeEntry.{AttributeEntry}
use Rattle.tl_tree.specs.declared.entries.AttributeSpace.TheVariants.{Plain}
use Rattle.tl_tree.proofs.Grown.{grows_trans}
use Rattle.tl_tree.proofs.said_attributes.put_attribute.Goals as goal

pub is_repeated-requires-clause-keys : goal.is_repeated-requires-clause-keys
is_repeated-requires-clause-keys c =
    let t = c.put_name.new.store in
    subst (AreKeysBehind c.args.keys.now)
    (sym (keys-same c.args.store.now t c.put_name.ensures.grows c.args.entries.now.items c.requires.entries) ∙ ap (keys_in t) (sym c.deref.ensures.value))
    c.requires.keys

pub is_repeated-requires-clause-entries : goal.is_repeated-requires-clause-entries
is_repeated-requires-clause-entries c =
    subst (λ (xs : List AttributeEntry). IsTrue (list_all (is_attribute c.put_name.new.store) xs)) (sym c.deref.ensures.value)
    (attributes-kept c.args.store.now c.put_name.new.store c.put_name.ensures.grows c.args.entries.now.items c.requires.entries)

pub returns-then-branch-clause-stands : goal.returns-then-branch-clause-stands
returns-then-branch-clause-stands c =
    let t = c.put_name.new.store in
    let xs : List AttributeEntry = c.args.entries.now.items in
    let key : List ℕ = bytes_of t c.in_ok-key.key in
    let page : List ℕ = c.args.store.now.page.now in
    let value : List ℕ = value_of (part_in page c.args.attribute.value) in
    let has : has_key key (keys_in t xs) ≡ true =
    ap (λ (ys : List AttributeEntry). has_key key (keys_in t ys)) (sym c.deref.ensures.value) ∙ (sym c.in_ok-is_repeated.ensures.repeated ∙ c.if-branch.true) in
    put-later c.args.store.now t t c.put_name.ensures.grows xs xs c.requires.entries key (name_of (part_in page c.args.attribute.key)) value
    c.in_ok-key.ensures.stands (key-repeated t xs key value (keys-has t key xs ∙ has))

pub returns-then-branch-clause-within : goal.returns-then-branch-clause-within
returns-then-branch-clause-within c =
    attributes-kept c.args.store.now c.put_name.new.store c.put_name.ensures.grows c.args.entries.now.items c.requires.entries

pub returns-clause-stands : goal.returns-clause-stands
returns-clause-stands c =
    let s = c.args.store.now in
    let t = c.put_name.new.store in
    let u = c.put_value.new.store in
    let grows = c.put_name.ensures.grows in
    let xs : List AttributeEntry = c.args.entries.now.items in
    let ys : List AttributeEntry = c.push.new.self.items in
    let key : List ℕ = bytes_of t c.in_ok-key.key in
    let page : List ℕ = s.page.now in
    let value : List ℕ = value_of (part_in page c.args.attribute.value) in
    let own : AttributeEntry = record { space = Plain; key = c.in_ok-key.key; value = c.in_ok-value.value } in
    let has : has_key key (keys_in t xs) ≡ false =
    ap (λ (zs : List AttributeEntry). has_key key (keys_in t zs)) (sym c.deref.ensures.value) ∙ (sym c.in_ok-is_repeated.ensures.repeated ∙ c.if-branch.false) in
    put-later s t u grows xs ys c.requires.entries key (name_of (part_in page c.args.attribute.key)) value c.in_ok-key.ensures.stands
    (key-added t u c.put_value.ensures.grows xs ys (attributes-kept s t grows xs c.requires.entries) own c.in_ok-push.ensures.items refl c.in_ok-key.ensures.within
    value (c.in_ok-value.ensures.stands ∙ ap (λ (text : List ℕ). value_of (part_in text c.args.attribute.value)) grows.page)
    (keys-has t key xs ∙ has))

pub returns-clause-keys : goal.returns-clause-keys
returns-clause-keys c =
    let s = c.args.store.now in
    let t = c.put_name.new.store in
    let u = c.put_value.new.store in
    let xs : List AttributeEntry = c.args.entries.now.items in
    let key : List ℕ = bytes_of t c.in_ok-key.key in
    let own : AttributeEntry = record { space = Plain; key = c.in_ok-key.key; value = c.in_ok-value.value } in
    let has : has_key key (keys_in t xs) ≡ false =
    ap (λ (zs : List AttributeEntry). has_key key (keys_in t zs)) (sym c.deref.ensures.value) ∙ (sym c.in_ok-is_repeated.ensures.repeated ∙ c.if-branch.false) in
    subst (AreKeysBehind c.is_repeated.new.keys)
    (ap (λ (zs : List AttributeEntry). with_key (keys_in t zs) key) c.deref.ensures.value
    ∙ sym (keys-added t u c.put_value.ensures.grows xs c.push.new.self.items (attributes-kept s t c.put_name.ensures.grows xs c.requires.entries) own c.in_ok-push.ensures.items c.in_ok-key.ensures.within has))
    c.in_ok-is_repeated.ensures.keys

pub returns-clause-within : goal.returns-clause-within
returns-clause-within c =
    let t = c.put_name.new.store in
    let u = c.put_value.new.store in
    let grows = c.put_value.ensures.grows in
    let xs : List AttributeEntry = c.args.entries.now.items in
    let own : AttributeEntry = record { space = Plain; key = c.in_ok-key.key; value = c.in_ok-value.value } in
    all-pushed (is_attribute u) (is_ok c.push.result) xs c.push.new.self.items own c.push.ensures.items
    (attributes-kept t u grows xs (attributes-kept c.args.store.now t c.put_name.ensures.grows xs c.requires.entries))
    (and_from (is_span u own.key) (is_span u own.value) (span-kept t u grows own.key c.in_ok-key.ensures.within) c.in_ok-value.ensures.within)

pub put_name-requires : goal.put_name-requires
put_name-requires c = c.requires.key

pub is_repeated-requires-clause-key : goal.is_repeated-requires-clause-key
is_repeated-requires-clause-key c = c.in_ok-key.ensures.within

pub put_value-requires : goal.put_value-requires
put_value-requires c =
    subst (λ (page : List ℕ). IsPart value_of page c.args.attribute.value) (sym c.put_name.ensures.grows.page) c.requires.value

pub returns-in_err-value-clause-grows : goal.returns-in_err-value-clause-grows
returns-in_err-value-clause-grows c =
    grows_trans c.args.store.now c.put_name.new.store c.put_value.new.store c.put_name.ensures.grows c.put_value.ensures.grows

pub returns-in_err-push-clause-grows : goal.returns-in_err-push-clause-grows
returns-in_err-push-clause-grows c =
    grows_trans c.args.store.now c.put_name.new.store c.put_value.new.store c.put_name.ensures.grows c.put_value.ensures.grows

pub returns-clause-grows : goal.returns-clause-grows
returns-clause-grows c =
    grows_trans c.args.store.now c.put_name.new.store c.put_value.new.store c.put_name.ensures.grows c.put_value.ensures.grows
