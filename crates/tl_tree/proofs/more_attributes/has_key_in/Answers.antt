use Rattle.std.proofs.Common.{List, ap, sym, ◌∙◌, ℕ}
use Rattle.std.specs.Str.{bytes_eq}
use Rattle.tl_dom_spec.specs.Tags as dom
use Rattle.tl_tree.proofs.AlikeTags.{any-found}
use Rattle.tl_tree.proofs.Merged.{none-keyed}
use Rattle.tl_tree.specs.Inner.Said.{attributes_in}
use Rattle.tl_tree.specs.Inner.Store.{attribute_of, bytes_of, list_in}
use Rattle.tl_tree.specs.declared.entries.AttributeEntry.{AttributeEntry}
use Rattle.tl_tree.proofs.more_attributes.has_key_in.Goals as goal

pub returns-in_default : goal.returns-in_default
returns-in_default c =
    let s = c.args.store.now in
    sym (none-keyed s (bytes_of s c.args.key) c.bytes-own.result.now (list_in s c.args.list) c.bytes-own.ensures (c.place.ensures c.in_default.is _ s.keys_placed))

pub returns-then-eq : goal.returns-then-eq
returns-then-eq c =
    let s = c.args.store.now in
    let key = bytes_of s c.args.key in
    sym (ap (λ (xs : List AttributeEntry). dom.has_attribute key (attributes_in s xs)) (sym c.list-entries.ensures)
    ∙ any-found (λ (a : dom.Attribute). bytes_eq a.key key) (attribute_of s) c.list-entries.result.now c.in-Some.place _ c.if-place-entries.true
    (ap (λ (own : List ℕ). bytes_eq own key) (sym c.bytes.ensures)
    ∙ (ap (bytes_eq c.bytes.result.now) (sym c.bytes-own.ensures)
    ∙ (sym c.eq.ensures ∙ c.if-eq.true))))
