use Rattle.std.proofs.Common.{arith, sym, ◌∙◌}
use Rattle.std.proofs.lemmas.List.{length-map}
use Rattle.tl_tree.proofs.Listed.{all-take}
use Rattle.tl_tree.proofs.SaidTags.{behind-more, first-asked, key-asked, keys-has}
use Rattle.tl_tree.specs.Inner.Said.{keys_in}
use Rattle.tl_tree.specs.Inner.Store.{bytes_of, is_attribute}
use Rattle.tl_tree.specs.declared.entries.AttributeEntry.{AttributeEntry}
use Rattle.tl_tree.proofs.said_attributes.is_repeated.Goals as goal

pub returns-then-entries-lt-FEW-clause-repeated : goal.returns-then-entries-lt-FEW-clause-repeated
returns-then-entries-lt-FEW-clause-repeated c =
    c.has_key.ensures ∙ keys-has c.args.store.now (bytes_of c.args.store.now c.args.key) c.args.entries.now

pub has_key-requires-2-clause-entries : goal.has_key-requires-2-clause-entries
has_key-requires-2-clause-entries c = all-take (is_attribute c.args.store.now) 16 c.args.entries.now c.requires.entries

pub returns-clause-repeated : goal.returns-clause-repeated
returns-clause-repeated c =
    let s = c.args.store.now in
    let first = first-asked s (bytes_of s c.args.key) c.args.entries.now _ (sym c.has_key-2.ensures ∙ c.if-has_key.false) in
    key-asked (keys_in s c.args.entries.now) c.args.keys.now c.requires.keys c.in_ok-own.own (bytes_of s c.args.key)
    (c.in_ok-own.ensures.items_if_clones_equal (λ x y e. e) ∙ c.bytes.ensures) first
    c.in_ok-is_new.is_new c.in_ok-is_new.ensures.added

pub returns-clause-keys : goal.returns-clause-keys
returns-clause-keys c =
    let s = c.args.store.now in
    let first = first-asked s (bytes_of s c.args.key) c.args.entries.now _ (sym c.has_key-2.ensures ∙ c.if-has_key.false) in
    let all = length-map c.args.entries.now (λ (e : AttributeEntry). bytes_of s e.key) in
    let many = c.if-entries-lt-FEW.false in
    behind-more (keys_in s c.args.entries.now) c.args.keys.now c.insert.new.self c.requires.keys c.in_ok-own.own (bytes_of s c.args.key)
    (c.in_ok-own.ensures.items_if_clones_equal (λ x y e. e) ∙ c.bytes.ensures) (omega arith) first c.in_ok-is_new.ensures.updates
