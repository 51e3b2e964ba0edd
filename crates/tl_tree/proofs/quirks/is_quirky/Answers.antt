use Rattle.std.proofs.Common.{List, ap, codes, false, not, refl, sym, true, ◌∙◌, ◌≡◌, ℕ}
use Rattle.std.specs.Str.{bytes_eq}
use Rattle.tl_tree.proofs.Quirky.{by-parts, ids_quirky}
use Rattle.tl_tree.specs.Inner.Store.{bytes_of}
use Rattle.tl_tree.proofs.quirks.is_quirky.Goals as goal

pub returns-then-own : goal.returns-then-own
returns-then-own c =
    let s = c.args.store.now in
    let own = c.doctype-own.result in
    by-parts s c.args.number own c.doctype-own.ensures.stands true (not (bytes_eq (bytes_of s own.name) (codes "html"))) (ids_quirky s own) c.if-own.true refl refl

pub returns-then-ne : goal.returns-then-ne
returns-then-ne c =
    let s = c.args.store.now in
    let own = c.doctype-own.result in
    let other : not (bytes_eq (bytes_of s own.name) (codes "html")) ≡ true =
    sym (c.ne.ensures
    ∙ (ap (λ (word : List ℕ). not (bytes_eq c.bytes.result.now word)) c.as_slice.ensures
    ∙ ap (λ (name : List ℕ). not (bytes_eq name (codes "html"))) c.bytes.ensures))
    ∙ c.if-ne.true in
    by-parts s c.args.number own c.doctype-own.ensures.stands false true (ids_quirky s own) c.if-own.false other refl

pub returns : goal.returns
returns c =
    let s = c.args.store.now in
    let own = c.doctype-own.result in
    let same : not (bytes_eq (bytes_of s own.name) (codes "html")) ≡ false =
    sym (c.ne.ensures
    ∙ (ap (λ (word : List ℕ). not (bytes_eq c.bytes.result.now word)) c.as_slice.ensures
    ∙ ap (λ (name : List ℕ). not (bytes_eq name (codes "html"))) c.bytes.ensures))
    ∙ c.if-ne.false in
    by-parts s c.args.number own c.doctype-own.ensures.stands false false c.has_quirky_ids.result c.if-own.false same (sym c.has_quirky_ids.ensures)
