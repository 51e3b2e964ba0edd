-- What is asked of rows.
use Rattle.std.proofs.Common.{IsTrue, List, None, Option, Some, [], ap, arith, false, get_or, inl, inr, length, nat_lt, refl, slice_get, subst, suc, sym, true, zero, ℕ, ◌-◌, ◌<◌, ◌↔◌, ◌∙◌, ◌≡◌, ◌⊎◌}
use Rattle.std.proofs.lemmas.Bool.{lt-ltb, ltb-true}
use Rattle.std.proofs.lemmas.Option.{none-some, same_Some, slice_get-map, slice_get_read}
use Rattle.std.specs.Option.{option_and_then, option_copied, option_map, unwrap_or}
use Rattle.tl_dom_spec.specs.Tags as dom
use Rattle.tl_tree.proofs.Seats.{all-get}
use Rattle.tl_tree.proofs.Templates.{tag-is}
use Rattle.tl_tree.specs.Asked.{attributes_at, attributes_of, doctype_of as asked_doctype, doctype_said, end_at, kind_of, name_of, namespace_by, namespace_of, node_at, parent_at, text_of as said_of}
use Rattle.tl_tree.specs.Inner.RowView.{bytes_in, held_in, held_is_within, parent_of, row_in, row_is_within}
use Rattle.tl_tree.specs.Inner.Said.{attributes_in}
use Rattle.tl_tree.specs.Inner.Store.{bytes_of, doctype_at, doctype_of, entries_of, is_span, sizes_of, source_of, space_of, tag_at, tag_of, text_of}
use Rattle.tl_tree.specs.Rows.{IsInRange, Row, an_element}
use Rattle.tl_tree.specs.TreeView.{rows_in}
use Rattle.tl_tree.specs.declared.doctype.Doctype.{Doctype}
use Rattle.tl_tree.specs.declared.entries.AttributeEntry.{AttributeEntry}
use Rattle.tl_tree.specs.declared.entries.DoctypeEntry.{DoctypeEntry}
use Rattle.tl_tree.specs.declared.entries.Namespace.{Namespace}
use Rattle.tl_tree.specs.declared.entries.Namespace.TheVariants.{Html, Math, Svg}
use Rattle.tl_tree.specs.declared.entries.TagEntry.{TagEntry}
use Rattle.tl_tree.specs.declared.row.Held.{Held}
use Rattle.tl_tree.specs.declared.row.Held.TheVariants.{Comment, Contents, Doctype as HeldDoctype, Element, Text}
use Rattle.tl_tree.specs.declared.row.Row as code
use Rattle.tl_tree.specs.declared.span.Piece.{Piece}
use Rattle.tl_tree.specs.declared.store.Store.{Store}
use Rattle.tl_tree.specs.declared.tree.Tree.{Tree}
use Rattle.tl_tree.specs.Sources.{node_source, place_at, source_at, start_tag_at}

end-found : (rows : List Row) (outer end : ℕ) (o : Option Row) → slice_get rows outer ≡ o → option_map (λ (row : Row). row.end) o ≡ Some end → (row : Row) × (slice_get rows outer ≡ Some row) × (row.end ≡ end)
end-found rows outer end None e f = absurd (none-some end f)
end-found rows outer end (Some row) e f = (row, e, same_Some row.end end f)

pub in-range : (rows : List Row) (outer number end : ℕ) → end_at rows outer ≡ Some end → outer < number → IsTrue (nat_lt number end) ↔ IsInRange rows outer number
in-range rows outer number end e l =
    let found = end-found rows outer end (slice_get rows outer) refl e in (
      λ h. (found.0, found.1, l, (let less = ltb-true number end h in let same = found.2 in omega (arith, less, same))),
      λ range. (
          let same = same_Some found.0 range.0 (sym found.1 ∙ range.1) in
          let at : range.0.end ≡ end = ap (λ (row : Row). row.end) (sym same) ∙ found.2 in
          let less = range.3 in
          lt-ltb number end (omega (arith, less, at))),
    )

no-end : (rows : List Row) (outer : ℕ) (o : Option Row) (row : Row) → o ≡ Some row → option_map (λ (row : Row). row.end) o ≡ None → ⊥
no-end rows outer None row e f = none-some row e
no-end rows outer (Some own) row e f = none-some own.end (sym f)

pub in-no-range : (rows : List Row) (outer number : ℕ) → end_at rows outer ≡ None → IsTrue false ↔ IsInRange rows outer number
in-no-range rows outer number e = (
  λ h. absurd (let f : ⊥ = cc in f),
  λ range. absurd (no-end rows outer (slice_get rows outer) range.0 range.1 e),
)

-- The name of an element

pub node-held : (t : Tree) (number : ℕ) (row : code.Row) → slice_get t.rows.items number ≡ Some row → node_at (rows_in t) number ≡ Some (held_in t.store (text_of t.store) row.held)
node-held t number row e =
    ap (option_map (λ (row : Row). row.node)) (slice_get-map (row_in t.store (text_of t.store)) t.rows.items number ∙ ap (option_map (row_in t.store (text_of t.store))) e)

tag-named : (s : Store) (entry : TagEntry) → (tag_of s entry).name ≡ bytes_in (text_of s) entry.name
unfolding tag_of bytes_of
tag-named s entry = refl

-- a row that was found
row-found : (t : Tree) (number : ℕ) (items : List code.Row) (row : code.Row) → items ≡ t.rows.items → true ≡ nat_lt number (length items) → row ≡ get_or items number row → slice_get t.rows.items number ≡ Some row
row-found t number items row same below got =
    subst (λ v. slice_get v number ≡ Some row) same (slice_get_read items (length items) number row refl (ltb-true number (length items) (sym below)) got)

-- what a row that was found holds
pub kind-found : (t : Tree) (number : ℕ) (items : List code.Row) (row : code.Row) (held : Held) → items ≡ t.rows.items → true ≡ nat_lt number (length items) → row ≡ get_or items number row → row.held ≡ held → Some (kind_of (held_in t.store (text_of t.store) held)) ≡ option_map kind_of (node_at (rows_in t) number)
kind-found t number items row held same below got is =
    sym (ap (option_map kind_of) (node-held t number row (row-found t number items row same below got))
    ∙ ap (λ v. Some (kind_of (held_in t.store (text_of t.store) v))) is)

-- what it says
said-found : (t : Tree) (number : ℕ) (items : List code.Row) (row : code.Row) (held : Held) → items ≡ t.rows.items → true ≡ nat_lt number (length items) → row ≡ get_or items number row → row.held ≡ held → said_of (held_in t.store (text_of t.store) held) ≡ option_and_then said_of (node_at (rows_in t) number)
said-found t number items row held same below got is =
    sym (ap (option_and_then said_of) (node-held t number row (row-found t number items row same below got))
    ∙ ap (λ v. said_of (held_in t.store (text_of t.store) v)) is)

pub piece-said : (t : Tree) (number : ℕ) (items : List code.Row) (row : code.Row) (piece : Piece) (bytes : List ℕ) → items ≡ t.rows.items → true ≡ nat_lt number (length items) → row ≡ get_or items number row → (row.held ≡ Text piece) ⊎ (row.held ≡ Comment piece) → bytes ≡ bytes_in (text_of t.store) piece.span → Some bytes ≡ option_and_then said_of (node_at (rows_in t) number)
piece-said t number items row piece bytes same below got (inl is) said =
    ap (λ (v : List ℕ). Some v) said ∙ said-found t number items row (Text piece) same below got is
piece-said t number items row piece bytes same below got (inr is) said =
    ap (λ (v : List ℕ). Some v) said ∙ said-found t number items row (Comment piece) same below got is

pub nothing-said : (t : Tree) (number : ℕ) (items : List code.Row) (row : code.Row) (held : Held) → items ≡ t.rows.items → true ≡ nat_lt number (length items) → row ≡ get_or items number row → row.held ≡ held → ((x : Piece) → held ≡ Text x → ⊥) → ((x : Piece) → held ≡ Comment x → ⊥) → None ≡ option_and_then said_of (node_at (rows_in t) number)
nothing-said t number items row (Text piece) same below got is text comment = absurd (text piece refl)
nothing-said t number items row (Comment piece) same below got is text comment = absurd (comment piece refl)
nothing-said t number items row (Element tag) same below got is text comment = said-found t number items row (Element tag) same below got is
nothing-said t number items row Contents same below got is text comment = said-found t number items row Contents same below got is
nothing-said t number items row (HeldDoctype doctype source) same below got is text comment = said-found t number items row (HeldDoctype doctype source) same below got is

pub piece-within : (t : Tree) (number : ℕ) (items : List code.Row) (row : code.Row) (piece : Piece) → items ≡ t.rows.items → true ≡ nat_lt number (length items) → row ≡ get_or items number row → (row.held ≡ Text piece) ⊎ (row.held ≡ Comment piece) → IsTrue (is_span t.store piece.span)
piece-within t number items row piece same below got is =
    let s = t.store in
    let within = all-get (row_is_within (sizes_of s)) t.rows.items number row t.rows_within (row-found t number items row same below got) in
    elim is as (λ _. IsTrue (is_span s piece.span)) [
      | inl p ↦ subst (λ v. IsTrue (held_is_within (sizes_of s) v)) p within
      | inr q ↦ subst (λ v. IsTrue (held_is_within (sizes_of s) v)) q within
    ]

-- the row itself
row-read : (t : Tree) (number : ℕ) (items : List code.Row) (row : code.Row) → items ≡ t.rows.items → true ≡ nat_lt number (length items) → row ≡ get_or items number row → slice_get (rows_in t) number ≡ Some (row_in t.store (text_of t.store) row)
row-read t number items row same below got =
    let own = row_in t.store (text_of t.store) in
    slice_get-map own t.rows.items number ∙ ap (option_map own) (row-found t number items row same below got)

pub parent-none : (t : Tree) (number : ℕ) (items : List code.Row) (row : code.Row) → items ≡ t.rows.items → true ≡ nat_lt number (length items) → row ≡ get_or items number row → row.parent ≡ 0 → None ≡ parent_at (rows_in t) number
parent-none t number items row same below got e =
    sym (ap (option_and_then (λ (own : Row). own.parent)) (row-read t number items row same below got) ∙ ap parent_of e)

parent-behind : (n : ℕ) → (n ≡ 0 → ⊥) → Some (n - 1) ≡ parent_of n
parent-behind zero some = absurd (some refl)
parent-behind (suc n) some = let same : suc n - 1 ≡ n = omega arith in ap (λ k. Some k) same

pub parent-some : (t : Tree) (number : ℕ) (items : List code.Row) (row : code.Row) → items ≡ t.rows.items → true ≡ nat_lt number (length items) → row ≡ get_or items number row → (row.parent ≡ 0 → ⊥) → Some (row.parent - 1) ≡ parent_at (rows_in t) number
parent-some t number items row same below got some =
    parent-behind row.parent some ∙ sym (ap (option_and_then (λ (own : Row). own.parent)) (row-read t number items row same below got))

pub end-read : (t : Tree) (number : ℕ) (items : List code.Row) (row : code.Row) → items ≡ t.rows.items → true ≡ nat_lt number (length items) → row ≡ get_or items number row → Some row.end ≡ end_at (rows_in t) number
end-read t number items row same below got =
    sym (ap (option_map (λ (own : Row). own.end)) (row-read t number items row same below got))

-- the element of a row that was found
element-found : (t : Tree) (number tag : ℕ) (items : List code.Row) (row : code.Row) (entry : TagEntry) → items ≡ t.rows.items → true ≡ nat_lt number (length items) → row ≡ get_or items number row → row.held ≡ Element tag → entry ≡ get_or t.store.tags.items tag entry → node_at (rows_in t) number ≡ Some (an_element (tag_of t.store entry))
element-found t number tag items row entry same below got held e =
    let s = t.store in
    let at = row-found t number items row same below got in
    let within = all-get (row_is_within (sizes_of s)) t.rows.items number row t.rows_within at in
    let counts : IsTrue (nat_lt tag (length s.tags.items)) = subst (λ v. IsTrue (held_is_within (sizes_of s) v)) held within in
    node-held t number row at ∙ (ap (λ v. Some (held_in s (text_of s) v)) held ∙ ap (λ v. Some (an_element v)) (tag-is s tag entry counts e))

pub name-found : (t : Tree) (number tag : ℕ) (items : List code.Row) (row : code.Row) (entry : TagEntry) (bytes : List ℕ) → items ≡ t.rows.items → true ≡ nat_lt number (length items) → row ≡ get_or items number row → row.held ≡ Element tag → entry ≡ get_or t.store.tags.items tag entry → bytes ≡ bytes_in (text_of t.store) entry.name → Some bytes ≡ option_and_then name_of (node_at (rows_in t) number)
name-found t number tag items row entry bytes same below got held e is =
    sym (ap (option_and_then name_of) (element-found t number tag items row entry same below got held e) ∙ ap (λ v. Some v) (tag-named t.store entry ∙ sym is))

-- the name of an element whose tag is known
pub name-stands : (t : Tree) (number tag : ℕ) (items : List code.Row) (row : code.Row) (entry : TagEntry) → items ≡ t.rows.items → true ≡ nat_lt number (length items) → row ≡ get_or items number row → row.held ≡ Element tag → tag_of t.store entry ≡ tag_at t.store tag → Some (bytes_of t.store entry.name) ≡ option_and_then name_of (node_at (rows_in t) number)
unfolding tag_of
name-stands t number tag items row entry same below got held e =
    let s = t.store in
    let at = row-found t number items row same below got in
    ap (λ (own : dom.Tag). Some own.name) e
    ∙ sym (ap (option_and_then name_of) (node-held t number row at ∙ ap (λ v. Some (held_in s (text_of s) v)) held))

tag-spaced : (s : Store) (entry : TagEntry) → (tag_of s entry).space ≡ space_of entry.space
unfolding tag_of
tag-spaced s entry = refl

namespace-back : (space : Namespace) → namespace_by (space_of space) ≡ space
namespace-back Html = refl
namespace-back Math = refl
namespace-back Svg = refl

pub namespace-found : (t : Tree) (number tag : ℕ) (items : List code.Row) (row : code.Row) (entry : TagEntry) → items ≡ t.rows.items → true ≡ nat_lt number (length items) → row ≡ get_or items number row → row.held ≡ Element tag → entry ≡ get_or t.store.tags.items tag entry → Some entry.space ≡ option_and_then namespace_of (node_at (rows_in t) number)
namespace-found t number tag items row entry same below got held e =
    sym (ap (option_and_then namespace_of) (element-found t number tag items row entry same below got held e) ∙ ap (λ v. Some v) (ap namespace_by (tag-spaced t.store entry) ∙ namespace-back entry.space))

-- The number of its start tag

tag-sourced : (s : Store) (entry : TagEntry) → (tag_of s entry).source ≡ source_of entry.start
unfolding tag_of
tag-sourced s entry = refl

start-none : (t : Tree) (k : ℕ) → k ≡ 0 → start_tag_at t (source_of k) ≡ None
start-none t k e = ap (λ (n : ℕ). start_tag_at t (source_of n)) e

start-some : (t : Tree) (k : ℕ) → (k ≡ 0 → ⊥) → start_tag_at t (source_of k) ≡ place_at t k
start-some t zero e = absurd (e refl)
start-some t (suc k) e = refl

pub no-start-tag : (t : Tree) (tag : ℕ) (entry : TagEntry) → tag_of t.store entry ≡ tag_at t.store tag → entry.start ≡ 0 → start_tag_at t (tag_at t.store tag).source ≡ None
no-start-tag t tag entry is e =
    ap (λ (own : dom.Tag). start_tag_at t own.source) (sym is) ∙ (ap (start_tag_at t) (tag-sourced t.store entry) ∙ start-none t entry.start e)

pub some-start-tag : (t : Tree) (tag : ℕ) (entry : TagEntry) → tag_of t.store entry ≡ tag_at t.store tag → (entry.start ≡ 0 → ⊥) → start_tag_at t (tag_at t.store tag).source ≡ place_at t entry.start
some-start-tag t tag entry is e =
    ap (λ (own : dom.Tag). start_tag_at t own.source) (sym is) ∙ (ap (start_tag_at t) (tag-sourced t.store entry) ∙ start-some t entry.start e)

-- by what a row holds
pub held-source : (t : Tree) (number : ℕ) (items : List code.Row) (row : code.Row) (held : Held) → items ≡ t.rows.items → true ≡ nat_lt number (length items) → row ≡ get_or items number row → row.held ≡ held → node_source t (held_in t.store (text_of t.store) held) ≡ source_at t number
held-source t number items row held same below got is =
    let at = row-found t number items row same below got in
    sym (ap (option_and_then (node_source t)) (node-held t number row at) ∙ ap (λ v. node_source t (held_in t.store (text_of t.store) v)) is)

-- Attributes

tag-attributes : (s : Store) (entry : TagEntry) → (tag_of s entry).attributes ≡ attributes_in s (entries_of s entry)
unfolding tag_of
tag-attributes s entry = refl

pub attributes-found : (t : Tree) (number tag : ℕ) (items : List code.Row) (row : code.Row) (entry : TagEntry) (entries : List AttributeEntry) → items ≡ t.rows.items → true ≡ nat_lt number (length items) → row ≡ get_or items number row → row.held ≡ Element tag → tag_of t.store entry ≡ tag_at t.store tag → entries ≡ entries_of t.store entry → attributes_in t.store entries ≡ attributes_at (rows_in t) number
attributes-found t number tag items row entry entries same below got held e is =
    let s = t.store in
    let at = row-found t number items row same below got in
    ap (attributes_in s) is ∙ (sym (tag-attributes s entry) ∙ (ap (λ (own : dom.Tag). own.attributes) e
    ∙ sym (ap (λ o. unwrap_or (option_map attributes_of o) []) (node-held t number row at ∙ ap (λ v. Some (held_in s (text_of s) v)) held))))

-- A doctype

pub doctype-found : (t : Tree) (number own source : ℕ) (items : List code.Row) (row : code.Row) (entry : DoctypeEntry) (said : Doctype) → items ≡ t.rows.items → true ≡ nat_lt number (length items) → row ≡ get_or items number row → row.held ≡ HeldDoctype own source → doctype_of t.store entry ≡ doctype_at t.store own → doctype_said said ≡ doctype_of t.store entry → Some (doctype_said said) ≡ option_and_then asked_doctype (node_at (rows_in t) number)
doctype-found t number own source items row entry said same below got held e is =
    let s = t.store in
    let at = row-found t number items row same below got in
    sym (ap (option_and_then asked_doctype) (node-held t number row at ∙ ap (λ v. Some (held_in s (text_of s) v)) held) ∙ ap (λ v. Some v) (sym e ∙ sym is))

pub doctype-parts : (s : Store) (entry : DoctypeEntry) (said : Doctype) → said.name.now ≡ bytes_of s entry.name → option_copied said.public_id ≡ option_map (bytes_of s) entry.public_id → option_copied said.system_id ≡ option_map (bytes_of s) entry.system_id → said.forces_quirks ≡ entry.forces_quirks → doctype_said said ≡ doctype_of s entry
unfolding doctype_of
doctype-parts s entry said name public system quirks = cc
