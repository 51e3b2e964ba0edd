-- A store whose page stands in its side buffer says what it said.
use Rattle.std.proofs.Common.{IsTrue, List, None, Option, Some, [], ap, arith, length, length-append, map, nat_le, nat_lt, refl, slice_get, subst, suc, sym, ℕ, ◌&&◌, ◌++◌, ◌+◌, ◌∙◌, ◌≡◌}
use Rattle.std.proofs.lemmas.Bool.{and_from, and_parts, le-leb}
use Rattle.std.specs.List.{list_all}
use Rattle.tl_dom_spec.specs.Marks.{marked}
use Rattle.tl_tree.proofs.Listed.{all-weaker, map-same}
use Rattle.tl_tree.proofs.TreeRows.{doctype-part, doctype-parts, row-with, tag-part, tag-parts}
use Rattle.tl_tree.proofs.Within.{or-right, span-bound}
use Rattle.tl_tree.specs.Inner.RowView.{bytes_in, held_in, held_is_within, row_in, row_is_within}
use Rattle.tl_tree.specs.Inner.Store.{doctype_at, sizes_of, tag_at, text_of}
use Rattle.tl_tree.specs.Inner.Within.{attribute_is_within, doctype_is_within, id_is_within, span_is_within, tag_is_within}
use Rattle.tl_tree.specs.Rows as rows
use Rattle.tl_tree.specs.Rows.{Node, a_comment, a_doctype, a_text, an_element, contents}
use Rattle.tl_tree.specs.declared.entries.AttributeEntry.{AttributeEntry}
use Rattle.tl_tree.specs.declared.entries.AttributeList.{AttributeList}
use Rattle.tl_tree.specs.declared.entries.DoctypeEntry.{DoctypeEntry}
use Rattle.tl_tree.specs.declared.entries.TagEntry.{TagEntry}
use Rattle.tl_tree.specs.declared.row.Held.{Held}
use Rattle.tl_tree.specs.declared.row.Held.TheVariants.{Comment, Contents, Doctype, Element, Text}
use Rattle.tl_tree.specs.declared.row.Row.{Row}
use Rattle.tl_tree.specs.declared.span.Span.{Span}
use Rattle.tl_tree.specs.declared.store.Store.{Store}
use Rattle.tl_tree.specs.declared.tree.Tree.{Tree}
use Rattle.tl_tree.specs.Asked.{node_at}
use Rattle.tl_tree.specs.Sources.{bounds_in, gap_at, node_source, source_at, source_of, start_or, start_tag_at}
use Rattle.tl_tree.specs.declared.source.Bounds.{Bounds}
use Rattle.tl_tree.specs.declared.source.Source.{Source}
use Rattle.tl_tree.specs.TreeView.{rows_in}
use Rattle.std.specs.Option.{option_and_then, option_map}

-- In range, where the page is empty and all stands in the side buffer

span-owned : (page side none all : ℕ) (s : Span) → none ≡ 0 → all ≡ page + side → IsTrue (span_is_within page side s) → IsTrue (span_is_within none all s)
span-owned page side none all s n e h =
    let bound = span-bound page side s h in
    or-right (nat_le (s.start + s.len) none) (nat_le none s.start && nat_le (s.start + s.len) (none + all))
    (and_from (nat_le none s.start) (nat_le (s.start + s.len) (none + all))
    (le-leb none s.start (omega (arith, n))) (le-leb (s.start + s.len) (none + all) (omega (arith, n, e, bound))))

id-owned : (page side none all : ℕ) (id : Option Span) → none ≡ 0 → all ≡ page + side → IsTrue (id_is_within page side id) → IsTrue (id_is_within none all id)
id-owned page side none all None n e h = refl
id-owned page side none all (Some s) n e h = span-owned page side none all s n e h

pub attributes-owned : (page side none all : ℕ) (own : List AttributeEntry) → none ≡ 0 → all ≡ page + side → IsTrue (list_all (attribute_is_within page side) own) → IsTrue (list_all (attribute_is_within none all) own)
attributes-owned page side none all own n e h =
    all-weaker (attribute_is_within page side) (attribute_is_within none all)
    (λ a own. let p = and_parts (span_is_within page side a.key) (span_is_within page side a.value) own in
    and_from (span_is_within none all a.key) (span_is_within none all a.value)
    (span-owned page side none all a.key n e p.0) (span-owned page side none all a.value n e p.1))
    own h

pub tags-owned : (page side none all : ℕ) (many : AttributeList → ℕ) (own : List TagEntry) → none ≡ 0 → all ≡ page + side → IsTrue (list_all (tag_is_within page side many) own) → IsTrue (list_all (tag_is_within none all many) own)
tags-owned page side none all many own n e h =
    all-weaker (tag_is_within page side many) (tag_is_within none all many)
    (λ t own. let p = and_parts (span_is_within page side t.name) (nat_le (t.first_attribute + t.attribute_count) (many t.list)) own in
    and_from (span_is_within none all t.name) (nat_le (t.first_attribute + t.attribute_count) (many t.list))
    (span-owned page side none all t.name n e p.0) p.1)
    own h

pub doctypes-owned : (page side none all : ℕ) (own : List DoctypeEntry) → none ≡ 0 → all ≡ page + side → IsTrue (list_all (doctype_is_within page side) own) → IsTrue (list_all (doctype_is_within none all) own)
doctypes-owned page side none all own n e h =
    all-weaker (doctype_is_within page side) (doctype_is_within none all)
    (λ d own. let p = and_parts (span_is_within page side d.name) (id_is_within page side d.public_id && id_is_within page side d.system_id) own in
    let q = and_parts (id_is_within page side d.public_id) (id_is_within page side d.system_id) p.1 in
    and_from (span_is_within none all d.name) (id_is_within none all d.public_id && id_is_within none all d.system_id)
    (span-owned page side none all d.name n e p.0)
    (and_from (id_is_within none all d.public_id) (id_is_within none all d.system_id)
    (id-owned page side none all d.public_id n e q.0) (id-owned page side none all d.system_id n e q.1)))
    own h

-- What is said

-- two stores that say the same by the same tags, attributes and doctypes
pub record SayAlike (s t : Store) : Type 0 where
  pub text : text_of t ≡ text_of s
  pub attributes : t.attributes ≡ s.attributes
  pub tags : t.tags ≡ s.tags
  pub doctypes : t.doctypes ≡ s.doctypes

tag-said : (s t : Store) → SayAlike s t → (n : ℕ) → tag_at t n ≡ tag_at s n
tag-said s t a n =
    tag-parts t n
    ∙ (ap (λ v. tag-part v t.attributes t.tags.items n) a.text
    ∙ (ap (λ v. tag-part (text_of s) v t.tags.items n) a.attributes
    ∙ (ap (λ v. tag-part (text_of s) s.attributes v.items n) a.tags ∙ sym (tag-parts s n))))

doctype-said : (s t : Store) → SayAlike s t → (n : ℕ) → doctype_at t n ≡ doctype_at s n
doctype-said s t a n =
    doctype-parts t n
    ∙ (ap (λ v. doctype-part v t.doctypes.items n) a.text
    ∙ (ap (λ v. doctype-part (text_of s) v.items n) a.doctypes ∙ sym (doctype-parts s n)))

held-said : (s t : Store) → SayAlike s t → (held : Held) → held_in t (text_of t) held ≡ held_in s (text_of s) held
held-said s t a (Element tag) = ap rows.an_element (tag-said s t a tag)
held-said s t a Contents = refl
held-said s t a (Text own) = ap (λ v. rows.a_text (marked own.source (bytes_in v own.span))) a.text
held-said s t a (Comment own) = ap (λ v. rows.a_comment (marked own.source (bytes_in v own.span))) a.text
held-said s t a (Doctype n source) = ap (λ v. rows.a_doctype (marked source v)) (doctype-said s t a n)

pub rows-said : (s t : Store) → SayAlike s t → (own : List Row) → IsTrue (list_all (row_is_within (sizes_of s)) own) → map (row_in t (text_of t)) own ≡ map (row_in s (text_of s)) own
rows-said s t a own within =
    map-same (row_is_within (sizes_of s)) (row_in t (text_of t)) (row_in s (text_of s))
    (λ row h. row-with (held_in t (text_of t) row.held) (held_in s (text_of s) row.held) row (held-said s t a row.held)) own within

-- The rows of a store that has no page

length-of : (page : List ℕ) → page ≡ [] → length page ≡ 0
length-of page e = ap length e

all-of : (s t : Store) → SayAlike s t → t.page.now ≡ [] → length t.side.items ≡ length s.page.now + length s.side.items
all-of s t a none =
    ap length (ap (λ v. v ++ t.side.items) (sym none) ∙ a.text) ∙ length-append s.page.now s.side.items

held-owned : (s t : Store) → SayAlike s t → t.page.now ≡ [] → (held : Held) → IsTrue (held_is_within (sizes_of s) held) → IsTrue (held_is_within (sizes_of t) held)
held-owned s t a none (Element tag) h = subst (λ v. IsTrue (nat_lt tag (length v.items))) (sym a.tags) h
held-owned s t a none Contents h = h
held-owned s t a none (Text own) h =
    span-owned (length s.page.now) (length s.side.items) (length t.page.now) (length t.side.items) own.span (length-of t.page.now none) (all-of s t a none) h
held-owned s t a none (Comment own) h =
    span-owned (length s.page.now) (length s.side.items) (length t.page.now) (length t.side.items) own.span (length-of t.page.now none) (all-of s t a none) h
held-owned s t a none (Doctype n source) h = subst (λ v. IsTrue (nat_lt n (length v.items))) (sym a.doctypes) h

pub rows-owned : (s t : Store) → SayAlike s t → t.page.now ≡ [] → (own : List Row) → IsTrue (list_all (row_is_within (sizes_of s)) own) → IsTrue (list_all (row_is_within (sizes_of t)) own)
rows-owned s t a none own h =
    all-weaker (row_is_within (sizes_of s)) (row_is_within (sizes_of t)) (λ row. held-owned s t a none row.held) own h

-- Where a row comes from, in trees that have the same places of marks

start-said : (t u : Tree) → u.sources ≡ t.sources → (number : Option ℕ) → start_tag_at u number ≡ start_tag_at t number
start-said t u sources None = refl
start-said t u sources (Some n) = ap (λ v. option_map source_of (slice_get (bounds_in v) (suc n))) sources

gap-said : (t u : Tree) → u.sources ≡ t.sources → u.page_end ≡ t.page_end → (n : ℕ) → gap_at u n ≡ gap_at t n
gap-said t u sources end n =
    ap (λ v. gap-in u.page_end (bounds_in v) n) sources ∙ ap (λ v. gap-in v (bounds_in t.sources) n) end
  where
    gap-in : ℕ → List Bounds → ℕ → Option Source
    gap-in end own n =
        option_map (λ (before : Source). let s : Source = record { start = before.end; end = start_or end (option_map source_of (slice_get own (suc n))) } in s)
        (option_map source_of (slice_get own n))

node-said : (t u : Tree) → u.sources ≡ t.sources → u.page_end ≡ t.page_end → (node : Node) → node_source u node ≡ node_source t node
node-said t u sources end (an_element tag) = start-said t u sources tag.source
node-said t u sources end contents = refl
node-said t u sources end (a_text own) = gap-said t u sources end own.source
node-said t u sources end (a_comment own) = start-said t u sources (Some own.source)
node-said t u sources end (a_doctype own) = start-said t u sources (Some own.source)

pub sources-said : (t u : Tree) → u.sources ≡ t.sources → u.page_end ≡ t.page_end → rows_in u ≡ rows_in t → (row : ℕ) → source_at u row ≡ source_at t row
sources-said t u sources end same row =
    ap (λ v. option_and_then (node_source u) (node_at v row)) same ∙ by-node (node_at (rows_in t) row)
  where
    by-node : (node : Option Node) → option_and_then (node_source u) node ≡ option_and_then (node_source t) node
    by-node None = refl
    by-node (Some node) = node-said t u sources end node
