-- What is read of a store.
use Rattle.std.proofs.Common.{ap, arith, inl, inr, sym, ◌∙◌, ◌≡◌, ◌+◌, ◌-◌, ◌≤◌, ◌<◌, ◌++◌, ◌&&◌, ◌∷◌, [], IsTrue, List, cond, drop, get_or, length, nat_eq, nat_le, refl, take, true, false, ℕ}
use Rattle.std.proofs.Math.Seq.{drop-append-add}
use Rattle.std.proofs.lemmas.Bool.{and_parts, leb-true, or_cases}
use Rattle.std.proofs.lemmas.List.{get_or-map}
use Rattle.std.specs.List.{onto_first, slice_split}
use Rattle.tl_dom_spec.specs.Tags as dom
use Rattle.tl_html_spec.specs.Balanced.{with_first, words}
use Rattle.tl_html_spec.specs.Doctypes as doctypes
use Rattle.tl_tree.proofs.Listed.{part-front}
use Rattle.tl_tree.specs.Inner.Store.{bytes_of, doctype_at, doctype_of, is_span, tag_at, tag_of}
use Rattle.tl_tree.specs.declared.entries.DoctypeEntry.{DoctypeEntry}
use Rattle.tl_tree.specs.declared.entries.TagEntry.{TagEntry}
use Rattle.tl_tree.specs.Inner.Within.{span_is_within}
use Rattle.tl_tree.specs.declared.span.Span.{Span}
use Rattle.tl_tree.specs.declared.store.Store.{Store}

pub name-of : (s : Store) (t : TagEntry) → bytes_of s t.name ≡ (tag_of s t).name
unfolding tag_of
name-of s t = refl

pub tag-read : (s : Store) (n : ℕ) (t : TagEntry) → t ≡ get_or s.tags.items n t → n < length s.tags.items → tag_of s t ≡ tag_at s n
unfolding tag_at
tag-read s n t is h =
    sym (get_or-map (tag_of s) s.tags.items n t (dom.bare_tag []) h ∙ ap (tag_of s) (sym is))

pub doctype-read : (s : Store) (n : ℕ) (d : DoctypeEntry) → d ≡ get_or s.doctypes.items n d → n < length s.doctypes.items → doctype_of s d ≡ doctype_at s n
unfolding doctype_at
doctype-read s n d is h =
    sym (get_or-map (doctype_of s) s.doctypes.items n d doctypes.no_doctype.own h ∙ ap (doctype_of s) (sym is))

pub bytes-page : (page side : List ℕ) (span : Span) → span.start + span.len ≤ length page → take (span.start + span.len - span.start) (drop span.start page) ≡ take span.len (drop span.start (page ++ side))
bytes-page page side span h =
    let len : span.start + span.len - span.start ≡ span.len = omega arith in
    ap (λ n. take n (drop span.start page)) len
    ∙ sym (part-front span.len span.start page side h)

-- bytes that don't lie in the page begin behind it
behind-page : (page side : ℕ) (span : Span) → IsTrue (span_is_within page side span) → page < span.start + span.len → page ≤ span.start
behind-page page side span h past =
    elim (or_cases (nat_le (span.start + span.len) page) (nat_le page span.start && nat_le (span.start + span.len) (page + side)) h) [
      | inl p ↦ (let le = leb-true (span.start + span.len) page p in absurd (omega arith))
      | inr q ↦ leb-true page span.start (and_parts (nat_le page span.start) (nat_le (span.start + span.len) (page + side)) q).0
    ]

pub bytes-side : (page side : List ℕ) (span : Span) → IsTrue (span_is_within (length page) (length side) span) → length page < span.start + span.len → take (span.start + span.len - length page - (span.start - length page)) (drop (span.start - length page) side) ≡ take span.len (drop span.start (page ++ side))
bytes-side page side span h past =
    let from = span.start - length page in
    let behind = behind-page (length page) (length side) span h past in
    let len : span.start + span.len - length page - from ≡ span.len = omega arith in
    let start : length page + from ≡ span.start = omega arith in
    ap (λ n. take n (drop from side)) len
    ∙ ap (take span.len)
    (sym (drop-append-add page side from)
    ∙ ap (λ n. drop n (page ++ side)) start)

-- Words

with-onto : (b : ℕ) (names : List (List ℕ)) → with_first b names ≡ onto_first b names
with-onto b [] = refl
with-onto b (name ∷ names) = refl

pub words-split : (text : List ℕ) → words text ≡ slice_split (λ b. nat_eq b 32) text
words-split [] = refl
words-split (b ∷ text) =
    elim (nat_eq b 32) as (λ x. cond x ([] ∷ words text) (with_first b (words text)) ≡ cond x ([] ∷ slice_split (λ c. nat_eq c 32) text) (onto_first b (slice_split (λ c. nat_eq c 32) text))) [
      | true ↦ ap (λ names. [] ∷ names) (words-split text)
      | false ↦ with-onto b (words text) ∙ ap (onto_first b) (words-split text)
    ]
