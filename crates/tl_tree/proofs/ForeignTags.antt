-- Words in their case, and the attributes and tags that are put in with them.
use Rattle.std.proofs.Common.{Bool, IsTrue, List, Option, [], add-one, ap, arith, drop, drop-cons, false, get_or, if◌then◌else◌, inl, inr, length, length-drop, map, nat_le, refl, subst, suc, sym, take, true, ℕ, ◌&&◌, ◌++◌, ◌+◌, ◌-◌, ◌<◌, ◌||◌, ◌∙◌, ◌∷◌, ◌≡◌, ◌≤◌}
use Rattle.std.proofs.Math.Seq.{take-suc}
use Rattle.std.proofs.lemmas.Bool.{and_from, and_parts, cond-false, cond-true, or_cases}
use Rattle.std.proofs.lemmas.Cmp.{nat_list_eq_equiv}
use Rattle.std.proofs.lemmas.List.{drop-append-le, drop-drop, drop-take, map-append, take_all}
use Rattle.std.specs.Borrow.{Bor}
use Rattle.std.specs.Char.{to_ascii_lowercase}
use Rattle.std.specs.Str.{bytes_eq}
use Rattle.tl_dom_spec.specs.Adjusted.{cased, foreign_attribute, foreign_key, foreign_tag, prefixed}
use Rattle.tl_dom_spec.specs.Tags as dom
use Rattle.tl_names.specs.Elements.{words_of}
use Rattle.tl_names.specs.declared.element_name.TheConstants.ElementName.{OTHER}
use Rattle.tl_tree.proofs.AlikeTags.{entries-long, entries-within, name-at, tag-parts}
use Rattle.tl_tree.proofs.Grown.{attribute-grown, bytes-grown, entries-kept, tag-grown}
use Rattle.tl_tree.proofs.Listed.{all-drop, begins-longer}
use Rattle.tl_tree.proofs.SaidTags.{attributes-same}
use Rattle.tl_tree.proofs.Within.{le-more, or-left, or-right}
use Rattle.tl_tree.proofs.Written.{all-at}
use Rattle.tl_tree.specs.Inner.Foreign.{own_name, renamed, spaced}
use Rattle.tl_tree.specs.Inner.Lists.{in_list}
use Rattle.tl_tree.specs.Inner.Said.{attributes_in}
use Rattle.tl_tree.specs.Inner.Store.{Grows, attribute_of, attribute_space_of, bytes_of, entries_of, is_attribute, is_span, is_tag, list_in, source_of, space_of, tag_at, tag_of, text_of}
use Rattle.tl_tree.specs.declared.entries.AttributeEntry.{AttributeEntry}
use Rattle.tl_tree.specs.declared.entries.AttributeList.TheVariants.{Tags}
use Rattle.tl_tree.specs.declared.entries.AttributeSpace.{AttributeSpace}
use Rattle.tl_tree.specs.declared.entries.AttributeSpace.TheVariants.{Plain}
use Rattle.tl_tree.specs.declared.entries.Namespace.{Namespace}
use Rattle.tl_tree.specs.declared.entries.TagEntry.{TagEntry}
use Rattle.tl_tree.specs.declared.span.Span.{Span}
use Rattle.tl_tree.specs.declared.store.Store.{Store}

abbrev pub unread : Bor (List ℕ)
unread = record { ref_ptr = (0, 0); now = [] }

rest-cased : (words : List (Bor (List ℕ))) (i : ℕ) (name : List ℕ) → i < length words → cased name (words_of (drop i words)) ≡ (if bytes_eq (map to_ascii_lowercase (get_or words i unread).now) name then (get_or words i unread).now else cased name (words_of (drop (i + 1) words)))
rest-cased words i name h =
    let all : drop i words ≡ get_or words i unread ∷ drop (i + 1) words = rw (add-one, drop-cons words i unread) refl in
    let word = (get_or words i unread).now in
    ap (λ (ws : List (Bor (List ℕ))). cased name (words_of ws)) all
    ∙ ap (λ (b : Bool). if b then word else cased name (words_of (drop (i + 1) words))) (nat_list_eq_equiv.symm name (map to_ascii_lowercase word))

pub cased-here : (words : List (Bor (List ℕ))) (i : ℕ) (name : List ℕ) → i < length words → bytes_eq (map to_ascii_lowercase (get_or words i unread).now) name ≡ true → cased name (words_of (drop i words)) ≡ (get_or words i unread).now
cased-here words i name h e = rest-cased words i name h ∙ cond-true _ _ _ e

pub cased-later : (words : List (Bor (List ℕ))) (i : ℕ) (name : List ℕ) → i < length words → bytes_eq (map to_ascii_lowercase (get_or words i unread).now) name ≡ false → cased name (words_of (drop i words)) ≡ cased name (words_of (drop (i + 1) words))
cased-later words i name h e = rest-cased words i name h ∙ cond-false _ _ _ e

-- A part of bytes

abbrev pub behind : Span → ℕ → Span
behind span n = record { start = span.start + n; len = span.len - n }

pub bytes-behind : (s : Store) (span : Span) (n : ℕ) → n ≤ span.len → bytes_of s (behind span n) ≡ drop n (bytes_of s span)
unfolding bytes_of
bytes-behind s span n h =
    let len : n + (span.len - n) ≡ span.len = omega arith in
    ap (take (span.len - n)) (sym (drop-drop n span.start (text_of s)))
    ∙ (sym (drop-take n (span.len - n) (drop span.start (text_of s)))
    ∙ ap (λ (k : ℕ). drop n (take k (drop span.start (text_of s)))) len)

pub span-behind : (s : Store) (span : Span) (n : ℕ) → n ≤ span.len → IsTrue (is_span s span) → IsTrue (is_span s (behind span n))
span-behind s span n le h =
    let page = length s.page.now in
    let all = page + length s.side.items in
    let last : span.start + n + (span.len - n) ≡ span.start + span.len = omega arith in
    subst (λ (end : ℕ). IsTrue (nat_le end page || (nat_le page (span.start + n) && nat_le end all))) (sym last)
    (elim (or_cases (nat_le (span.start + span.len) page) (nat_le page span.start && nat_le (span.start + span.len) all) h) [
      | inl p ↦ or-left (nat_le (span.start + span.len) page) (nat_le page (span.start + n) && nat_le (span.start + span.len) all) p
      | inr q ↦ (let parts = and_parts (nat_le page span.start) (nat_le (span.start + span.len) all) q in
          or-right (nat_le (span.start + span.len) page) (nat_le page (span.start + n) && nat_le (span.start + span.len) all)
          (and_from (nat_le page (span.start + n)) (nat_le (span.start + span.len) all) (le-more page span.start (span.start + n) parts.0 (omega arith)) parts.1))
    ])

-- An attribute that is put in

pub attribute-put : (s u : Store) → Grows s u → (own : AttributeEntry) → IsTrue (is_attribute s own) → (space : dom.Namespace) (key : Span) → bytes_of u key ≡ foreign_key space (bytes_of s own.key) → (put : AttributeSpace) (n : ℕ) → n ≤ key.len → (bytes : List ℕ) → bytes ≡ bytes_of u key →
    ((value : List ℕ) → spaced (attribute_space_of put) n bytes value ≡ prefixed (spaced (attribute_space_of own.space) 0 bytes value)) →
    attribute_of u (record { space = put; key = behind key n; value = own.value }) ≡ foreign_attribute space (attribute_of s own)
attribute-put s u g own h space key is put n le bytes read prefix =
    let p = and_parts (is_span s own.key) (is_span s own.value) h in
    ap (λ (k : List ℕ). record { space = attribute_space_of put; key = k; value = bytes_of u own.value }) (bytes-behind u key n le ∙ ap (drop n) (sym read))
    ∙ (prefix (bytes_of u own.value)
    ∙ (ap (λ (k : List ℕ). prefixed (spaced (attribute_space_of own.space) 0 k (bytes_of u own.value))) (read ∙ is)
    ∙ ap (λ (v : List ℕ). prefixed (spaced (attribute_space_of own.space) 0 (foreign_key space (bytes_of s own.key)) v)) (bytes-grown s u g own.value p.1)))

abbrev pub no_entry : AttributeEntry
no_entry = record { space = Plain; key = record { start = 0; len = 0 }; value = record { start = 0; len = 0 } }

entries-at : (o s : Store) → Grows o s → (tag : TagEntry) → IsTrue (is_tag o tag) → (items : List AttributeEntry) → items ≡ entries_of s tag → items ≡ entries_of o tag
entries-at o s before tag within items is = is ∙ entries-kept o s before tag (tag-parts o tag within).attributes

-- an attribute of a tag, read from a store that begins with that of the tag
pub entry-within : (o s : Store) → Grows o s → (tag : TagEntry) → IsTrue (is_tag o tag) → (items : List AttributeEntry) → items ≡ entries_of s tag → (i : ℕ) → i < tag.attribute_count → IsTrue (is_attribute o (get_or items i no_entry))
entry-within o s before tag within items is i h =
    let same = entries-at o s before tag within items is in
    let long = entries-long o tag within in
    all-at (is_attribute o) (entries_of o tag) i (get_or items i no_entry) no_entry (ap (λ xs. get_or xs i no_entry) same) (omega arith) (entries-within o tag)

-- one attribute more, that of a tag at a place
pub attributes-put : (o s t u : Store) → Grows o s → Grows s u → Grows t u → (tag : TagEntry) → IsTrue (is_tag o tag) → (i : ℕ) → i < tag.attribute_count → (f : dom.Attribute → dom.Attribute) →
    attributes_in s (drop (length (list_in o Tags)) (list_in s Tags)) ≡ map f (attributes_in o (take i (entries_of o tag))) →
    (items : List AttributeEntry) → items ≡ entries_of s tag → (put : AttributeEntry) → IsTrue (is_attribute t put) → attribute_of t put ≡ f (attribute_of s (get_or items i no_entry)) →
    t.attributes ≡ s.attributes → list_in u Tags ≡ list_in t Tags ++ put ∷ [] →
    attributes_in u (drop (length (list_in o Tags)) (list_in u Tags)) ≡ map f (attributes_in o (take (i + 1) (entries_of o tag)))
attributes-put o s t u before g more tag within i h f stands items is put put_within put_is same added =
    let n = length (list_in o Tags) in
    let longer = begins-longer (list_in o Tags) (list_in s Tags) before.attributes in
    let rest = drop n (list_in s Tags) in
    let here = entries-long o tag within in
    let at : i < length (entries_of o tag) = omega arith in
    let next : i + 1 ≡ suc i = omega arith in
    let a = get_or items i no_entry in
    let own : a ≡ get_or (entries_of o tag) i no_entry = ap (λ xs. get_or xs i no_entry) (entries-at o s before tag within items is) in
    let read : attribute_of s a ≡ attribute_of o a =
    attribute-grown o s before a (entry-within o s before tag within items is i h) in
    let left : attributes_in u (drop n (list_in u Tags)) ≡ attributes_in s rest ++ f (attribute_of o a) ∷ [] =
    ap (λ xs. attributes_in u (drop n xs)) (added ∙ ap (λ lists. in_list lists Tags ++ put ∷ []) same)
    ∙ (ap (attributes_in u) (drop-append-le n (list_in s Tags) (put ∷ []) longer)
    ∙ (map-append (attribute_of u) rest (put ∷ [])
    ∙ (ap (λ xs. xs ++ attribute_of u put ∷ []) (attributes-same s u g rest (all-drop (is_attribute s) n (list_in s Tags) (s.attributes_within Tags)))
    ∙ ap (λ (x : dom.Attribute). attributes_in s rest ++ x ∷ []) (attribute-grown t u more put put_within ∙ (put_is ∙ ap f read))))) in
    let right : map f (attributes_in o (take (i + 1) (entries_of o tag))) ≡ map f (attributes_in o (take i (entries_of o tag))) ++ f (attribute_of o a) ∷ [] =
    ap (λ (k : ℕ). map f (attributes_in o (take k (entries_of o tag)))) next
    ∙ (ap (λ xs. map f (attributes_in o xs)) (take-suc (entries_of o tag) i no_entry at)
    ∙ (ap (map f) (map-append (attribute_of o) (take i (entries_of o tag)) (get_or (entries_of o tag) i no_entry ∷ []))
    ∙ (map-append f (attributes_in o (take i (entries_of o tag))) (attribute_of o (get_or (entries_of o tag) i no_entry) ∷ [])
    ∙ ap (λ (x : AttributeEntry). map f (attributes_in o (take i (entries_of o tag))) ++ f (attribute_of o x) ∷ []) (sym own)))) in
    left ∙ (ap (λ xs. xs ++ f (attribute_of o a) ∷ []) stands ∙ sym right)

-- A tag that is put in

pub tag-put : (s t u : Store) → Grows s t → Grows t u → (n : ℕ) (own : TagEntry) → IsTrue (is_tag s own) → tag_of s own ≡ tag_at s n → (space : Namespace) (is_renamed : Bool) (name : Span) → IsTrue (is_span t name) → bytes_of t name ≡ own_name is_renamed (space_of space) (bytes_of s own.name) →
    (first : ℕ) → first ≡ length (list_in t Tags) → length (list_in u Tags) ≡ length (list_in t Tags) + own.attribute_count →
    attributes_in u (drop (length (list_in t Tags)) (list_in u Tags)) ≡ map (foreign_attribute (space_of space)) (attributes_in t (entries_of t own)) →
    tag_of u (record { space = space; name = name; known = OTHER; number = 0; list = Tags; first_attribute = first; attribute_count = own.attribute_count; start = own.start }) ≡ foreign_tag (space_of space) (renamed is_renamed (space_of space) (tag_at s n))
unfolding tag_of
tag-put s t u g more n own within is space is_renamed name name_within name_is first first_is many stands =
    let all = length-drop (length (list_in t Tags)) (list_in u Tags) in
    let as_name : bytes_of u name ≡ own_name is_renamed (space_of space) (tag_at s n).name =
    bytes-grown t u more name name_within ∙ (name_is ∙ ap (own_name is_renamed (space_of space)) (name-at s n own is)) in
    let as_attributes : attributes_in u (take own.attribute_count (drop first (list_in u Tags))) ≡ map (foreign_attribute (space_of space)) (tag_at s n).attributes =
    ap (λ (k : ℕ). attributes_in u (take own.attribute_count (drop k (list_in u Tags)))) first_is
    ∙ (ap (attributes_in u) (take_all own.attribute_count (drop (length (list_in t Tags)) (list_in u Tags)) (omega arith))
    ∙ (stands ∙ ap (map (foreign_attribute (space_of space))) (ap (λ (tag : dom.Tag). tag.attributes) (tag-grown s t g own within ∙ is)))) in
    ap (λ (bytes : List ℕ). record { space = space_of space; name = bytes; attributes = attributes_in u (take own.attribute_count (drop first (list_in u Tags))); source = source_of own.start }) as_name
    ∙ ap (λ (attributes : List dom.Attribute). record { space = space_of space; name = own_name is_renamed (space_of space) (tag_at s n).name; attributes = attributes; source = source_of own.start }) as_attributes
    ∙ ap (λ (own : Option ℕ). record (foreign_tag (space_of space) (renamed is_renamed (space_of space) (tag_at s n))) { source = own }) (ap (λ (tag : dom.Tag). tag.source) is)
