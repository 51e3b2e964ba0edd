-- What is seen of a tag by its entry: its namespace, its name, one of its attributes.
use Rattle.std.proofs.Common.{ap, sym, ◌∙◌, ◌≡◌, ◌≤◌, ◌<◌, ◌&&◌, Bool, List, false, get_or, length, map, take, true, ℕ}
use Rattle.std.proofs.lemmas.Cmp.{nat_list_eq_equiv}
use Rattle.std.proofs.lemmas.List.{take_all}
use Rattle.std.specs.Char.{to_ascii_lowercase}
use Rattle.std.specs.List.{list_any, starts_with}
use Rattle.std.specs.Prelude.{◌==◌}
use Rattle.std.specs.Str.{bytes_eq}
use Rattle.tl_dom_spec.specs.Tags as dom
use Rattle.tl_html_spec.specs.Balanced.{is_one_of}
use Rattle.tl_tree.proofs.AlikeTags.{any-found, name-at}
use Rattle.tl_tree.proofs.Listed.{map-take}
use Rattle.tl_tree.specs.Inner.Store.{attribute_of, bytes_of, entries_of, space_of, tag_at, tag_of}
use Rattle.tl_tree.specs.declared.entries.AttributeEntry.{AttributeEntry}
use Rattle.tl_tree.specs.declared.entries.TagEntry.{TagEntry}
use Rattle.tl_tree.specs.declared.store.Store.{Store}

pub space-at : (s : Store) (n : ℕ) (t : TagEntry) → tag_of s t ≡ tag_at s n → space_of t.space ≡ (tag_at s n).space
unfolding tag_of
space-at s n t e = ap (λ (tag : dom.Tag). tag.space) e

pub attributes-at : (s : Store) (n : ℕ) (t : TagEntry) → tag_of s t ≡ tag_at s n → map (attribute_of s) (entries_of s t) ≡ (tag_at s n).attributes
unfolding tag_of
attributes-at s n t e = ap (λ (tag : dom.Tag). tag.attributes) e

-- a name in a namespace, and one in another

pub named-in : (own : dom.Namespace → Bool) (names : List ℕ) (s : Store) (n : ℕ) (t : TagEntry) → tag_of s t ≡ tag_at s n → (r : Bool) → r ≡ own (space_of t.space) → r ≡ true → (name : List ℕ) → name ≡ bytes_of s t.name → is_one_of names name ≡ (own (tag_at s n).space && is_one_of names (tag_at s n).name)
named-in own names s n t e r is holds name same =
    ap (is_one_of names) (same ∙ name-at s n t e)
    ∙ ap (λ (b : Bool). b && is_one_of names (tag_at s n).name) (sym holds ∙ (is ∙ ap own (space-at s n t e)))

pub not-in : (own : dom.Namespace → Bool) (b : Bool) (s : Store) (n : ℕ) (t : TagEntry) → tag_of s t ≡ tag_at s n → (r : Bool) → r ≡ own (space_of t.space) → r ≡ false → r ≡ (own (tag_at s n).space && b)
not-in own b s n t e r is fails =
    fails ∙ ap (λ (c : Bool). c && b) (sym fails ∙ (is ∙ ap own (space-at s n t e)))

-- an attribute that passes, and none that does

pub attribute-found : (test : dom.Attribute → Bool) (s : Store) (n : ℕ) (t : TagEntry) → tag_of s t ≡ tag_at s n → (items : List AttributeEntry) → items ≡ entries_of s t → (i : ℕ) (d : AttributeEntry) → i < length items → test (attribute_of s (get_or items i d)) ≡ true → true ≡ list_any test (tag_at s n).attributes
attribute-found test s n t e items is i d h own =
    sym (any-found test (attribute_of s) items i d h own)
    ∙ (ap (λ xs. list_any test (map (attribute_of s) xs)) is ∙ ap (list_any test) (attributes-at s n t e))

pub attribute-missed : (test : dom.Attribute → Bool) (s : Store) (n : ℕ) (t : TagEntry) → tag_of s t ≡ tag_at s n → (items : List AttributeEntry) → items ≡ entries_of s t → (i : ℕ) → length items ≤ i → list_any test (map (attribute_of s) (take i items)) ≡ false → false ≡ list_any test (tag_at s n).attributes
attribute-missed test s n t e items is i h none =
    sym none
    ∙ (ap (λ xs. list_any test (map (attribute_of s) xs)) (take_all i items h ∙ is)
    ∙ ap (list_any test) (attributes-at s n t e))

-- a front in lower case
pub begins-low : (bytes lower : List ℕ) → bytes_eq (map to_ascii_lowercase (take (length lower) bytes)) lower ≡ starts_with ◌==◌ (map to_ascii_lowercase bytes) lower
begins-low bytes lower =
    nat_list_eq_equiv.symm (map to_ascii_lowercase (take (length lower) bytes)) lower
    ∙ ap (bytes_eq lower) (map-take to_ascii_lowercase (length lower) bytes)
