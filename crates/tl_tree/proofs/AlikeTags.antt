-- Attributes of two tags, looked at one after the other.
use Rattle.std.proofs.Common.{ap, arith, sym, ◌∙◌, ◌≡◌, ◌+◌, ◌≤◌, ◌<◌, ◌&&◌, ◌||◌, ◌∷◌, [], Bool, IsTrue, List, drop, false, get_or, length, map, nat_eq, nat_le, suc, take, true, zero, ℕ}
use Rattle.std.proofs.Math.Bool.{or-true}
use Rattle.std.proofs.lemmas.Bool.{and_parts, and_right, leb-true}
use Rattle.std.proofs.lemmas.List.{length-drop, length-map, length-take}
use Rattle.std.specs.List.{list_all, list_any}
use Rattle.std.specs.Str.{bytes_eq}
use Rattle.tl_dom_spec.specs.Formatting.{is_alike, is_same_attribute}
use Rattle.tl_dom_spec.specs.Tags as tags
use Rattle.tl_tree.proofs.Listed.{all-drop, all-take}
use Rattle.tl_tree.specs.Inner.Store.{attribute_of, bytes_of, entries_of, is_attribute, is_span, is_tag, list_in, tag_at, tag_of}
use Rattle.tl_tree.specs.declared.entries.TagEntry.{TagEntry}
use Rattle.tl_tree.specs.declared.store.Store.{Store}

pub any-found : {A B : Type 0} (f : B → Bool) (g : A → B) (xs : List A) (i : ℕ) (d : A) → i < length xs → f (g (get_or xs i d)) ≡ true → list_any f (map g xs) ≡ true
any-found f g [] i d h own = absurd (omega arith)
any-found f g (y ∷ xs) zero d h own = ap (λ b. b || list_any f (map g xs)) own
any-found f g (y ∷ xs) (suc i) d h own =
    ap (λ b. f (g y) || b) (any-found f g xs i d (omega arith) own) ∙ or-true (f (g y))

pub all-missed : {A B : Type 0} (f : B → Bool) (g : A → B) (xs : List A) (i : ℕ) (d : A) → i < length xs → f (g (get_or xs i d)) ≡ false → list_all f (map g xs) ≡ false
all-missed f g [] i d h own = absurd (omega arith)
all-missed f g (y ∷ xs) zero d h own = ap (λ b. b && list_all f (map g xs)) own
all-missed f g (y ∷ xs) (suc i) d h own =
    and_right (f (g y)) (list_all f (map g xs)) (all-missed f g xs i d (omega arith) own)

-- one more of a front
pub all-next : {A B : Type 0} (f : B → Bool) (g : A → B) (xs : List A) (i : ℕ) (d : A) → i < length xs → list_all f (map g (take i xs)) ≡ true → f (g (get_or xs i d)) ≡ true → list_all f (map g (take (suc i) xs)) ≡ true
all-next f g [] i d h front own = absurd (omega arith)
all-next f g (y ∷ xs) zero d h front own = ap (λ b. b && true) own
all-next f g (y ∷ xs) (suc i) d h front own =
    let parts = and_parts (f (g y)) (list_all f (map g (take i xs))) front in
    ap (λ b. b && list_all f (map g (take (suc i) xs))) parts.0 ∙ all-next f g xs i d (omega arith) parts.1 own

-- what is known of a tag

pub record TagParts (s : Store) (t : TagEntry) : Type 0 where
  pub name : IsTrue (is_span s t.name)
  pub attributes : t.first_attribute + t.attribute_count ≤ length (list_in s t.list)

pub tag-parts : (s : Store) (t : TagEntry) → IsTrue (is_tag s t) → TagParts s t
tag-parts s t h =
    let last = t.first_attribute + t.attribute_count in
    let p = and_parts (is_span s t.name) (nat_le last (length (list_in s t.list))) h in
    record { name = p.0; attributes = leb-true last (length (list_in s t.list)) p.1 }

pub entries-within : (s : Store) (t : TagEntry) → IsTrue (list_all (is_attribute s) (entries_of s t))
entries-within s t =
    all-take (is_attribute s) t.attribute_count (drop t.first_attribute (list_in s t.list))
    (all-drop (is_attribute s) t.first_attribute (list_in s t.list) (s.attributes_within t.list))

pub entries-long : (s : Store) (t : TagEntry) → IsTrue (is_tag s t) → length (entries_of s t) ≡ t.attribute_count
entries-long s t h =
    let within = (tag-parts s t h).attributes in
    let behind = length-drop t.first_attribute (list_in s t.list) in
    let least = length-take t.attribute_count (drop t.first_attribute (list_in s t.list)) in
    omega arith

pub attribute-count : (s : Store) (t : TagEntry) → IsTrue (is_tag s t) → length (map (attribute_of s) (entries_of s t)) ≡ t.attribute_count
attribute-count s t h = length-map (entries_of s t) (attribute_of s) ∙ entries-long s t h

abbrev pub have_same : Store → TagEntry → TagEntry → Bool
have_same s a b =
    list_all
    (λ (x : tags.Attribute). list_any (is_same_attribute x) (map (attribute_of s) (entries_of s b)))
    (map (attribute_of s) (entries_of s a))

-- counts of attributes are compared as the entries have them
pub alike-tags : (s : Store) (a b : TagEntry) → IsTrue (is_tag s a) → IsTrue (is_tag s b) → is_alike (tag_of s a) (tag_of s b) ≡ (bytes_eq (bytes_of s a.name) (bytes_of s b.name) && nat_eq a.attribute_count b.attribute_count && have_same s a b)
unfolding tag_of
alike-tags s a b h k =
    let same = bytes_eq (bytes_of s a.name) (bytes_of s b.name) in
    let count = length (map (attribute_of s) (entries_of s b)) in
    ap (λ (n : ℕ). same && nat_eq n count && have_same s a b) (attribute-count s a h)
    ∙ ap (λ (n : ℕ). same && nat_eq a.attribute_count n && have_same s a b) (attribute-count s b k)

pub alike-at : (s : Store) (m n : ℕ) (a b : TagEntry) → IsTrue (is_tag s a) → IsTrue (is_tag s b) → tag_of s a ≡ tag_at s m → tag_of s b ≡ tag_at s n → is_alike (tag_at s m) (tag_at s n) ≡ (bytes_eq (bytes_of s a.name) (bytes_of s b.name) && nat_eq a.attribute_count b.attribute_count && have_same s a b)
alike-at s m n a b h k p q =
    ap (λ (t : tags.Tag). is_alike t (tag_at s n)) (sym p)
    ∙ (ap (λ (t : tags.Tag). is_alike (tag_of s a) t) (sym q) ∙ alike-tags s a b h k)

pub name-at : (s : Store) (n : ℕ) (t : TagEntry) → tag_of s t ≡ tag_at s n → bytes_of s t.name ≡ (tag_at s n).name
unfolding tag_of
name-at s n t e = ap (λ (tag : tags.Tag). tag.name) e
