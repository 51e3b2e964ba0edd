-- The attributes of a tag with those of another one that are missing.
use Rattle.std.proofs.Common.{Bool, IsTrue, List, ap, append-nil, arith, cond, drop, false, filter, length, length-append, length-drop, map, nat_le, not, refl, subst, sym, take, true, ℕ, [], false, ◌++◌, ◌+◌, ◌-◌, ◌||◌, ◌∙◌, ◌∷◌, ◌≡◌}
use Rattle.std.proofs.Math.Seq.{drop-append_seam}
use Rattle.std.proofs.lemmas.Bool.{and_from, and_parts, le-leb, leb-true, or_from, or_parts}
use Rattle.std.proofs.lemmas.List.{drop-append-le, map-append, take_all}
use Rattle.std.specs.List.{list_all, list_any}
use Rattle.std.specs.Str.{bytes_eq}
use Rattle.tl_dom_spec.specs.Builder.{with_more}
use Rattle.tl_dom_spec.specs.Tags as dom
use Rattle.tl_tree.proofs.AlikeTags.{entries-long, entries-within, tag-parts}
use Rattle.tl_tree.proofs.Grown.{bytes-grown, grows_trans, list-begins}
use Rattle.tl_tree.proofs.Listed.{begins-longer}
use Rattle.tl_tree.proofs.SaidTags.{attributes-same, span-kept}
use Rattle.tl_tree.specs.Inner.Merging.{IsLast, is_missing, missing}
use Rattle.tl_tree.specs.Inner.Said.{attributes_in}
use Rattle.tl_tree.specs.Inner.Store.{Grows, attribute_of, bytes_of, entries_of, is_attribute, is_span, is_tag, list_in, source_of, space_of, tag_of}
use Rattle.tl_tree.specs.Inner.Within.{key_in}
use Rattle.tl_tree.specs.declared.entries.AttributeEntry.{AttributeEntry}
use Rattle.tl_tree.specs.declared.entries.AttributeList.{AttributeList}
use Rattle.tl_tree.specs.declared.entries.TagEntry.{TagEntry}
use Rattle.tl_tree.specs.declared.store.Store.{Store}

-- where the keys of the text are none
pub none-keyed : (s : Store) (key own : List ℕ) (xs : List AttributeEntry) → own ≡ key → list_any (λ a. bytes_eq (key_in (s.page.now ++ s.side.items) a) own) xs ≡ false → dom.has_attribute key (attributes_in s xs) ≡ false
unfolding bytes_of
none-keyed s key own [] same none = refl
none-keyed s key own (x ∷ xs) same none =
    let test = λ (a : AttributeEntry). bytes_eq (key_in (s.page.now ++ s.side.items) a) own in
    let p = or_parts (test x) (list_any test xs) none in
    or_from (bytes_eq (bytes_of s x.key) key) (dom.has_attribute key (attributes_in s xs))
    (ap (bytes_eq (bytes_of s x.key)) (sym same) ∙ p.0)
    (none-keyed s key own xs same p.1)

pub tag-kept : (s t : Store) → Grows s t → (tag : TagEntry) → IsTrue (is_tag s tag) → IsTrue (is_tag t tag)
tag-kept s t g tag h =
    let end = tag.first_attribute + tag.attribute_count in
    let p = and_parts (is_span s tag.name) (nat_le end (length (list_in s tag.list))) h in
    let longer = begins-longer (list_in s tag.list) (list_in t tag.list) (list-begins s t g tag.list) in
    let old = leb-true end (length (list_in s tag.list)) p.1 in
    and_from (is_span t tag.name) (nat_le end (length (list_in t tag.list))) (span-kept s t g tag.name p.0)
    (le-leb end (length (list_in t tag.list)) (omega (arith, longer, old)))

all-filtered : {A : Type 0} (test own : A → Bool) (xs : List A) → IsTrue (list_all test xs) → IsTrue (list_all test (filter own xs))
all-filtered test own [] all = refl
all-filtered test own (x ∷ xs) all =
    let p = and_parts (test x) (list_all test xs) all in
    let rest = all-filtered test own xs p.1 in
    elim (own x) as (λ b. IsTrue (list_all test (cond b (x ∷ filter own xs) (filter own xs)))) [
      | true ↦ and_from (test x) (list_all test (filter own xs)) p.0 rest
      | false ↦ rest
    ]

pub missing-within : (s : Store) (own other : TagEntry) → IsTrue (list_all (is_attribute s) (missing s own other))
unfolding missing
missing-within s own other =
    all-filtered (is_attribute s) (is_missing s own) (entries_of s other) (entries-within s other)

map-filtered : {A B : Type 0} (f : A → B) (test : B → Bool) (xs : List A) → map f (filter (λ x. test (f x)) xs) ≡ filter test (map f xs)
map-filtered f test [] = refl
map-filtered f test (x ∷ xs) =
    elim (test (f x)) as (λ b. map f (cond b (x ∷ filter (λ y. test (f y)) xs) (filter (λ y. test (f y)) xs)) ≡ cond b (f x ∷ filter test (map f xs)) (filter test (map f xs))) [
      | true ↦ ap (λ ys. f x ∷ ys) (map-filtered f test xs)
      | false ↦ map-filtered f test xs
    ]

missing-in : (s : Store) (own other : TagEntry) → attributes_in s (missing s own other) ≡ filter (λ (a : dom.Attribute). not (dom.has_attribute a.key (attributes_in s (entries_of s own)))) (attributes_in s (entries_of s other))
unfolding missing
missing-in s own other =
    map-filtered (attribute_of s) (λ (a : dom.Attribute). not (dom.has_attribute a.key (attributes_in s (entries_of s own)))) (entries_of s other)

-- a tag that misses none
pub none-missing : (s : Store) (own other : TagEntry) → missing s own other ≡ [] → tag_of s own ≡ with_more (tag_of s other).attributes (tag_of s own)
unfolding tag_of
none-missing s own other none =
    let all = attributes_in s (entries_of s own) in
    ap (λ (attributes : List dom.Attribute). record { space = space_of own.space; name = bytes_of s own.name; attributes = attributes; source = source_of own.start })
    (sym (append-nil all) ∙ ap (λ (more : List dom.Attribute). all ++ more) (sym (ap (attributes_in s) none) ∙ missing-in s own other))

-- A tag whose attributes are put in once more

module _ (s u : Store) (g : Grows s u) (list : AttributeList) (tag : TagEntry) (within : IsTrue (is_tag s tag)) (first : ℕ) (first_is : first ≡ length (list_in s list)) (xs : List AttributeEntry) (is : xs ≡ entries_of s tag) (put : list_in u list ≡ list_in s list ++ xs) where
  abbrev moved : TagEntry
  moved = record tag { list = list; first_attribute = first }

  many : length xs ≡ tag.attribute_count
  many = ap length is ∙ entries-long s tag within

  entries-moved : entries_of u moved ≡ entries_of s tag
  entries-moved =
      let long = many in
      ap (λ (n : ℕ). take tag.attribute_count (drop n (list_in u list))) first_is
      ∙ (ap (λ ys. take tag.attribute_count (drop (length (list_in s list)) ys)) put
      ∙ (ap (take tag.attribute_count) (drop-append_seam (list_in s list) xs)
      ∙ (take_all tag.attribute_count xs (omega arith) ∙ is)))

  pub copied-tag : tag_of u moved ≡ tag_of s tag
  unfolding tag_of
  copied-tag =
      ap (λ (n : List ℕ). record { space = space_of tag.space; name = n; attributes = attributes_in u (entries_of u moved); source = source_of tag.start }) (bytes-grown s u g tag.name (tag-parts s tag within).name)
      ∙ ap (λ (attributes : List dom.Attribute). record { space = space_of tag.space; name = bytes_of s tag.name; attributes = attributes; source = source_of tag.start })
      (ap (attributes_in u) entries-moved ∙ attributes-same s u g (entries_of s tag) (entries-within s tag))

  pub copied-last : IsLast u list moved
  copied-last =
      let end = ap length put ∙ length-append (list_in s list) xs in
      let long = many in
      record {
        within = and_from (is_span u tag.name) (nat_le (first + tag.attribute_count) (length (list_in u list)))
            (span-kept s u g tag.name (tag-parts s tag within).name) (le-leb (first + tag.attribute_count) (length (list_in u list)) (omega arith));
        list = refl;
        end = omega arith;
      }

-- A tag whose attributes were the last ones of a list, and get more behind them

module _ (t u : Store) (more : Grows t u) (list : AttributeList) (last : TagEntry) (at_end : IsLast t list last) (xs : List AttributeEntry) (put : list_in u list ≡ list_in t list ++ xs) (all : ℕ) (all_is : all ≡ length (list_in u list)) where
  abbrev longer : TagEntry
  longer = record last { attribute_count = all - last.first_attribute }

  many-more : all ≡ length (list_in t list) + length xs
  many-more = all_is ∙ (ap length put ∙ length-append (list_in t list) xs)

  entries-longer : entries_of u longer ≡ entries_of t last ++ xs
  entries-longer =
      let first = last.first_attribute in
      let count = last.attribute_count in
      let front = list_in t list in
      let end = at_end.end in
      let long = many-more in
      let behind = length-drop first front in
      let both = length-append (drop first front) xs in
      ap (λ (own : AttributeList). take (all - first) (drop first (list_in u own))) at_end.list
      ∙ (ap (λ ys. take (all - first) (drop first ys)) put
      ∙ (ap (take (all - first)) (drop-append-le first front xs (omega arith))
      ∙ (take_all (all - first) (drop first front ++ xs) (omega arith)
      ∙ ap (λ ys. ys ++ xs)
      (sym (ap (λ (own : AttributeList). take count (drop first (list_in t own))) at_end.list ∙ take_all count (drop first front) (omega arith))))))

  pub longer-within : IsTrue (is_tag u longer)
  longer-within =
      let first = last.first_attribute in
      let end = at_end.end in
      let long = many-more in
      let own = all_is in
      let name = span-kept t u more last.name (tag-parts t last at_end.within).name in
      and_from (is_span u last.name) (nat_le (first + (all - first)) (length (list_in u last.list))) name
      (subst (λ (own : AttributeList). IsTrue (nat_le (first + (all - first)) (length (list_in u own)))) (sym at_end.list)
      (le-leb (first + (all - first)) (length (list_in u list)) (omega arith)))

  pub merged-tag : (s : Store) → Grows s t → (own other : TagEntry) → tag_of t last ≡ tag_of s own → xs ≡ missing s own other → tag_of u longer ≡ with_more (tag_of s other).attributes (tag_of s own)
  unfolding tag_of
  merged-tag s g own other same is =
      let added = filter (λ (a : dom.Attribute). not (dom.has_attribute a.key (attributes_in s (entries_of s own)))) (attributes_in s (entries_of s other)) in
      let front = attributes_in t (entries_of t last) in
      let as_more : attributes_in u xs ≡ added =
      ap (attributes_in u) is
      ∙ (attributes-same s u (grows_trans s t u g more) (missing s own other) (missing-within s own other) ∙ missing-in s own other) in
      let as_attributes : attributes_in u (entries_of u longer) ≡ front ++ added =
      ap (attributes_in u) entries-longer
      ∙ (map-append (attribute_of u) (entries_of t last) xs
      ∙ (ap (λ ys. ys ++ attributes_in u xs) (attributes-same t u more (entries_of t last) (entries-within t last))
      ∙ ap (λ ys. front ++ ys) as_more)) in
      ap (λ (n : List ℕ). record { space = space_of last.space; name = n; attributes = attributes_in u (entries_of u longer); source = source_of last.start }) (bytes-grown t u more last.name (tag-parts t last at_end.within).name)
      ∙ (ap (λ (attributes : List dom.Attribute). record { space = space_of last.space; name = bytes_of t last.name; attributes = attributes; source = source_of last.start }) as_attributes
      ∙ ap (λ (tag : dom.Tag). record tag { attributes = tag.attributes ++ added }) same)
