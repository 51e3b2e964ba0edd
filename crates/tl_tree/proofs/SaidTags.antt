-- What tokens say, put into a store: attributes one by one, and where their parts stand.
use Rattle.std.proofs.Common.{Global, Vec, ap, ap₂, arith, cond, not, sym, subst, ◌∙◌, ◌≡◌, ◌+◌, ◌-◌, ◌≤◌, ◌<◌, ◌++◌, ◌||◌, ◌∷◌, [], Bool, false, true, IsTrue, List, None, append-nil, append_assoc, drop, if◌then◌else◌, inl, inr, length, length-append, length-take, map, refl, take, ℕ}
use Rattle.std.proofs.Math.Seq.{drop-append_seam}
use Rattle.std.proofs.lemmas.Bool.{and_parts, cases_Bool}
use Rattle.std.proofs.lemmas.List.{drop-append-le, drop-take, drop_all, map-append, take-append-drop, take-take, take_all}
use Rattle.std.proofs.lemmas.List.Folds.{list_any-append}
use Rattle.std.proofs.lemmas.Map.Text.{is_eq-slice_cmp}
use Rattle.std.proofs.lemmas.Slice.Eq.{bytes_eq-Decides}
use Rattle.std.specs.BTreeSet.{BTreeSet, Updates, contains}
use Rattle.std.specs.List.{list_all, list_any}
use Rattle.std.specs.Str.{bytes_eq}
use Rattle.tl_dom_spec.specs.Tags as dom
use Rattle.tl_html_parts.proofs.Attributes.{with_more}
use Rattle.tl_html_parts.specs.Parts.{attributes_of, name_of, value_of, with_attributes}
use Rattle.tl_html_parts.specs.Places.{pair_in, pairs_in, part_in}
use Rattle.tl_html_parts.specs.declared.place.AttributePlace.{AttributePlace}
use Rattle.tl_html_parts.specs.declared.place.PartPlace.{PartPlace}
use Rattle.tl_html_spec.specs.HtmlTokenizer.{HtmlAttribute, HtmlToken, OpenTag, new_tag, with_attribute}
use Rattle.tl_names.specs.declared.element_name.TheConstants.ElementName.{OTHER}
use Rattle.tl_tree.proofs.Grown.{attribute-grown, bytes-grown}
use Rattle.tl_tree.proofs.Listed.{all-weaker, begins-longer, map-same, map-take, part-front}
use Rattle.tl_tree.proofs.Within.{attribute-more, span-more}
use Rattle.tl_tree.specs.Inner.Said.{AreKeysBehind, attributes_in, attributes_so_far, has_key, key_order, keys_in, tag_with, with_key}
use Rattle.tl_tree.specs.Inner.Store.{Grows, attribute_of, bytes_of, is_attribute, is_span, list_in, tag_of}
use Rattle.tl_tree.specs.Inner.Within.{attribute_is_within, span_is_within}
use Rattle.tl_tree.specs.declared.entries.AttributeEntry.{AttributeEntry}
use Rattle.tl_tree.specs.declared.entries.AttributeList.TheVariants.{Tags}
use Rattle.tl_tree.specs.declared.entries.AttributeSpace.TheVariants.{Plain}
use Rattle.tl_tree.specs.declared.entries.Namespace.TheVariants.{Html}
use Rattle.tl_tree.specs.declared.span.Span.{Span}
use Rattle.tl_tree.specs.declared.store.Store.{Store}

-- What is in range stays so

pub span-kept : (s t : Store) → Grows s t → (span : Span) → IsTrue (is_span s span) → IsTrue (is_span t span)
span-kept s t g span h =
    subst (λ (page : List ℕ). IsTrue (span_is_within (length page) (length t.side.items) span)) (sym g.page)
    (span-more (length s.page.now) (length s.side.items) (length t.side.items) span (begins-longer s.side.items t.side.items g.side) h)

pub attribute-kept : (s t : Store) → Grows s t → (a : AttributeEntry) → IsTrue (is_attribute s a) → IsTrue (is_attribute t a)
attribute-kept s t g a h =
    subst (λ (page : List ℕ). IsTrue (attribute_is_within (length page) (length t.side.items) a)) (sym g.page)
    (attribute-more (length s.page.now) (length s.side.items) (length t.side.items) a (begins-longer s.side.items t.side.items g.side) h)

pub attributes-kept : (s t : Store) → Grows s t → (xs : List AttributeEntry) → IsTrue (list_all (is_attribute s) xs) → IsTrue (list_all (is_attribute t) xs)
attributes-kept s t g xs all = all-weaker (is_attribute s) (is_attribute t) (attribute-kept s t g) xs all

pub attributes-same : (s t : Store) → Grows s t → (xs : List AttributeEntry) → IsTrue (list_all (is_attribute s) xs) → attributes_in t xs ≡ attributes_in s xs
attributes-same s t g xs all = map-same (is_attribute s) (attribute_of t) (attribute_of s) (attribute-grown s t g) xs all

-- Attributes one by one

has-plain : (key : List ℕ) (attributes : List HtmlAttribute) → dom.has_attribute key (map dom.plain_attribute attributes) ≡ list_any (λ a. bytes_eq a.0 key) attributes
has-plain key [] = refl
has-plain key (a ∷ attributes) = ap (λ (b : Bool). bytes_eq a.0 key || b) (has-plain key attributes)

pub key-repeated : (s : Store) (xs : List AttributeEntry) (key value : List ℕ) → dom.has_attribute key (attributes_in s xs) ≡ true → (tag : OpenTag) → attributes_in s xs ≡ attributes_so_far tag → attributes_in s xs ≡ attributes_so_far (with_attribute tag key value)
key-repeated s xs key value has tag e =
    let found : list_any (λ a. bytes_eq a.0 key) tag.attributes ≡ true =
    sym (has-plain key tag.attributes) ∙ (sym (ap (dom.has_attribute key) e) ∙ has) in
    e ∙ ap (λ (b : Bool). attributes_so_far (if b then tag else record tag { attributes = tag.attributes ++ (key, value) ∷ [] })) (sym found)

-- with one more behind them
behind-others : (s u : Store) → Grows s u → (xs ys : List AttributeEntry) → IsTrue (list_all (is_attribute s) xs) → (own : AttributeEntry) → ys ≡ xs ++ own ∷ [] → attributes_in u ys ≡ attributes_in s xs ++ attribute_of u own ∷ []
behind-others s u g xs ys all own is =
    ap (attributes_in u) is
    ∙ (map-append (attribute_of u) xs (own ∷ [])
    ∙ ap (λ (front : List dom.Attribute). front ++ attribute_of u own ∷ []) (attributes-same s u g xs all))

pub key-added : (s u : Store) → Grows s u → (xs ys : List AttributeEntry) → IsTrue (list_all (is_attribute s) xs) → (own : AttributeEntry) → ys ≡ xs ++ own ∷ [] → own.space ≡ Plain → IsTrue (is_span s own.key) → (value : List ℕ) → bytes_of u own.value ≡ value → dom.has_attribute (bytes_of s own.key) (attributes_in s xs) ≡ false → (tag : OpenTag) → attributes_in s xs ≡ attributes_so_far tag → attributes_in u ys ≡ attributes_so_far (with_attribute tag (bytes_of s own.key) value)
key-added s u g xs ys all own is plain within value value_is has tag e =
    let key : List ℕ = bytes_of s own.key in
    let found : list_any (λ a. bytes_eq a.0 key) tag.attributes ≡ false =
    sym (has-plain key tag.attributes) ∙ (sym (ap (dom.has_attribute key) e) ∙ has) in
    let key_now : bytes_of u own.key ≡ key = bytes-grown s u g own.key within in
    let one : attribute_of u own ≡ dom.plain_attribute (key, value) = cc in
    behind-others s u g xs ys all own is
    ∙ (ap (λ (front : List dom.Attribute). front ++ attribute_of u own ∷ []) e
    ∙ (ap (λ (a : dom.Attribute). attributes_so_far tag ++ a ∷ []) one
    ∙ (sym (map-append dom.plain_attribute tag.attributes ((key, value) ∷ []))
    ∙ ap (λ (b : Bool). attributes_so_far (if b then tag else record tag { attributes = tag.attributes ++ (key, value) ∷ [] })) (sym found))))

-- an attribute whose key was put first
pub put-later : (s t u : Store) → Grows s t → (xs ys : List AttributeEntry) → IsTrue (list_all (is_attribute s) xs) → (own key value : List ℕ) → own ≡ key → ((tag : OpenTag) → attributes_in t xs ≡ attributes_so_far tag → attributes_in u ys ≡ attributes_so_far (with_attribute tag own value)) → (tag : OpenTag) → attributes_in s xs ≡ attributes_so_far tag → attributes_in u ys ≡ attributes_so_far (with_attribute tag key value)
put-later s t u g xs ys all own key value is put tag e =
    put tag (attributes-same s t g xs all ∙ e)
    ∙ ap (λ (k : List ℕ). attributes_so_far (with_attribute tag k value)) is

-- Keys, of which a set has those behind the first 16

pub keys-has : (s : Store) (key : List ℕ) (xs : List AttributeEntry) → dom.has_attribute key (attributes_in s xs) ≡ has_key key (keys_in s xs)
keys-has s key [] = refl
keys-has s key (e ∷ xs) = ap (λ (b : Bool). bytes_eq (bytes_of s e.key) key || b) (keys-has s key xs)

pub keys-same : (s t : Store) → Grows s t → (xs : List AttributeEntry) → IsTrue (list_all (is_attribute s) xs) → keys_in t xs ≡ keys_in s xs
keys-same s t g xs all =
    map-same (is_attribute s) (λ e. bytes_of t e.key) (λ e. bytes_of s e.key) (λ e h. bytes-grown s t g e.key (and_parts (is_span s e.key) (is_span s e.value) h).0) xs all

pub keys-added : (s u : Store) → Grows s u → (xs ys : List AttributeEntry) → IsTrue (list_all (is_attribute s) xs) → (own : AttributeEntry) → ys ≡ xs ++ own ∷ [] → IsTrue (is_span s own.key) → has_key (bytes_of s own.key) (keys_in s xs) ≡ false → keys_in u ys ≡ with_key (keys_in s xs) (bytes_of s own.key)
keys-added s u g xs ys all own is within has =
    let keys : List (List ℕ) = keys_in s xs in
    let key : List ℕ = bytes_of s own.key in
    ap (keys_in u) is
    ∙ (map-append (λ (e : AttributeEntry). bytes_of u e.key) xs (own ∷ [])
    ∙ (ap₂ (λ (front : List (List ℕ)) (k : List ℕ). front ++ k ∷ []) (keys-same s u g xs all) (bytes-grown s u g own.key within)
    ∙ ap (λ (b : Bool). if b then keys else keys ++ key ∷ []) (sym has)))

has-split : (key : List ℕ) (keys : List (List ℕ)) → has_key key keys ≡ (has_key key (take 16 keys) || has_key key (drop 16 keys))
has-split key keys =
    ap (has_key key) (sym (take-append-drop 16 keys)) ∙ list_any-append (λ k. bytes_eq k key) (take 16 keys) (drop 16 keys)

pub has-others : (key : List ℕ) (keys : List (List ℕ)) → has_key key (take 16 keys) ≡ false → has_key key keys ≡ has_key key (drop 16 keys)
has-others key keys h = has-split key keys ∙ ap (λ (b : Bool). b || has_key key (drop 16 keys)) h

pub first-asked : (s : Store) (key : List ℕ) (xs : List AttributeEntry) (b : Bool) → dom.has_attribute key (attributes_in s (take 16 xs)) ≡ b → has_key key (take 16 (keys_in s xs)) ≡ b
first-asked s key xs b h = ap (has_key key) (sym (map-take (λ (e : AttributeEntry). bytes_of s e.key) 16 xs)) ∙ (sym (keys-has s key (take 16 xs)) ∙ h)

short : (keys : List (List ℕ)) (key : List ℕ) → length keys < 16 → (b : Bool) → drop 16 keys ≡ drop 16 (if b then keys else keys ++ key ∷ [])
short keys key few true = refl
short keys key few false =
    let more = length-append keys (key ∷ []) in
    drop_all 16 keys (omega arith) ∙ sym (drop_all 16 (keys ++ key ∷ []) (omega arith))

twice : (x : Bool) → not (not x) ≡ x
twice true = refl
twice false = refl

pub key-asked : (keys : List (List ℕ)) (set : BTreeSet (Vec ℕ Global)) → AreKeysBehind set keys → (own : Vec ℕ Global) (key : List ℕ) → own.items ≡ key → has_key key (take 16 keys) ≡ false → (is_new : Bool) → is_new ≡ not (contains key_order set own) → not is_new ≡ has_key key keys
key-asked keys set known own key is first is_new new =
    ap not new ∙ (twice (contains key_order set own)
    ∙ (known own
    ∙ (ap (λ (k : List ℕ). has_key k (drop 16 keys)) is
    ∙ sym (has-others key keys first))))

or-from_cond : (x y : Bool) → cond x true y ≡ (y || x)
or-from_cond true true = refl
or-from_cond true false = refl
or-from_cond false true = refl
or-from_cond false false = refl

or-true : (x : Bool) → (x || true) ≡ true
or-true true = refl
or-true false = refl

or-false-right : (x : Bool) → (x || false) ≡ x
or-false-right true = refl
or-false-right false = refl

with-one : (keys : List (List ℕ)) (key q : List ℕ) → 16 ≤ length keys → (b : Bool) → has_key key keys ≡ b → has_key key (take 16 keys) ≡ false →
    (has_key q (drop 16 keys) || bytes_eq key q) ≡ has_key q (drop 16 (if b then keys else keys ++ key ∷ []))
with-one keys key q many false has first =
    ap (λ (b : Bool). has_key q (drop 16 keys) || b) (sym (or-false-right (bytes_eq key q)))
    ∙ (sym (list_any-append (λ k. bytes_eq k q) (drop 16 keys) (key ∷ []))
    ∙ ap (has_key q) (sym (drop-append-le 16 keys (key ∷ []) many)))
with-one keys key q many true has first = elim (cases_Bool (bytes_eq key q)) [
  | inl y ↦ (
      let same : has_key q (drop 16 keys) ≡ true = ap (λ k. has_key k (drop 16 keys)) (sym ((bytes_eq-Decides key q).0 y)) ∙ (sym (has-others key keys first) ∙ has) in
      ap (λ (b : Bool). has_key q (drop 16 keys) || b) y ∙ (or-true (has_key q (drop 16 keys)) ∙ sym same))
  | inr n ↦ ap (λ (b : Bool). has_key q (drop 16 keys) || b) n ∙ or-false-right (has_key q (drop 16 keys))
]

pub behind-more : (keys : List (List ℕ)) (old new : BTreeSet (Vec ℕ Global)) → AreKeysBehind old keys → (own : Vec ℕ Global) (key : List ℕ) → own.items ≡ key → 16 ≤ length keys → has_key key (take 16 keys) ≡ false → Updates key_order old new own true → AreKeysBehind new (with_key keys key)
behind-more keys old new known own key is many first updates q =
    updates.0 q
    ∙ (ap₂ (λ (x y : Bool). cond x true y)
    (is_eq-slice_cmp own.items q.items ∙ ap (λ (k : List ℕ). bytes_eq k q.items) is)
    (known q)
    ∙ (or-from_cond (bytes_eq key q.items) (has_key q.items (drop 16 keys))
    ∙ with-one keys key q.items many (has_key key keys) refl first))

-- Parts of a tag of a page

pub page-part : (s : Store) (p : PartPlace) (span : Span) → span.start ≡ p.start → span.len ≡ p.end - p.start → p.start ≤ p.end → p.end ≤ length s.page.now → bytes_of s span ≡ part_in s.page.now p
unfolding bytes_of
page-part s p span start len order within =
    ap (λ n. take n (drop span.start (s.page.now ++ s.side.items))) len
    ∙ (ap (λ n. take (p.end - p.start) (drop n (s.page.now ++ s.side.items))) start
    ∙ part-front (p.end - p.start) p.start s.page.now s.side.items (omega arith))

-- one attribute more
pub one-more : (page : List ℕ) (xs ys : List AttributePlace) (a : AttributePlace) (own now : List dom.Attribute) → ys ≡ xs ++ a ∷ [] → own ≡ map dom.plain_attribute (attributes_of (pairs_in page xs)) →
    ((tag : OpenTag) → own ≡ attributes_so_far tag → now ≡ attributes_so_far (with_attribute tag (name_of (part_in page a.key)) (value_of (part_in page a.value)))) → now ≡ map dom.plain_attribute (attributes_of (pairs_in page ys))
one-more page xs ys a own now is stands put =
    put (with_attributes (new_tag false) (pairs_in page xs)) stands
    ∙ (ap attributes_so_far (sym (with_more (new_tag false) (pairs_in page xs) (pair_in page a)))
    ∙ ap (λ (ps : List (List ℕ × List ℕ)). map dom.plain_attribute (attributes_of ps)) (sym (ap (pairs_in page) is ∙ map-append (pair_in page) xs (a ∷ []))))

pub page-bytes : (s : Store) (place : ℕ) (bytes : List ℕ) (span : Span) → span.start ≡ place → span.len ≡ length bytes → place + length bytes ≤ length s.page.now → take (length bytes) (drop place s.page.now) ≡ bytes → bytes_of s span ≡ bytes
unfolding bytes_of
page-bytes s place bytes span start len within stands =
    ap (λ n. take n (drop span.start (s.page.now ++ s.side.items))) len
    ∙ (ap (λ n. take (length bytes) (drop n (s.page.now ++ s.side.items))) start
    ∙ (part-front (length bytes) place s.page.now s.side.items within ∙ stands))

-- what was put in last
pub last-entries : {A : Type 0} (front xs items : List A) (first all : ℕ) → items ≡ front ++ xs → first ≡ length front → all ≡ length items → take (all - first) (drop first items) ≡ xs
last-entries front xs items first all put first_is all_is =
    let many = ap length put ∙ length-append front xs in
    let count : all - first ≡ length xs = omega arith in
    ap (λ (n : ℕ). take n (drop first items)) count
    ∙ (ap (λ (n : ℕ). take (length xs) (drop n items)) first_is
    ∙ (ap (λ ys. take (length xs) (drop (length front) ys)) put
    ∙ (ap (take (length xs)) (drop-append_seam front xs)
    ∙ take_all (length xs) xs (omega arith))))

-- a tag whose attributes were put in last
pub tag-put : (s u : Store) → Grows s u → (span : Span) → IsTrue (is_span s span) →
    (xs : List AttributeEntry) → IsTrue (list_all (is_attribute s) xs) → list_in u Tags ≡ list_in s Tags ++ xs →
    (first all : ℕ) → first ≡ length (list_in s Tags) → all ≡ length (list_in u Tags) →
    tag_of u (record { space = Html; name = span; known = OTHER; number = 0; list = Tags; first_attribute = first; attribute_count = all - first; start = 0 }) ≡ tag_with (bytes_of s span) (attributes_in s xs)
unfolding tag_of
tag-put s u g span within xs all_within put first all first_is all_is =
    ap (λ (n : List ℕ). record { space = dom.html_space; name = n; attributes = attributes_in u (take (all - first) (drop first (list_in u Tags))); source = None }) (bytes-grown s u g span within)
    ∙ ap (tag_with (bytes_of s span))
    (ap (attributes_in u) (last-entries (list_in s Tags) xs (list_in u Tags) first all put first_is all_is) ∙ attributes-same s u g xs all_within)
