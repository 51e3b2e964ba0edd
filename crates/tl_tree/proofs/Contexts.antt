-- The tag of a context element, put into a store.
use Rattle.std.proofs.Common.{IsTrue, List, None, Some, [], ap, append_assoc, arith, codes, drop, get_or, if◌then◌else◌, length, map, suc, sym, take, ℕ, ◌++◌, ◌+◌, ◌-◌, ◌<◌, ◌∙◌, ◌∷◌, ◌≡◌}
use Rattle.std.proofs.Math.Seq.{take-suc}
use Rattle.std.proofs.lemmas.List.{drop-map, length-map, map-append, take-map}
use Rattle.tl_dom_spec.specs.Builder as builders
use Rattle.tl_dom_spec.specs.HtmlTree.{Context, context_form, fragment_start, page_start}
use Rattle.tl_dom_spec.specs.Reset.{reset_insertion_mode}
use Rattle.tl_dom_spec.specs.Tags as dom
use Rattle.tl_names.specs.declared.element_name.TheConstants.ElementName.{OTHER}
use Rattle.tl_tree.proofs.Grown.{bytes-grown, grows_trans}
use Rattle.tl_tree.proofs.SaidTags.{attributes-same, last-entries, span-kept}
use Rattle.tl_tree.specs.Inner.Said.{attributes_in}
use Rattle.tl_tree.specs.Inner.Lists.{in_list}
use Rattle.tl_tree.specs.Inner.Standing.{standing_in}
use Rattle.tl_tree.specs.Inner.Store.{Grows, attribute_of, bytes_of, is_span, list_in, space_of, tag_of}
use Rattle.tl_tree.specs.declared.entries.AttributeEntry.{AttributeEntry}
use Rattle.tl_tree.specs.declared.entries.AttributeList.TheVariants.{Tags}
use Rattle.tl_tree.specs.declared.entries.AttributeSpace.TheVariants.{Plain}
use Rattle.tl_tree.specs.declared.entries.Namespace.{Namespace}
use Rattle.tl_tree.specs.declared.span.Span.{Span}
use Rattle.tl_tree.specs.declared.store.Store.{Store}

-- one attribute behind the others
pub attribute-added : (s t u v : Store) → Grows s t → Grows t u → Grows u v → (key value : Span) → IsTrue (is_span t key) → IsTrue (is_span u value) → (k x : List ℕ) → bytes_of t key ≡ k → bytes_of u value ≡ x →
    t.attributes ≡ s.attributes → u.attributes ≡ t.attributes → list_in v Tags ≡ list_in u Tags ++ record { space = Plain; key = key; value = value } ∷ [] →
    attributes_in v (list_in v Tags) ≡ attributes_in s (list_in s Tags) ++ dom.plain_attribute (k, x) ∷ []
attribute-added s t u v g h i key value key_within value_within k x key_is value_is same same_too added =
    let own : AttributeEntry = record { space = Plain; key = key; value = value } in
    let front = list_in s Tags in
    let all : list_in v Tags ≡ front ++ own ∷ [] = added ∙ ap (λ xs. xs ++ own ∷ []) (ap (λ lists. in_list lists Tags) (same_too ∙ same)) in
    let key_now : bytes_of v key ≡ k =
    bytes-grown u v i key (span-kept t u h key key_within) ∙ (bytes-grown t u h key key_within ∙ key_is) in
    let value_now : bytes_of v value ≡ x = bytes-grown u v i value value_within ∙ value_is in
    let one : attribute_of v own ≡ dom.plain_attribute (k, x) = cc in
    ap (attributes_in v) all
    ∙ (map-append (attribute_of v) front (own ∷ [])
    ∙ (ap (λ xs. xs ++ attribute_of v own ∷ []) (attributes-same s v (grows_trans s u v (grows_trans s t u g h) i) front (s.attributes_within Tags))
    ∙ ap (λ (a : dom.Attribute). attributes_in s front ++ a ∷ []) one))

-- one more of those that are put in
pub one-more : {A : Type 0} (f : A → dom.Attribute) (front all more : List dom.Attribute) (xs : List A) (i : ℕ) (d : A) → i < length xs → all ≡ front ++ map f (take i xs) → more ≡ all ++ f (get_or xs i d) ∷ [] → more ≡ front ++ map f (take (i + 1) xs)
one-more f front all more xs i d h stands added =
    let next : i + 1 ≡ suc i = omega arith in
    let last : map f (take (i + 1) xs) ≡ map f (take i xs) ++ f (get_or xs i d) ∷ [] =
    ap (λ (n : ℕ). map f (take n xs)) next
    ∙ (ap (map f) (take-suc xs i d h) ∙ map-append f (take i xs) (get_or xs i d ∷ [])) in
    added
    ∙ (ap (λ ys. ys ++ f (get_or xs i d) ∷ []) stands
    ∙ (append_assoc front (map f (take i xs)) (f (get_or xs i d) ∷ []) ∙ ap (λ ys. front ++ ys) (sym last)))

-- a tag whose attributes were put in last
pub tag-added : (t u : Store) → Grows t u → (space : Namespace) (span : Span) → IsTrue (is_span t span) → (name : List ℕ) → bytes_of t span ≡ name → (attributes : List dom.Attribute) →
    attributes_in u (list_in u Tags) ≡ attributes_in t (list_in t Tags) ++ attributes → (first all : ℕ) → first ≡ length (list_in t Tags) → all ≡ length (list_in u Tags) →
    tag_of u (record { space = space; name = span; known = OTHER; number = 0; list = Tags; first_attribute = first; attribute_count = all - first; start = 0 }) ≡ record { space = space_of space; name = name; attributes = attributes; source = None }
unfolding tag_of
tag-added t u g space span within name is attributes put first all first_is all_is =
    let items = list_in u Tags in
    let last = last-entries (attributes_in t (list_in t Tags)) attributes (attributes_in u items) first all put
    (first_is ∙ sym (length-map (list_in t Tags) (attribute_of t))) (all_is ∙ sym (length-map items (attribute_of u))) in
    let own : attributes_in u (take (all - first) (drop first items)) ≡ attributes =
    sym (take-map (attribute_of u) (all - first) (drop first items))
    ∙ (ap (take (all - first)) (sym (drop-map (attribute_of u) first items)) ∙ last) in
    ap (λ (n : List ℕ). record { space = space_of space; name = n; attributes = attributes_in u (take (all - first) (drop first items)); source = None }) (bytes-grown t u g span within ∙ is)
    ∙ ap (λ (xs : List dom.Attribute). record { space = space_of space; name = name; attributes = xs; source = None }) own

-- What a builder holds before the first token of a fragment

pub stands-in : (context : Context) (new rooted inside templated formed ready first : builders.Builder) → rooted ≡ builders.insert_element (dom.bare_tag (codes "html")) new → inside ≡ record rooted { context = Some context.tag } →
    templated ≡ record inside { templates = if dom.is_template context.tag then builders.in_template ∷ inside.templates else inside.templates } → formed ≡ record templated { form = context_form context } → ready ≡ record formed { is_quirks = context.is_quirks } →
    first ≡ reset_insertion_mode ready → first ≡ standing_in context new
unfolding standing_in
stands-in context new rooted inside templated formed ready first is_rooted is_inside is_templated is_formed is_ready is_first =
    is_first
    ∙ ap reset_insertion_mode
    (is_ready
    ∙ ap (λ (b : builders.Builder). record b { is_quirks = context.is_quirks })
    (is_formed
    ∙ ap (λ (b : builders.Builder). record b { form = context_form context })
    (is_templated
    ∙ ap (λ (b : builders.Builder). record b { templates = if dom.is_template context.tag then builders.in_template ∷ b.templates else b.templates })
    (is_inside
    ∙ ap (λ (b : builders.Builder). record b { context = Some context.tag })
    is_rooted))))

pub fragment-begins : (flags : builders.Flags) (context : Context) (new first : builders.Builder) → new ≡ page_start flags → first ≡ standing_in context new → first ≡ fragment_start flags context
unfolding standing_in
fragment-begins flags context new first is_new is_first = is_first ∙ ap (standing_in context) is_new
