-- What is found by a shared text, as a query and as a search by CSS.
use Rattle.std.proofs.Common.{◌≡◌, ◌<◌, ◌||◌, ℕ, Bool, true, false, List, length, Option, Some, None, slice_get, ap, sym, subst, refl, arith, ◌∙◌, inl, inr}
use Rattle.std.specs.List.{All}
use Rattle.std.specs.Option.{IsSome, IsSomeAnd, option_map_or}
use Rattle.std.proofs.lemmas.Bool.{and_parts, cases_Bool, false≢true}
use Rattle.std.proofs.lemmas.Option.{slice_get_within}
use Rattle.tl_spec.specs.Lookup.Scan.{id_of, is_in_class}
use Rattle.tl_spec.specs.Select.LossyText.{BeginsWith, EndsWith, HasPart, HasWord, IsSameText}
use Rattle.tl_spec.specs.Select.Meaning.{HoldsAlone, HasValue}
use Rattle.tl_spec.specs.Select.Meaning as port
use Rattle.tl_spec.specs.Select.Selector.{Selector, Tag, Id, Class, All as Every, And, Or, Descendant, Parent as ChildOf, Attribute, AttributeValue, AttributeValueWhitespacedContains, AttributeValueStartsWith, AttributeValueEndsWith, AttributeValueSubstring}
use Rattle.tl_spec.specs.Select.Text.{IsSelectorText}
use Rattle.tl_spec.specs.Tree.Document.{Node, Tag as TagOf, Raw, Comment}
use Rattle.tl_spec.specs.Tree.Element.{name_of, attribute_of}
use Rattle.tl_spec.proofs.Select.Text.{text-only}
use Rattle.tl_css.specs.Grammar.{IsSelector}
use Rattle.tl_css.specs.Meaning.{AreFound, IsForest, IsTag}
use Rattle.tl_css.specs.Selector.{Css}
use Rattle.tl_css.proofs.Complete.{one_at_most}
use Rattle.tl_css_laws.specs.Plain.{IsPlain, IsTame, css_of}
use Rattle.tl_css_laws.specs.Shared.{AreTagsAmong, asks_for_tags, holds_at_tags, is_shared_text}
use Rattle.tl.specs.Query.{FindsMatches}
use Rattle.tl_css_laws.proofs.Found.{same}
use Rattle.tl_css_laws.proofs.Plain.{plain_alike}
use Rattle.tl_css_laws.proofs.SharedTexts.{one_selector, shared_alike}

-- Where a selector of the Rust crate holds at tags alone

named : (node : Node) (name : List ℕ) → name_of node ≡ Some name → IsSome (name_of node)
named (TagOf own) name h = refl
named (Raw bytes) name h = absurd (cc)
named (Comment bytes) name h = absurd (cc)

with_id : (node : Node) (id : List ℕ) → id_of node ≡ Some id → IsSome (name_of node)
with_id (TagOf own) id h = refl
with_id (Raw bytes) id h = absurd (cc)
with_id (Comment bytes) id h = absurd (cc)

in_class : (node : Node) (member : List ℕ) → is_in_class member node ≡ true → IsSome (name_of node)
in_class (TagOf own) member h = refl
in_class (Raw bytes) member h = absurd (false≢true h)
in_class (Comment bytes) member h = absurd (false≢true h)

with_key : (node : Node) (key : List ℕ) → IsSome (attribute_of key node) → IsSome (name_of node)
with_key (TagOf own) key h = refl
with_key (Raw bytes) key h = absurd (false≢true h)
with_key (Comment bytes) key h = absurd (false≢true h)

with_value : (P : List ℕ → Type 0) (node : Node) (key : List ℕ) → HasValue P (attribute_of key node) → IsSome (name_of node)
with_value P (TagOf own) key h = refl
with_value P (Raw bytes) key h = absurd h
with_value P (Comment bytes) key h = absurd h

at_node : (o : Option Node) (P Q : Node → Type 0) → ((node : Node) → P node → Q node) → IsSomeAnd o P → IsSomeAnd o Q
at_node None P Q f h = absurd h
at_node (Some node) P Q f h = f node h

module _ (nodes : List Node) where
  tag_alone : (P : Node → Type 0) (n : ℕ) → ((node : Node) → P node → IsSome (name_of node)) → IsSomeAnd (slice_get nodes n) P → IsTag nodes n
  tag_alone P n f h = at_node (slice_get nodes n) P (λ node. IsSome (name_of node)) f h

  holds_at_tag : (e : Selector) (n : ℕ) → holds_at_tags e ≡ true → port.Holds nodes e n → IsTag nodes n
  holds_at_tag (Tag name) n t h = tag_alone (HoldsAlone (Tag name)) n (λ node. named node name) h
  holds_at_tag (Id id) n t h = tag_alone (HoldsAlone (Id id)) n (λ node. with_id node id) h
  holds_at_tag (Class member) n t h = tag_alone (HoldsAlone (Class member)) n (λ node. in_class node member) h
  holds_at_tag Every n t h = absurd (false≢true t)
  holds_at_tag (And a b) n t h = elim (cases_Bool (holds_at_tags a)) [
    | inl y ↦ holds_at_tag a n y h.0
    | inr other ↦ holds_at_tag b n (subst (λ (v : Bool). (v || holds_at_tags b) ≡ true) other t) h.1
  ]
  holds_at_tag (Or a b) n t h =
      let is = and_parts (holds_at_tags a) (holds_at_tags b) t in
      elim h [ inl l ↦ holds_at_tag a n is.0 l | inr r ↦ holds_at_tag b n is.1 r ]
  holds_at_tag (Descendant a b) n t h = holds_at_tag b n t h.0
  holds_at_tag (ChildOf a b) n t h = holds_at_tag b n t h.0
  holds_at_tag (Attribute key) n t h = tag_alone (HoldsAlone (Attribute key)) n (λ node. with_key node key) h
  holds_at_tag (AttributeValue key value) n t h =
      tag_alone (HoldsAlone (AttributeValue key value)) n (λ node. with_value (λ own. IsSameText own value) node key) h
  holds_at_tag (AttributeValueWhitespacedContains key value) n t h =
      tag_alone (HoldsAlone (AttributeValueWhitespacedContains key value)) n (λ node. with_value (λ own. HasWord own value) node key) h
  holds_at_tag (AttributeValueStartsWith key value) n t h =
      tag_alone (HoldsAlone (AttributeValueStartsWith key value)) n (λ node. with_value (λ own. BeginsWith own value) node key) h
  holds_at_tag (AttributeValueEndsWith key value) n t h =
      tag_alone (HoldsAlone (AttributeValueEndsWith key value)) n (λ node. with_value (λ own. EndsWith own value) node key) h
  holds_at_tag (AttributeValueSubstring key value) n t h =
      tag_alone (HoldsAlone (AttributeValueSubstring key value)) n (λ node. with_value (λ own. HasPart own value) node key) h

  some_within : (o : Option Node) (n : ℕ) → slice_get nodes n ≡ o → IsSomeAnd o (λ node. IsSome (name_of node)) → n < length nodes
  some_within None n is h = absurd h
  some_within (Some node) n is h = slice_get_within nodes n node is

  tag_within : (n : ℕ) → IsTag nodes n → n < length nodes
  tag_within n h = some_within (slice_get nodes n) n refl h

  -- What both find

  pub plain_found : (e : Selector) (to : ℕ) (ms ns : List ℕ) → IsForest nodes → All IsTame nodes → IsPlain e → to ≡ length nodes
      → port.AreMatches nodes e 0 to ms → AreFound nodes (css_of e) ns → AreTagsAmong nodes ms ns
  plain_found e to ms ns forest tame plain len are found n = (
    λ c.
        let is = (plain_alike nodes forest tame e plain n).0 ((found.each n).0 c) in
        let within = tag_within n is.0 in
        ((are.each n).1 (omega arith, omega (arith, len, within), is.1), is.0),
    λ h. (found.each n).1 ((plain_alike nodes forest tame e plain n).1 (h.1, ((are.each n).0 h.0).2)),
  )

  pub plain_found_same : (e : Selector) (to : ℕ) (ms ns : List ℕ) → holds_at_tags e ≡ true → AreTagsAmong nodes ms ns
      → port.AreMatches nodes e 0 to ms → AreFound nodes (css_of e) ns → ms ≡ ns
  plain_found_same e to ms ns t is are found =
      same ms ns are.rising found.rising (λ n c. (is n).1 (c, holds_at_tag e n t ((are.each n).0 c).2)) (λ n c. ((is n).0 c).0)

module _ (nodes : List Node) (text : List ℕ) (e : Css) (to : ℕ) (ns : List ℕ) (forest : IsForest nodes) (tame : All IsTame nodes)
    (shared : is_shared_text text ≡ true) (len : to ≡ length nodes) (is : IsSelector text e) (found : AreFound nodes e ns) where
  asked : (p : Selector) × IsSelectorText text p × IsPlain p × IsSelector text (css_of p)
  asked = shared_alike text shared

  found_plain : AreFound nodes (css_of asked.0) ns
  found_plain = subst (λ (e : Css). AreFound nodes e ns) (one_at_most text e (css_of asked.0) is asked.3) found

  matches_plain : (p : Selector) (ms : List ℕ) → IsSelectorText text p → port.AreMatches nodes p 0 to ms → port.AreMatches nodes asked.0 0 to ms
  matches_plain p ms stands are = subst (λ (p : Selector). port.AreMatches nodes p 0 to ms) (one_selector text p asked.0 stands asked.1) are

  pub shared_found : (ms : Option (List ℕ)) → FindsMatches text (λ p. port.AreMatches nodes p 0 to) ms → IsSomeAnd ms (λ ms. AreTagsAmong nodes ms ns)
  shared_found None h = absurd (h asked.0 asked.1)
  shared_found (Some ms) h = plain_found nodes asked.0 to ms ns forest tame asked.2 len (matches_plain h.0 ms h.1 h.2) found_plain

  asks_for_tags-of : (p : Selector) → IsSelectorText text p → asks_for_tags text ≡ true → holds_at_tags p ≡ true
  asks_for_tags-of p stands t = sym (ap (λ (o : Option Selector). option_map_or holds_at_tags o false) ((text-only text p).0 stands)) ∙ t

  pub shared_found_same : asks_for_tags text ≡ true → (ms : Option (List ℕ)) → FindsMatches text (λ p. port.AreMatches nodes p 0 to) ms → ms ≡ Some ns
  shared_found_same t None h = absurd (h asked.0 asked.1)
  shared_found_same t (Some ms) h =
      let are = matches_plain h.0 ms h.1 h.2 in
      ap (λ (ms : List ℕ). Some ms)
      (plain_found_same nodes asked.0 to ms ns (asks_for_tags-of asked.0 asked.1 t) (plain_found nodes asked.0 to ms ns forest tame asked.2 len are found_plain) are found_plain)
