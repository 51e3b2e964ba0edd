-- Marks of a selector from those of its parts.
use Rattle.std.proofs.Common.{◌≡◌, ◌<◌, ◌⊎◌, ◌&&◌, ℕ, zero, suc, Bool, true, false, List, [], ◌∷◌, length, sym, ap, ◌∙◌, arith, inl, inr, slice_get, Option, None, Some}
use Rattle.std.specs.Bool.{Decides}
use Rattle.std.specs.Option.{IsSomeAnd, option_map, option_map_or}
use Rattle.std.proofs.lemmas.Bool.{and_from, and_parts, cases_lt, or_parts}
use Rattle.std.proofs.lemmas.List.{get_or_past}
use Rattle.std.proofs.lemmas.Option.{slice_get_past}
use Rattle.tl_spec.specs.Tree.Document.{Node}
use Rattle.tl_spec.specs.Select.Selector.{Selector, Tag, Id, Class, All, And, Or, Descendant, Parent, Attribute, AttributeValue, AttributeValueWhitespacedContains, AttributeValueStartsWith, AttributeValueEndsWith, AttributeValueSubstring}
use Rattle.tl_spec.specs.Select.Meaning.{Holds, HoldsAlone, has_combinator}
use Rattle.tl_spec.specs.Lookup.Scan.{IsFirstPlace}
use Rattle.tl_spec.specs.Select.Search.{holds_alone}
use Rattle.tl_selector.specs.NodeSet.{is_among, is_at, AreMarks}
use Rattle.tl_spec.proofs.Select.Tests.{holds_alone-is, some-passes}

both : (o : Option Node) (P Q : Node → Type 0) → IsSomeAnd o P → IsSomeAnd o Q → IsSomeAnd o (λ d. P d × Q d)
both None P Q h k = absurd h
both (Some d) P Q h k = (h, k)

first : (o : Option Node) (P Q : Node → Type 0) → IsSomeAnd o (λ d. P d × Q d) → IsSomeAnd o P
first None P Q h = absurd h
first (Some d) P Q h = h.0

second : (o : Option Node) (P Q : Node → Type 0) → IsSomeAnd o (λ d. P d × Q d) → IsSomeAnd o Q
second None P Q h = absurd h
second (Some d) P Q h = h.1

left : (o : Option Node) (P Q : Node → Type 0) → IsSomeAnd o P → IsSomeAnd o (λ d. P d ⊎ Q d)
left None P Q h = absurd h
left (Some d) P Q h = inl h

right : (o : Option Node) (P Q : Node → Type 0) → IsSomeAnd o Q → IsSomeAnd o (λ d. P d ⊎ Q d)
right None P Q h = absurd h
right (Some d) P Q h = inr h

either : (o : Option Node) (P Q : Node → Type 0) → IsSomeAnd o (λ d. P d ⊎ Q d) → IsSomeAnd o P ⊎ IsSomeAnd o Q
either None P Q h = absurd h
either (Some d) P Q h = h

-- where it asks for no ancestors, a selector holds where it holds at the node alone
pub holds_without : (e : Selector) → has_combinator e ≡ false → (g : List Node) (n : ℕ) → (Holds g e n → IsSomeAnd (slice_get g n) (HoldsAlone e)) × (IsSomeAnd (slice_get g n) (HoldsAlone e) → Holds g e n)
holds_without (And a b) h g n =
    let p = or_parts (has_combinator a) (has_combinator b) h in
    let s = holds_without a p.0 g n in
    let t = holds_without b p.1 g n in
    let o = slice_get g n in
    (λ k. both o (HoldsAlone a) (HoldsAlone b) (s.0 k.0) (t.0 k.1), λ k. (s.1 (first o (HoldsAlone a) (HoldsAlone b) k), t.1 (second o (HoldsAlone a) (HoldsAlone b) k)))
holds_without (Or a b) h g n =
    let p = or_parts (has_combinator a) (has_combinator b) h in
    let s = holds_without a p.0 g n in
    let t = holds_without b p.1 g n in
    let o = slice_get g n in (
      λ k. elim k [ inl l ↦ left o (HoldsAlone a) (HoldsAlone b) (s.0 l) | inr r ↦ right o (HoldsAlone a) (HoldsAlone b) (t.0 r) ],
      λ k. elim (either o (HoldsAlone a) (HoldsAlone b) k) [ inl l ↦ inl (s.1 l) | inr r ↦ inr (t.1 r) ],
    )
holds_without (Descendant a b) h g n = absurd (cc)
holds_without (Parent a b) h g n = absurd (cc)
holds_without (Tag name) h g n = (λ k. k, λ k. k)
holds_without (Id id) h g n = (λ k. k, λ k. k)
holds_without (Class member) h g n = (λ k. k, λ k. k)
holds_without All h g n = (λ k. k, λ k. k)
holds_without (Attribute key) h g n = (λ k. k, λ k. k)
holds_without (AttributeValue key value) h g n = (λ k. k, λ k. k)
holds_without (AttributeValueWhitespacedContains key value) h g n = (λ k. k, λ k. k)
holds_without (AttributeValueStartsWith key value) h g n = (λ k. k, λ k. k)
holds_without (AttributeValueEndsWith key value) h g n = (λ k. k, λ k. k)
holds_without (AttributeValueSubstring key value) h g n = (λ k. k, λ k. k)

-- a selector that asks for no ancestors holds where its test at the node passes
pub without_tells : (e : Selector) → has_combinator e ≡ false → (g : List Node) (n : ℕ) → Decides (option_map_or (holds_alone e) (slice_get g n) false) (Holds g e n)
without_tells e h g n =
    let s = some-passes (holds_alone e) (HoldsAlone e) (holds_alone-is e) (slice_get g n) in
    let t = holds_without e h g n in
    (λ k. t.1 (s.0 k), λ k. s.1 (t.0 k))

-- marks that tell at each node whether it is in question and the selector's test passes there
pub marks_without : (among : Option (List Bool)) (e : Selector) → has_combinator e ≡ false → (g : List Node) (z : List Bool) → length z ≡ length g
    → ((n : ℕ) → n < length g → is_at z n ≡ (is_among among n && option_map_or (holds_alone e) (slice_get g n) false)) → AreMarks among e g z
marks_without among e h g z l f = record {
  len = l;
  sound = λ n k. elim (cases_lt n (length g)) [
    | inl w ↦ let p = and_parts (is_among among n) (option_map_or (holds_alone e) (slice_get g n) false) (sym (f n w) ∙ k) in (p.0, (without_tells e h g n).0 p.1)
    | inr w ↦ let none = get_or_past z n false (omega (arith, l)) in cc
  ];
  complete = λ n m k. elim (cases_lt n (length g)) [
    | inl w ↦ f n w ∙ and_from (is_among among n) (option_map_or (holds_alone e) (slice_get g n) false) m ((without_tells e h g n).1 k)
    | inr w ↦ let none = ap (λ (o : Option Node). option_map_or (holds_alone e) o false) (slice_get_past g n w) in let some = (without_tells e h g n).1 k in cc
  ];
}

some-within : (g : List Node) (n : ℕ) (P : Node → Type 0) → IsSomeAnd (slice_get g n) P → n < length g
some-within [] n P h = absurd h
some-within (d ∷ g) zero P h = omega arith
some-within (d ∷ g) (suc n) P h = let l = some-within g n P h in omega arith

-- a selector holds at nodes of the table alone
pub holds_within : (e : Selector) (g : List Node) (n : ℕ) → Holds g e n → n < length g
holds_within (And a b) g n h = holds_within a g n h.0
holds_within (Or a b) g n h = elim h [ inl k ↦ holds_within a g n k | inr k ↦ holds_within b g n k ]
holds_within (Descendant a b) g n h = holds_within b g n h.0
holds_within (Parent a b) g n h = holds_within b g n h.0
holds_within (Tag name) g n h = some-within g n (HoldsAlone (Tag name)) h
holds_within (Id id) g n h = some-within g n (HoldsAlone (Id id)) h
holds_within (Class member) g n h = some-within g n (HoldsAlone (Class member)) h
holds_within All g n h = some-within g n (HoldsAlone All) h
holds_within (Attribute key) g n h = some-within g n (HoldsAlone (Attribute key)) h
holds_within (AttributeValue key value) g n h = some-within g n (HoldsAlone (AttributeValue key value)) h
holds_within (AttributeValueWhitespacedContains key value) g n h = some-within g n (HoldsAlone (AttributeValueWhitespacedContains key value)) h
holds_within (AttributeValueStartsWith key value) g n h = some-within g n (HoldsAlone (AttributeValueStartsWith key value)) h
holds_within (AttributeValueEndsWith key value) g n h = some-within g n (HoldsAlone (AttributeValueEndsWith key value)) h
holds_within (AttributeValueSubstring key value) g n h = some-within g n (HoldsAlone (AttributeValueSubstring key value)) h

passes-read : (p : Node → Bool) (o : Option Node) → option_map_or p o false ≡ true → option_map p o ≡ Some true
passes-read p None h = cc
passes-read p (Some x) h = ap Some h

-- a selector without joints that no node passes
pub none_without : (e : Selector) → has_combinator e ≡ false → (g : List Node) → IsFirstPlace (holds_alone e) g None → (n : ℕ) → Holds g e n → ⊥
none_without e h g none n k = none n (passes-read (holds_alone e) (slice_get g n) ((without_tells e h g n).1 k))
