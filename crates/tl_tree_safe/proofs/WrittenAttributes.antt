-- What is written of attributes, one after the other.
use Rattle.std.proofs.Common.{Bool, List, [], ap, append-nil, append_assoc, codes, cond, false, if◌then◌else◌, not, refl, sym, true, ℕ, ◌&&◌, ◌++◌, ◌||◌, ◌∙◌, ◌∷◌, ◌≡◌}
use Rattle.std.specs.List.{filter, list_any}
use Rattle.std.specs.Prelude.{flat_map}
use Rattle.std.proofs.lemmas.Bool.{and_parts}
use Rattle.tl_dom_spec.specs.Tags.{Attribute}
use Rattle.tl_html_print.specs.Serialized.{serialized_attribute}
use Rattle.tl_tree_safe.specs.Inner.Attributes.{beside_written, is_kept_target, listed_written}
use Rattle.tl_tree_safe.specs.Kept.{has_key, is_beside_mark, is_listed_attribute, kept_attribute, kept_attributes}
use Rattle.tl_tree_safe.specs.Lists.{ListedWords, rel_key}

-- one, and then those behind it
pub first_written : (p : ListedWords) (a : Attribute) (xs : List Attribute) →
    flat_map serialized_attribute (kept_attributes p (a ∷ xs)) ≡ listed_written p (kept_attribute p a) ++ flat_map serialized_attribute (kept_attributes p xs)
first_written p a xs = here (is_listed_attribute p (kept_attribute p a))
  where
    here : (v : Bool) → flat_map serialized_attribute (cond v (kept_attribute p a ∷ kept_attributes p xs) (kept_attributes p xs))
        ≡ (if v then serialized_attribute (kept_attribute p a) else []) ++ flat_map serialized_attribute (kept_attributes p xs)
    here true = refl
    here false = refl

-- and nothing is written of another
pub unlisted : (p : ListedWords) (a : Attribute) (before : List ℕ) → is_listed_attribute p a ≡ false → before ≡ before ++ listed_written p a
unlisted p a before h = sym (append-nil before) ∙ ap (λ v. before ++ (if v then serialized_attribute a else [])) (sym h)

-- where one more is written
pub attribute_step : (p : ListedWords) (all before now : List ℕ) (left : List Attribute) (a : Attribute) (more : List Attribute) →
    all ≡ before ++ flat_map serialized_attribute (kept_attributes p left) → left ≡ a ∷ more → now ≡ before ++ listed_written p (kept_attribute p a) →
    all ≡ now ++ flat_map serialized_attribute (kept_attributes p more)
attribute_step p all before now left a more h e w =
    h
    ∙ ap (λ (xs : List Attribute). before ++ flat_map serialized_attribute (kept_attributes p xs)) e
    ∙ ap (λ (x : List ℕ). before ++ x) (first_written p a more)
    ∙ sym (append_assoc before (listed_written p (kept_attribute p a)) (flat_map serialized_attribute (kept_attributes p more)))
    ∙ ap (λ (x : List ℕ). x ++ flat_map serialized_attribute (kept_attributes p more)) (sym w)

-- Links

-- whether a target is among those that stay
pub first_target : (p : ListedWords) (a : Attribute) (xs : List Attribute) →
    list_any (has_key (codes "href")) (kept_attributes p (a ∷ xs)) ≡ is_kept_target p (kept_attribute p a) || list_any (has_key (codes "href")) (kept_attributes p xs)
first_target p a xs = here (is_listed_attribute p (kept_attribute p a)) (has_key (codes "href") (kept_attribute p a)) refl
  where
    whole : (t : Bool) → t ≡ t && true
    whole true = refl
    whole false = refl

    here : (v t : Bool) → has_key (codes "href") (kept_attribute p a) ≡ t →
        list_any (has_key (codes "href")) (cond v (kept_attribute p a ∷ kept_attributes p xs) (kept_attributes p xs))
        ≡ (t && v) || list_any (has_key (codes "href")) (kept_attributes p xs)
    here true t e = ap (λ k. k || list_any (has_key (codes "href")) (kept_attributes p xs)) (e ∙ whole t)
    here false true e = refl
    here false false e = refl

-- where one more is looked at
pub target_step : (p : ListedWords) (all found : Bool) (left : List Attribute) (a : Attribute) (more : List Attribute) →
    all ≡ list_any (has_key (codes "href")) (kept_attributes p left) → left ≡ a ∷ more → is_kept_target p (kept_attribute p a) ≡ found →
    all ≡ found || list_any (has_key (codes "href")) (kept_attributes p more)
target_step p all found left a more h e is =
    h
    ∙ ap (λ (xs : List Attribute). list_any (has_key (codes "href")) (kept_attributes p xs)) e
    ∙ first_target p a more
    ∙ ap (λ v. v || list_any (has_key (codes "href")) (kept_attributes p more)) is

-- one beside the mark, and then those behind it
pub first_beside : (p : ListedWords) (a : Attribute) (xs : List Attribute) →
    flat_map serialized_attribute (filter is_beside_mark (kept_attributes p (a ∷ xs)))
    ≡ beside_written p (kept_attribute p a) ++ flat_map serialized_attribute (filter is_beside_mark (kept_attributes p xs))
first_beside p a xs = here (is_listed_attribute p (kept_attribute p a)) (has_key rel_key (kept_attribute p a)) refl
  where
    here : (v t : Bool) → has_key rel_key (kept_attribute p a) ≡ t →
        flat_map serialized_attribute (filter is_beside_mark (cond v (kept_attribute p a ∷ kept_attributes p xs) (kept_attributes p xs)))
        ≡ (if t then [] else if v then serialized_attribute (kept_attribute p a) else []) ++ flat_map serialized_attribute (filter is_beside_mark (kept_attributes p xs))
    here true true e =
        ap (λ k. flat_map serialized_attribute (cond (not k) (kept_attribute p a ∷ filter is_beside_mark (kept_attributes p xs)) (filter is_beside_mark (kept_attributes p xs)))) e
    here true false e =
        ap (λ k. flat_map serialized_attribute (cond (not k) (kept_attribute p a ∷ filter is_beside_mark (kept_attributes p xs)) (filter is_beside_mark (kept_attributes p xs)))) e
    here false true e = refl
    here false false e = refl

-- where one more is written beside the mark
pub beside_step : (p : ListedWords) (all before now : List ℕ) (left : List Attribute) (a : Attribute) (more : List Attribute) →
    all ≡ before ++ flat_map serialized_attribute (filter is_beside_mark (kept_attributes p left)) → left ≡ a ∷ more → now ≡ before ++ beside_written p (kept_attribute p a) →
    all ≡ now ++ flat_map serialized_attribute (filter is_beside_mark (kept_attributes p more))
beside_step p all before now left a more h e w =
    h
    ∙ ap (λ (xs : List Attribute). before ++ flat_map serialized_attribute (filter is_beside_mark (kept_attributes p xs))) e
    ∙ ap (λ (x : List ℕ). before ++ x) (first_beside p a more)
    ∙ sym (append_assoc before (beside_written p (kept_attribute p a)) (flat_map serialized_attribute (filter is_beside_mark (kept_attributes p more))))
    ∙ ap (λ (x : List ℕ). x ++ flat_map serialized_attribute (filter is_beside_mark (kept_attributes p more))) (sym w)
