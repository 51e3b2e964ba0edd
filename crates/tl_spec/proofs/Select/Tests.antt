-- The tests of values and of nodes alone are what their definitions say.
use Rattle.std.proofs.Common.{◌≡◌, ◌≢◌, ℕ, ◌==◌, ◌-◌, ◌⊎◌, inl, inr, Bool, false, List, [], ◌∷◌, ◌++◌, length, drop, take, Option, None, Some, refl, sym, ap, Decides, Contains, IsSomeAnd, ⊎_elim}
use Rattle.std.specs.List as lists
use Rattle.std.specs.List.{list_any}
use Rattle.std.specs.Option.{option_map_or}
use Rattle.std.specs.Str.{bytes_eq}
use Rattle.std.specs.Str.Lossy.{utf8_lossy}
use Rattle.bstr.specs.Utf8.{lossy_chars}
use Rattle.std.proofs.lemmas.Bool.Decides.{Decides-like, Decides-and, Decides-or, Decides-by_or, Decides-eqb}
use Rattle.std.proofs.lemmas.List.Elements.{Decides-contains}
use Rattle.std.proofs.lemmas.Slice.Eq.{bytes_eq-Decides, starts_is, ends_is}
use Rattle.tl_spec.specs.Lex.Runs.{has_bytes}
use Rattle.tl_spec.specs.Tree.Document.{Node}
use Rattle.tl_spec.specs.Tree.Element.{name_of, attribute_of}
use Rattle.tl_spec.specs.Select.LossyText.{words, IsSameText, BeginsWith, EndsWith, HasPart, HasWord}
use Rattle.tl_spec.specs.Lookup.Scan.{is_value, id_of}
use Rattle.tl_spec.specs.Select.Selector.{Selector, Tag, Id, Class, All, And, Or, Descendant, Parent, Attribute, AttributeValue, AttributeValueWhitespacedContains, AttributeValueStartsWith, AttributeValueEndsWith, AttributeValueSubstring}
use Rattle.tl_spec.specs.Select.Meaning.{HasValue, HoldsAlone}
use Rattle.tl_spec.specs.Select.Search.{is_same_text, begins_with, ends_with, stands_in, has_part, has_word, has_value, holds_alone}

-- a search by a test of equality finds the items of a list
pub any-contained : {X : Type 0} (e : X → X → Bool) → ((x y : X) → Decides (e x y) (x ≡ y)) → (x : X) (xs : List X) → Decides (list_any (e x) xs) (Contains xs x)
any-contained e same x xs =
    Decides-contains xs x (list_any (e x) xs) (Decides-by_or (e x) (λ y. y ≡ x) (list_any (e x)) (λ y. Decides-like (e x y) (λ d. sym d) (λ d. sym d) (same x y)) refl (λ _ _. refl) xs)

-- an option whose value passes a test
pub some-passes : {X : Type 0} (p : X → Bool) (P : X → Type 0) → ((x : X) → Decides (p x) (P x)) → (o : Option X) → Decides (option_map_or p o false) (IsSomeAnd o P)
some-passes p P each None = (λ e. cc, λ h. absurd h)
some-passes p P each (Some x) = each x

same_text-is : (value other : List ℕ) → Decides (is_same_text value other) (IsSameText value other)
same_text-is value other = bytes_eq-Decides (utf8_lossy value) (utf8_lossy other)

begins-is : (s p : List ℕ) → Decides (lists.starts_with ◌==◌ s p) ((rest : List ℕ) × (s ≡ p ++ rest))
begins-is s p = let t = starts_is Decides-eqb s p (lists.starts_with ◌==◌ s p) refl in (λ e. (drop (length p) s, t.0 e), λ h. t.1 h.0 h.1)

ends_with-is : (value back : List ℕ) → Decides (ends_with value back) (EndsWith value back)
ends_with-is value back = from (utf8_lossy value) (utf8_lossy back)
  where
    from : (s p : List ℕ) → Decides (lists.ends_with ◌==◌ s p) ((rest : List ℕ) × (s ≡ rest ++ p))
    from s p = let t = ends_is Decides-eqb s p (lists.ends_with ◌==◌ s p) refl in (λ e. (take (length s - length p) s, t.0 e), λ h. t.1 h.0 h.1)

-- a part stands somewhere in a list
abbrev Stands : List ℕ → List ℕ → Type 0
Stands part xs = (before : List ℕ) × (behind : List ℕ) × (xs ≡ before ++ part ++ behind)

stands-front : (part xs : List ℕ) → (rest : List ℕ) × (xs ≡ part ++ rest) → Stands part xs
stands-front part xs h = ([], h.0, h.1)

stands-later : (part : List ℕ) (x : ℕ) (xs : List ℕ) → Stands part xs → Stands part (x ∷ xs)
stands-later part x xs h = (x ∷ h.0, h.1, ap (λ ys. x ∷ ys) h.2)

tail : List ℕ → List ℕ
tail [] = []
tail (x ∷ xs) = xs

stands-cases : (part : List ℕ) (x : ℕ) (xs : List ℕ) → Stands part (x ∷ xs) → ((rest : List ℕ) × (x ∷ xs ≡ part ++ rest)) ⊎ Stands part xs
unfolding tail
stands-cases part x xs ([], behind, e) = inl (behind, e)
stands-cases part x xs (y ∷ ys, behind, e) = inr (ys, behind, ap tail e)

stands-in_nothing : (part : List ℕ) → Stands part [] → (rest : List ℕ) × ([] ≡ part ++ rest)
stands-in_nothing part ([], behind, e) = (behind, e)
stands-in_nothing part (y ∷ ys, behind, e) = absurd (cc)

stands_in-is : (part xs : List ℕ) → Decides (stands_in part xs) (Stands part xs)
stands_in-is part [] = Decides-like (lists.starts_with ◌==◌ [] part) (stands-front part []) (stands-in_nothing part) (begins-is [] part)
stands_in-is part (x ∷ xs) =
    let either = Decides-or (lists.starts_with ◌==◌ (x ∷ xs) part) (stands_in part xs) (begins-is (x ∷ xs) part) (stands_in-is part xs) in
    Decides-like (stands_in part (x ∷ xs)) (λ h. ⊎_elim (stands-front part (x ∷ xs)) (stands-later part x xs) h) (stands-cases part x xs) either

has_part-is : (value part : List ℕ) → Decides (has_part value part) (HasPart value part)
has_part-is value part = stands_in-is (utf8_lossy part) (utf8_lossy value)

has_bytes-is : (bs : List ℕ) → Decides (has_bytes bs) (bs ≢ [])
has_bytes-is [] = (λ e. cc, λ h. absurd (h refl))
has_bytes-is (b ∷ bs) = (λ _ e. cc, λ _. refl)

has_word-is : (value word : List ℕ) → Decides (has_word value word) (HasWord value word)
has_word-is value word =
    let both = Decides-and (has_bytes word) (list_any (bytes_eq (lossy_chars word)) (words value)) (has_bytes-is word) (any-contained bytes_eq bytes_eq-Decides (lossy_chars word) (words value)) in
    Decides-like (has_word value word) (λ h. record { some = h.0; among = h.1 }) (λ h. (h.some, h.among)) both

has_value-is : (p : List ℕ → Bool) (P : List ℕ → Type 0) → ((value : List ℕ) → Decides (p value) (P value)) → (o : Option (Option (List ℕ))) → Decides (has_value p o) (HasValue P o)
has_value-is p P each None = (λ e. cc, λ h. absurd h)
has_value-is p P each (Some value) = some-passes p P each value

is_value-is : (v : List ℕ) (o : Option (List ℕ)) → Decides (is_value v o) (o ≡ Some v)
is_value-is v None = (λ e. cc, λ e. cc)
is_value-is v (Some w) = Decides-like (bytes_eq v w) (λ e. ap Some (sym e)) (λ e. cc) (bytes_eq-Decides v w)

begins_with-is : (value front : List ℕ) → Decides (begins_with value front) (BeginsWith value front)
begins_with-is value front = begins-is (utf8_lossy value) (utf8_lossy front)

pub holds_alone-is : (e : Selector) (node : Node) → Decides (holds_alone e node) (HoldsAlone e node)
holds_alone-is (Tag name) node = is_value-is name (name_of node)
holds_alone-is (Id id) node = is_value-is id (id_of node)
holds_alone-is (Class member) node = (λ h. h, λ h. h)
holds_alone-is All node = (λ _. tt, λ _. refl)
holds_alone-is (And a b) node = Decides-and (holds_alone a node) (holds_alone b node) (holds_alone-is a node) (holds_alone-is b node)
holds_alone-is (Or a b) node = Decides-or (holds_alone a node) (holds_alone b node) (holds_alone-is a node) (holds_alone-is b node)
holds_alone-is (Descendant a b) node = (λ e. cc, λ h. absurd h)
holds_alone-is (Parent a b) node = (λ e. cc, λ h. absurd h)
holds_alone-is (Attribute key) node = (λ h. h, λ h. h)
holds_alone-is (AttributeValue key value) node = has_value-is (λ own. is_same_text own value) (λ own. IsSameText own value) (λ own. same_text-is own value) (attribute_of key node)
holds_alone-is (AttributeValueWhitespacedContains key value) node = has_value-is (λ own. has_word own value) (λ own. HasWord own value) (λ own. has_word-is own value) (attribute_of key node)
holds_alone-is (AttributeValueStartsWith key value) node = has_value-is (λ own. begins_with own value) (λ own. BeginsWith own value) (λ own. begins_with-is own value) (attribute_of key node)
holds_alone-is (AttributeValueEndsWith key value) node = has_value-is (λ own. ends_with own value) (λ own. EndsWith own value) (λ own. ends_with-is own value) (attribute_of key node)
holds_alone-is (AttributeValueSubstring key value) node = has_value-is (λ own. has_part own value) (λ own. HasPart own value) (λ own. has_part-is own value) (attribute_of key node)
