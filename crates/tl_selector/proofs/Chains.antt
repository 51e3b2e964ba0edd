-- The sides of joined selectors.
use Rattle.std.proofs.Common.{◌≡◌, ◌≤◌, ◌&&◌, ℕ, Bool, true, false, List, [], ◌∷◌, ◌++◌, Option, refl, sym, ap, subst, ◌∙◌, arith}
use Rattle.std.proofs.lemmas.List.{map-append}
use Rattle.std.specs.List.{All as AllOf}
use Rattle.std.proofs.lemmas.List.Elements.{All-push, All-same}
use denote.Ref.{Bor}
use Rattle.tl_spec.specs.Lookup.Scan.{IsFirstPlace}
use Rattle.tl_spec.specs.Tree.Document.{Node}
use Rattle.tl_spec.specs.Select.Selector.{Selector, Tag, Id, Class, All, And, Or, Descendant, Parent, Attribute, AttributeValue, AttributeValueWhitespacedContains, AttributeValueStartsWith, AttributeValueEndsWith, AttributeValueSubstring}
use Rattle.tl_spec.specs.Select.Search.{holds_alone}
use Rattle.tl_selector.specs.Spine.{with_first, nested_in, selectors, first_simple, others_hold}
use Rattle.tl_selector.specs.View.{selector}
use Rattle.tl_selector.specs.declared.selector.Selector.{size-Selector}
use Rattle.tl_selector.specs.declared.selector.Selector as declared
use Rattle.tl_selector.specs.declared.selector.Selector.TheVariants.{And', Or', Descendant', Parent'}
use Rattle.tl_selector.specs.declared.selector.Selector.TheViews.{deep-And', deep-Or', deep-Descendant', deep-Parent'}

-- what stands in the last of a list
pub nested_more : (xs : List Selector) (x e : Selector) → nested_in (xs ++ x ∷ []) e ≡ nested_in xs (with_first x e)
nested_more [] x e = refl
nested_more (y ∷ xs) x e = ap (with_first y) (nested_more xs x e)

and-true : (b : Bool) → b ≡ (b && true)
and-true true = refl
and-true false = refl

and-assoc : (a b c : Bool) → ((a && b) && c) ≡ (a && (b && c))
and-assoc true b c = refl
and-assoc false b c = refl

-- a selector holds alone where its first part does, and all the others do
pub parts_hold : (e : Selector) (node : Node) → holds_alone e node ≡ (holds_alone (first_simple e) node && others_hold e node)
parts_hold (And a b) node = ap (λ h. h && holds_alone b node) (parts_hold a node) ∙ and-assoc (holds_alone (first_simple a) node) (others_hold a node) (holds_alone b node)
parts_hold (Or a b) node = and-true (holds_alone (Or a b) node)
parts_hold (Descendant a b) node = refl
parts_hold (Parent a b) node = refl
parts_hold (Tag name) node = and-true (holds_alone (Tag name) node)
parts_hold (Id id) node = and-true (holds_alone (Id id) node)
parts_hold (Class member) node = and-true (holds_alone (Class member) node)
parts_hold All node = refl
parts_hold (Attribute key) node = and-true (holds_alone (Attribute key) node)
parts_hold (AttributeValue key value) node = and-true (holds_alone (AttributeValue key value) node)
parts_hold (AttributeValueWhitespacedContains key value) node = and-true (holds_alone (AttributeValueWhitespacedContains key value) node)
parts_hold (AttributeValueStartsWith key value) node = and-true (holds_alone (AttributeValueStartsWith key value) node)
parts_hold (AttributeValueEndsWith key value) node = and-true (holds_alone (AttributeValueEndsWith key value) node)
parts_hold (AttributeValueSubstring key value) node = and-true (holds_alone (AttributeValueSubstring key value) node)

-- what is first where both hold is first where the selector does
pub first_by_parts : (e part : Selector) (xs : List Node) (first : Option ℕ) → part ≡ first_simple e → IsFirstPlace (λ x. holds_alone part x && others_hold e x) xs first → IsFirstPlace (holds_alone e) xs first
first_by_parts e part xs first h f =
    let tests : (λ (x : Node). holds_alone (first_simple e) x && others_hold e x) ≡ holds_alone e = λ i x. sym (parts_hold e x) i in
    subst (λ t. IsFirstPlace t xs first) tests (subst (λ p. IsFirstPlace (λ x. holds_alone p x && others_hold e x) xs first) h f)

-- one more whole, of which the next is the first side
pub selectors_more : (refs : List (Bor declared.Selector)) (x : Bor declared.Selector) (e : Selector) → nested_in (selectors (refs ++ x ∷ [])) e ≡ nested_in (selectors refs) (with_first (selector x.now) e)
selectors_more refs x e = ap (λ xs. nested_in xs e) (map-append (λ (r : Bor declared.Selector). selector r.now) refs (x ∷ [])) ∙ nested_more (selectors refs) (selector x.now) e

-- one step further in: the first side of what was innermost is innermost now
pub further_in : (e : Selector) (refs grown : List (Bor declared.Selector)) (first inner : Bor declared.Selector) → grown ≡ refs ++ first ∷ [] → with_first (selector first.now) (selector inner.now) ≡ selector first.now → nested_in (selectors refs) (selector first.now) ≡ e → nested_in (selectors grown) (selector inner.now) ≡ e
further_in e refs grown first inner g h w =
    subst (λ (xs : List (Bor declared.Selector)). nested_in (selectors xs) (selector inner.now) ≡ e) (sym g) (selectors_more refs first (selector inner.now) ∙ ap (nested_in (selectors refs)) h ∙ w)

-- and none of the wholes is larger than the outermost
pub no_larger : (bound : ℕ) (refs grown : List (Bor declared.Selector)) (first : Bor declared.Selector) → grown ≡ refs ++ first ∷ [] → AllOf (λ (x : Bor declared.Selector). size-Selector x.now ≤ bound) refs → size-Selector first.now ≤ bound → AllOf (λ (x : Bor declared.Selector). size-Selector x.now ≤ bound) grown
no_larger bound refs grown first g h d =
    let P = λ (x : Bor declared.Selector). size-Selector x.now ≤ bound in
    All-same P grown (refs ++ first ∷ []) g (All-push P refs first h d)

-- the first side in the code, the selector itself where it has none
abbrev pub first_of : declared.Selector → declared.Selector
first_of (And' p a q b) = a
first_of (Or' p a q b) = a
first_of (Descendant' p a q b) = a
first_of (Parent' p a q b) = a
first_of e = e

-- it is no larger
pub first_no_larger : (e : declared.Selector) → size-Selector (first_of e) ≤ size-Selector e
first_no_larger (And' p a q b) = omega (arith, deep-And' p a q b)
first_no_larger (Or' p a q b) = omega (arith, deep-Or' p a q b)
first_no_larger (Descendant' p a q b) = omega (arith, deep-Descendant' p a q b)
first_no_larger (Parent' p a q b) = omega (arith, deep-Parent' p a q b)
first_no_larger e = omega arith
