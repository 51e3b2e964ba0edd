-- The stack of the partial builder of `tl_tree_spec` as a path of the whole one, and what is asked of it and popped from it.
use Rattle.std.proofs.Common.{◌≡◌, ℕ, suc, Bool, true, false, not, ◌||◌, ◌&&◌, ◌==◌, List, [], ◌∷◌, map, Option, codes, refl, ap, ap₂, sym, ◌∙◌, inl, inr, true≢false}
use Rattle.std.specs.Prelude.{⊤}
use Rattle.std.specs.List.{list_any}
use Rattle.std.proofs.lemmas.Bool.{and_left, cases_Bool, cond-false, cond-true, eq-eqb, eqb-true, false_from_ne_true}
use Rattle.tl_names.specs.Elements.{implied_ends, is_among}
use Rattle.tl_tree_spec.specs.HtmlForest.{HtmlTag}
use Rattle.tl_tree_spec.specs.Builder as P
use Rattle.tl_tree_spec.specs.Groups as G
use Rattle.tl_tree_spec.specs.HtmlTreeBuilder as R
use Rattle.tl_dom_spec.specs.Tags as T
use Rattle.tl_dom_spec.specs.Tags.{Tag, html_tag}
use Rattle.tl_dom_spec.specs.Marks.{unmarked}
use Rattle.tl_dom_spec.specs.Path as W
use Rattle.tl_dom_spec.proofs.PartNames.{facts, has_twin}

-- nodes, frames and paths

abbrev pub tag_of : HtmlTag → Tag
tag_of own = html_tag own.name own.attributes

-- with the number of its start tag
abbrev pub tag_with : Option ℕ → HtmlTag → Tag
tag_with source own = record (tag_of own) { source = source }

abbrev pub nodes_of : P.Nodes → W.Nodes
nodes_of P.no_nodes = W.no_nodes
nodes_of (P.and_text nodes bytes) = W.and_text (nodes_of nodes) (unmarked bytes)
nodes_of (P.and_element nodes own children) = W.and_element (nodes_of nodes) (tag_of own) (nodes_of children)

abbrev pub frame_of : P.Frame → W.Frame
frame_of f = record {
  number = suc f.element.number;
  tag = tag_of f.element.own;
  children = nodes_of f.children;
  waiting = W.no_nodes;
  place = W.here;
  is_open = true;
}

abbrev pub path_of : List P.Frame → W.Path
path_of [] = W.document ∷ []
path_of (f ∷ fs) = frame_of f ∷ path_of fs

abbrev pub frames_of : P.Stack → List P.Frame
frames_of s = s.current ∷ s.others

abbrev pub name_of : P.Frame → List ℕ
name_of f = f.element.own.name

-- the `html` element is the outermost of them, and all others have names with rules that both builders have
abbrev pub IsStack : P.Frame → List P.Frame → Type 0
IsStack f [] = name_of f ≡ codes "html"
IsStack f (o ∷ os) = (has_twin (G.group (name_of f)) ≡ true) × IsStack o os

-- what an element takes in is no matter
pub stack_around : (o f : P.Frame) (os : List P.Frame) → IsStack o os → IsStack (P.closed_into o f) os
stack_around o f [] h = h
stack_around o f (p ∷ os) h = h

pub eq_suc : (a b : ℕ) → (suc a == suc b) ≡ (a == b)
eq_suc a b = elim (cases_Bool (a == b)) [
  | inl y ↦ eq-eqb (suc a) (suc b) (ap suc (eqb-true a b y)) ∙ sym y
  | inr n ↦ false_from_ne_true (suc a == suc b) (λ y. true≢false (sym (eq-eqb a b (less a b (eqb-true (suc a) (suc b) y))) ∙ n)) ∙ sym n
]
  where
    less : (a b : ℕ) → suc a ≡ suc b → a ≡ b
    less a b e = cc

-- what is asked

pub elements_are : (fs : List P.Frame) → W.elements (path_of fs) ≡ map frame_of fs
elements_are [] = refl
elements_are (f ∷ fs) = ap (λ gs. frame_of f ∷ gs) (elements_are fs)

-- a test of names, and one of elements that says the same of those of these frames
abbrev pub AreSame : (List ℕ → Bool) → (Tag → Bool) → List P.Frame → Type 0
AreSame test tested [] = ⊤
AreSame test tested (f ∷ fs) = (test (name_of f) ≡ tested (tag_of f.element.own)) × AreSame test tested fs

pub same_all : (test : List ℕ → Bool) (tested : Tag → Bool) (same : (own : HtmlTag) → test own.name ≡ tested (tag_of own)) (fs : List P.Frame) → AreSame test tested fs
same_all test tested same [] = tt
same_all test tested same (f ∷ fs) = (same f.element.own, same_all test tested same fs)

within_names : (test stops : List ℕ → Bool) (tested stopped : Tag → Bool) (fs : List P.Frame) → AreSame test tested fs → AreSame stops stopped fs →
    W.within (W.has_tag tested) (W.has_tag stopped) (map frame_of fs) ≡ P.within test stops (map name_of fs)
within_names test stops tested stopped [] h k = refl
within_names test stops tested stopped (f ∷ fs) h k =
    ap₂ (λ (a c : Bool). a || (not c && W.within (W.has_tag tested) (W.has_tag stopped) (map frame_of fs))) (sym h.0) (sym k.0)
    ∙ ap (λ r. test (name_of f) || (not (stops (name_of f)) && r)) (within_names test stops tested stopped fs h.1 k.1)

names_are : (s : P.Stack) → P.names s ≡ map name_of (frames_of s)
names_are s = ap (λ ns. name_of s.current ∷ ns) (others s.others)
  where
    others : (fs : List P.Frame) → map (λ (e : P.Element). e.own.name) (map (λ (f : P.Frame). f.element) fs) ≡ map name_of fs
    others [] = refl
    others (f ∷ fs) = ap (λ ns. name_of f ∷ ns) (others fs)

pub has_within : (test stops : List ℕ → Bool) (tested stopped : Tag → Bool) (s : P.Stack) → AreSame test tested (frames_of s) → AreSame stops stopped (frames_of s) →
    W.has_within tested stopped (path_of (frames_of s)) ≡ P.within test stops (P.names s)
has_within test stops tested stopped s h k =
    ap (W.within (W.has_tag tested) (W.has_tag stopped)) (elements_are (frames_of s))
    ∙ within_names test stops tested stopped (frames_of s) h k
    ∙ ap (P.within test stops) (sym (names_are s))

-- whether an element of a number is open

open_numbers : (k : ℕ) (fs : List P.Frame) → W.within (W.has_number (suc k)) W.no_frame (map frame_of fs) ≡ list_any (P.has_number k) (map (λ (f : P.Frame). f.element) fs)
open_numbers k [] = refl
open_numbers k (f ∷ fs) =
    ap (λ v. v || W.within (W.has_number (suc k)) W.no_frame (map frame_of fs)) (eq_suc f.element.number k)
    ∙ ap (λ v. (f.element.number == k) || v) (open_numbers k fs)

pub is_open_number : (k : ℕ) (s : P.Stack) → W.is_open_number (suc k) (path_of (frames_of s)) ≡ P.is_open k (P.elements s)
is_open_number k s = ap (W.within (W.has_number (suc k)) W.no_frame) (elements_are (frames_of s)) ∙ open_numbers k (frames_of s)

-- an element of a number is open in a scope
number_within : (k : ℕ) (stops : List ℕ → Bool) (stopped : Tag → Bool) (fs : List P.Frame) → AreSame stops stopped fs →
    W.within (W.has_number (suc k)) (W.has_tag stopped) (map frame_of fs) ≡ P.within (P.has_number k) (P.has_name stops) (map (λ (f : P.Frame). f.element) fs)
number_within k stops stopped [] h = refl
number_within k stops stopped (f ∷ fs) h =
    ap₂ (λ (a c : Bool). a || (not c && W.within (W.has_number (suc k)) (W.has_tag stopped) (map frame_of fs))) (eq_suc f.element.number k) (sym h.0)
    ∙ ap (λ r. (f.element.number == k) || (not (stops (name_of f)) && r)) (number_within k stops stopped fs h.1)

pub has_number_within : (k : ℕ) (stops : List ℕ → Bool) (stopped : Tag → Bool) (s : P.Stack) → AreSame stops stopped (frames_of s) →
    W.within (W.has_number (suc k)) (W.has_tag stopped) (W.elements (path_of (frames_of s))) ≡ P.within (P.has_number k) (P.has_name stops) (P.elements s)
has_number_within k stops stopped s h =
    ap (W.within (W.has_number (suc k)) (W.has_tag stopped)) (elements_are (frames_of s)) ∙ number_within k stops stopped (frames_of s) h

-- what is popped

-- frames while a test holds: at most as many as a path is long
module _ (test : W.Frame → Bool) (g f : P.Frame) where
  pub stays_on : (os fs : List P.Frame) → test (frame_of f) ≡ false → W.settled_while test (frame_of g ∷ path_of os) (path_of (f ∷ fs)) ≡ path_of (f ∷ fs)
  stays_on os fs h = rw h refl

  pub pops_on : (o p : P.Frame) (os fs : List P.Frame) → test (frame_of f) ≡ true →
      W.settled_while test (frame_of g ∷ path_of (o ∷ os)) (path_of (f ∷ p ∷ fs)) ≡ W.settled_while test (frame_of o ∷ path_of os) (path_of (P.closed_into p f ∷ fs))
  pops_on o p os fs h = rw h refl

-- implied end tags

module _ (but : List ℕ → Bool) (excepted : Tag → Bool) (same : (own : HtmlTag) → but own.name ≡ excepted (tag_of own)) where
  abbrev goes : W.Frame → Bool
  goes f = T.is_implied f.tag && not (excepted f.tag)

  goes_is : (f : P.Frame) → goes (frame_of f) ≡ (G.is_implied (name_of f) && not (but (name_of f)))
  goes_is f = ap₂ (λ (a c : Bool). a && not c) (sym (facts (name_of f)).implied) (sym (same f.element.own))

  implied_from : (g f : P.Frame) (os : List P.Frame) → IsStack f os →
      W.settled_while goes (frame_of g ∷ path_of os) (path_of (f ∷ os)) ≡ path_of (frames_of (P.implied_closed but f os))
  implied_from g f [] h =
      stays_on goes g f [] [] (and_left _ _ (ap (λ n. is_among implied_ends n) h))
  implied_from g f (o ∷ os) h = elim (cases_Bool (G.is_implied (name_of f) && not (but (name_of f)))) [
    | inl y ↦ pops_on goes g f o o os os (goes_is f ∙ y)
        ∙ implied_from o (P.closed_into o f) os (stack_around o f os h.1)
        ∙ ap (λ (s : P.Stack). path_of (frames_of s)) (sym (cond-true _ _ _ y))
    | inr n ↦ stays_on goes g f (o ∷ os) (o ∷ os) (goes_is f ∙ n)
        ∙ ap (λ (s : P.Stack). path_of (frames_of s)) (sym (cond-false _ _ _ n))
  ]

  pub implied_is : (s : P.Stack) → IsStack s.current s.others → W.implied_closed excepted (path_of (frames_of s)) ≡ path_of (frames_of (P.implied_closed but s.current s.others))
  implied_is s h = implied_from s.current s.current s.others h

-- elements, until one passes a test

abbrev pub has_in : (P.Element → Bool) → P.Frame → List P.Frame → Bool
has_in test f [] = false
has_in test f (o ∷ os) = test f.element || has_in test o os

module _ (test : P.Element → Bool) (tested : W.Frame → Bool) (same : (f : P.Frame) → test f.element ≡ tested (frame_of f)) where
  abbrev fails : W.Frame → Bool
  fails f = not (tested f)

  through_from : (g f : P.Frame) (os : List P.Frame) → has_in test f os ≡ true →
      W.popped (W.settled_while fails (frame_of g ∷ path_of os) (path_of (f ∷ os))) ≡ path_of (frames_of (P.popped_through test f os))
  through_from g f [] h = absurd (true≢false (sym h))
  through_from g f (o ∷ os) h = elim (cases_Bool (test f.element)) [
    | inl y ↦ ap W.popped (stays_on fails g f (o ∷ os) (o ∷ os) (ap not (sym (same f) ∙ y)))
        ∙ ap (λ (s : P.Stack). path_of (frames_of s)) (sym (cond-true _ _ _ y))
    | inr n ↦ ap W.popped (pops_on fails g f o o os os (ap not (sym (same f) ∙ n)))
        ∙ through_from o (P.closed_into o f) os (deeper o f os (sym (ap (λ v. v || has_in test o os) n) ∙ h))
        ∙ ap (λ (s : P.Stack). path_of (frames_of s)) (sym (cond-false _ _ _ n))
  ]
    where
      deeper : (o f : P.Frame) (os : List P.Frame) → has_in test o os ≡ true → has_in test (P.closed_into o f) os ≡ true
      deeper o f [] h = h
      deeper o f (p ∷ os) h = h

  pub through_is : (s : P.Stack) → has_in test s.current s.others ≡ true →
      W.popped_through tested (path_of (frames_of s)) ≡ path_of (frames_of (P.popped_through test s.current s.others))
  through_is s h = through_from s.current s.current s.others h

-- and where the outermost one passes it at the latest, that one stays
module _ (test : List ℕ → Bool) (tested : Tag → Bool) (same : (own : HtmlTag) → test own.name ≡ tested (tag_of own)) (last : test (codes "html") ≡ true) where
  abbrev misses : W.Frame → Bool
  misses f = not (W.has_tag tested f)

  back_from : (g f : P.Frame) (os : List P.Frame) → IsStack f os →
      W.settled_while misses (frame_of g ∷ path_of os) (path_of (f ∷ os)) ≡ path_of (frames_of (R.popped_back test f os))
  back_from g f [] h = stays_on misses g f [] [] (ap not (sym (same f.element.own) ∙ ap test h ∙ last))
  back_from g f (o ∷ os) h = elim (cases_Bool (test (name_of f))) [
    | inl y ↦ stays_on misses g f (o ∷ os) (o ∷ os) (ap not (sym (same f.element.own) ∙ y))
        ∙ ap (λ (s : P.Stack). path_of (frames_of s)) (sym (cond-true _ _ _ y))
    | inr n ↦ pops_on misses g f o o os os (ap not (sym (same f.element.own) ∙ n))
        ∙ back_from o (P.closed_into o f) os (stack_around o f os h.1)
        ∙ ap (λ (s : P.Stack). path_of (frames_of s)) (sym (cond-false _ _ _ n))
  ]

  pub back_is : (s : P.Stack) → IsStack s.current s.others →
      W.popped_to (W.has_tag tested) (path_of (frames_of s)) ≡ path_of (frames_of (R.popped_back test s.current s.others))
  back_is s h = back_from s.current s.current s.others h
