-- What crosses the elements of a page.
use Rattle.std.proofs.Common.{Bool, List, None, Option, Some, [], ap, arith, false, get_or, inl, inr, length, refl, slice_get, subst, sym, take, true, ℕ, ◌+◌, ◌++◌, ◌-◌, ◌<◌, ◌∙◌, ◌∷◌, ◌≡◌, ◌≤◌}
use Rattle.std.proofs.lemmas.Bool.{cases_Bool, ltb-false, ltb-true}
use Rattle.std.proofs.lemmas.Option.{MatchOption-at_none, MatchOption-at_some, get_or_from_slice_get, none-some, same_Some, slice_get-get_or, slice_get_within}
use Rattle.std.proofs.lemmas.List.{get_or_default, take_all, take_more}
use Rattle.std.proofs.lemmas.List.Elements.{Contains-get_or}
use Rattle.std.specs.List.{All, Contains}
use Rattle.std.specs.Option.{option_to_list}
use Rattle.std.specs.Prelude.{IfNone, IfSome}
use Rattle.tl_patch_edit.specs.Stretches.{stretches, tail_begin}
use Rattle.tl_patch_edit.specs.declared.reach.Stretch.{Stretch}
use Rattle.tl_patch_select.specs.Inner.Ranges.{IsRising}
use Rattle.tl_patch_select.specs.Inner.Sources.{IsCrossedIn, IsCrossedOf, IsOneCrossedIn, IsWholeAt, IsWholeOf, keyed_stretch, stretch_of_keyed}
use Rattle.tl_patch_select.specs.Selected.{place_of}
use Rattle.tl_patch_select.specs.Whole.{AreCrossed, AreThose, IsCrossedAt, IsCrossedOne, IsOneCrossed, IsWhole, IsWholeIn}
use Rattle.tl_patch_select.specs.declared.ranges.Keyed.{Keyed}
use Rattle.tl_patch_select.specs.declared.whole.Crossed.{Crossed}
use Rattle.tl_patch_select.proofs.Bounded.{AreLess, AreNoLess, found_at, rises}
use Rattle.tl_tree.specs.declared.tree.Tree.{Tree}
use lib.Dec.{ltb}

-- the bytes of elements up to an index

abbrev pub AreWholeUpTo : List Keyed → Tree → ℕ → ℕ → ℕ → ℕ → Type 0
AreWholeUpTo elements tree tail number place at = (k : ℕ) (one : Keyed) → k < at → slice_get elements k ≡ Some one → one.key ≡ place → IsWholeIn tree tail number (stretch_of_keyed one)

pub whole_before : (elements : List Keyed) (tree : Tree) (tail number place first : ℕ) → AreLess elements first place → AreWholeUpTo elements tree tail number place first
whole_before elements tree tail number place first before = λ k one l e s. (let o : one.key < place = before k one l e in absurd (omega (arith, o, s)))

pub one_whole : (elements : List Keyed) (tree : Tree) (tail number place at : ℕ) (one : Keyed) → AreWholeUpTo elements tree tail number place at → slice_get elements at ≡ Some one →
    IsWholeIn tree tail number (stretch_of_keyed one) → AreWholeUpTo elements tree tail number place (at + 1)
one_whole elements tree tail number place at one h e w = λ k other l f s. elim (cases_Bool (ltb k at)) [
  | inl y ↦ h k other (ltb-true k at y) f s
  | inr y ↦
      let m : at ≤ k = ltb-false k at y in
      let same : k ≡ at = omega (arith, l, m) in
      let is : one ≡ other = same_Some one other (sym e ∙ ap (slice_get elements) (sym same) ∙ f) in
      subst (λ (x : Keyed). IsWholeIn tree tail number (stretch_of_keyed x)) is w
]

abbrev pub NoneBehind : List Keyed → ℕ → ℕ → Type 0
NoneBehind elements place at = (k : ℕ) (one : Keyed) → at ≤ k → slice_get elements k ≡ Some one → one.key ≡ place → ⊥

pub none_behind : (elements : List Keyed) (place first at : ℕ) (one : Keyed) → IsRising elements → AreNoLess elements first place → first ≤ at → slice_get elements at ≡ Some one →
    (one.key ≡ place → ⊥) → NoneBehind elements place at
none_behind elements place first at one r behind f e n = λ k other l g s.
    let a : place ≤ one.key = behind at one f e in
    let b : one.key ≤ other.key = rises elements at k one other r l e g in
    n (omega (arith, a, b, s))

pub past_all : (elements : List Keyed) (place at : ℕ) → length elements ≤ at → NoneBehind elements place at
past_all elements place at l = λ k one m e s. (let w : k < length elements = slice_get_within elements k one e in omega (arith, l, m, w))

pub all_whole : (elements : List Keyed) (tree : Tree) (tail number place at : ℕ) → AreWholeUpTo elements tree tail number place at → NoneBehind elements place at → IsWholeAt elements tree tail number place
all_whole elements tree tail number place at h none = λ one among s. elim (cases_Bool (ltb among.0 at)) [
  | inl y ↦ h among.0 one (ltb-true among.0 at y) (found_at elements one among) s
  | inr y ↦ absurd (none among.0 one (ltb-false among.0 at y) (found_at elements one among) s)
]

pub crossed_in : (elements : List Keyed) (tree : Tree) (tail number place at crossing : ℕ) (one : Keyed) → slice_get elements at ≡ Some one → one.key ≡ place →
    IsCrossedAt tree tail number (stretch_of_keyed one) crossing → IsCrossedIn elements tree tail number place crossing
crossed_in elements tree tail number place at crossing one e s c = record {
  one = one;
  among = (at, slice_get_within elements at one e, get_or_from_slice_get elements at one one e);
  start = s;
  crossed = c;
}

-- the same, with the element at an index

pub whole_on : (elements : List Keyed) (tree : Tree) (tail now number place at : ℕ) (d : Keyed) (found : Option ℕ) → now ≡ tail → at < length elements → AreWholeUpTo elements tree tail number place at →
    found ≡ None → IfNone found (IsWholeIn tree now number (stretch_of_keyed (get_or elements at d))) → AreWholeUpTo elements tree tail number place (at + 1)
whole_on elements tree tail now number place at d found t l h e w =
    let is : IsWholeIn tree now number (stretch_of_keyed (get_or elements at d)) = MatchOption-at_none _ _ e w in
    one_whole elements tree tail number place at (get_or elements at d) h (slice_get-get_or elements at d l)
    (subst (λ n. IsWholeIn tree n number (stretch_of_keyed (get_or elements at d))) t is)

pub later_no_less : (elements : List Keyed) (at place : ℕ) → AreNoLess elements at place → AreNoLess elements (at + 1) place
later_no_less elements at place h = λ k one l e. h k one (omega (arith, l)) e

pub whole_early : (elements : List Keyed) (tree : Tree) (tail number place at : ℕ) (d : Keyed) (b : Bool) → IsRising elements → AreNoLess elements at place → at < length elements →
    AreWholeUpTo elements tree tail number place at → (b ≡ false → (get_or elements at d).key ≡ place → ⊥) → b ≡ false → IsWholeAt elements tree tail number place
whole_early elements tree tail number place at d b r behind l h denied e =
    all_whole elements tree tail number place at h (none_behind elements place at at (get_or elements at d) r behind (omega arith) (slice_get-get_or elements at d l) (denied e))

pub whole_end : (elements : List Keyed) (tree : Tree) (tail number place at : ℕ) → length elements ≤ at → AreWholeUpTo elements tree tail number place at → IsWholeAt elements tree tail number place
whole_end elements tree tail number place at l h = all_whole elements tree tail number place at h (past_all elements place at l)

pub crossed_there : (elements : List Keyed) (tree : Tree) (tail now number place at crossing : ℕ) (d : Keyed) (b : Bool) (found : Option ℕ) → now ≡ tail → at < length elements →
    (b ≡ true → (get_or elements at d).key ≡ place) → b ≡ true → found ≡ Some crossing → IfSome found (IsCrossedAt tree now number (stretch_of_keyed (get_or elements at d))) →
    IsCrossedIn elements tree tail number place crossing
crossed_there elements tree tail now number place at crossing d b found t l told e f w =
    let is : IsCrossedAt tree now number (stretch_of_keyed (get_or elements at d)) crossing = MatchOption-at_some _ _ crossing f w in
    crossed_in elements tree tail number place at crossing (get_or elements at d) (slice_get-get_or elements at d l) (told e)
    (subst (λ n. IsCrossedAt tree n number (stretch_of_keyed (get_or elements at d)) crossing) t is)

-- one element

pub untagged_is_whole : (elements : List Keyed) (tree : Tree) (tail number : ℕ) (o : Option ℕ) → o ≡ place_of tree number → o ≡ None → IsWholeOf elements tree tail number
untagged_is_whole elements tree tail number o e n = λ place t. absurd (none-some place (sym n ∙ e ∙ t))

pub tagged_is_whole : (elements : List Keyed) (tree : Tree) (tail number place : ℕ) (o p : Option ℕ) → o ≡ place_of tree number → o ≡ Some place → p ≡ None →
    IfNone p (IsWholeAt elements tree tail number place) → IsWholeOf elements tree tail number
tagged_is_whole elements tree tail number place o p e s n w = λ other t.
    let is : IsWholeAt elements tree tail number place = MatchOption-at_none _ _ n w in
    subst (IsWholeAt elements tree tail number) (same_Some place other (sym s ∙ e ∙ t)) is

pub whole_there : (elements : List Keyed) (tree : Tree) (tail number place : ℕ) → place_of tree number ≡ Some place → IsWholeAt elements tree tail number place → IsWholeOf elements tree tail number
whole_there elements tree tail number place e w = λ other t. subst (IsWholeAt elements tree tail number) (same_Some place other (sym e ∙ t)) w

pub tagged_is_crossed : (elements : List Keyed) (tree : Tree) (tail number place at : ℕ) (o p : Option ℕ) → o ≡ place_of tree number → o ≡ Some place → p ≡ Some at →
    IfSome p (IsCrossedIn elements tree tail number place) → IsCrossedOf elements tree tail number (record { place = place; at = at })
tagged_is_crossed elements tree tail number place at o p e s n w =
    let is : IsCrossedIn elements tree tail number place at = MatchOption-at_some _ _ at n w in
    record { begins = sym e ∙ s; is = is }

-- some elements, from the last on

abbrev pub AreWholeFrom : List Keyed → Tree → ℕ → List ℕ → ℕ → Type 0
AreWholeFrom elements tree tail numbers left = (k d : ℕ) → left ≤ k → k < length numbers → IsWholeOf elements tree tail (get_or numbers k d)

pub none_behind_all : (elements : List Keyed) (tree : Tree) (tail : ℕ) (numbers : List ℕ) (left : ℕ) → length numbers ≤ left → AreWholeFrom elements tree tail numbers left
none_behind_all elements tree tail numbers left l = λ k d m n. absurd (omega (arith, l, m, n))

pub one_before : (elements : List Keyed) (tree : Tree) (tail now : ℕ) (numbers : List ℕ) (left d : ℕ) (found : Option Crossed) → now ≡ tail → 0 < left → left ≤ length numbers → found ≡ None →
    IfNone found (IsWholeOf elements tree now (get_or numbers (left - 1) d)) → AreWholeFrom elements tree tail numbers left → AreWholeFrom elements tree tail numbers (left - 1)
one_before elements tree tail now numbers left d found t o within e w h = λ k d' l m. elim (cases_Bool (ltb k left)) [
  | inl y ↦
      let n : k < left = ltb-true k left y in
      let same : left - 1 ≡ k = omega (arith, l, n, o) in
      let is : IsWholeOf elements tree now (get_or numbers (left - 1) d) = MatchOption-at_none _ _ e w in
      let here : IsWholeOf elements tree tail (get_or numbers (left - 1) d) = subst (λ n. IsWholeOf elements tree n (get_or numbers (left - 1) d)) t is in
      let there : IsWholeOf elements tree tail (get_or numbers k d) = subst (λ n. IsWholeOf elements tree tail (get_or numbers n d)) same here in
      subst (IsWholeOf elements tree tail) (get_or_default numbers k d d' m) there
  | inr y ↦ h k d' (ltb-false k left y) m
]

pub all_before : (elements : List Keyed) (tree : Tree) (tail : ℕ) (numbers : List ℕ) (left : ℕ) → left ≤ 0 → AreWholeFrom elements tree tail numbers left → All (IsWholeOf elements tree tail) numbers
all_before elements tree tail numbers left l h = λ k d m. h k d (omega (arith, l)) m

pub one_is_crossed : (elements : List Keyed) (tree : Tree) (tail now : ℕ) (numbers : List ℕ) (left d : ℕ) (found : Option Crossed) (crossed : Crossed) → now ≡ tail → 0 < left → left ≤ length numbers →
    found ≡ Some crossed → IfSome found (IsCrossedOf elements tree now (get_or numbers (left - 1) d)) → IsOneCrossedIn elements tree tail numbers crossed
one_is_crossed elements tree tail now numbers left d found crossed t o within e w =
    let is : IsCrossedOf elements tree now (get_or numbers (left - 1) d) crossed = MatchOption-at_some _ _ crossed e w in
    record {
      number = get_or numbers (left - 1) d;
      among = Contains-get_or numbers (left - 1) d (omega (arith, o, within));
      is = subst (λ n. IsCrossedOf elements tree n (get_or numbers (left - 1) d) crossed) t is;
    }

-- the elements of a page

pub whole_of : (page : List ℕ) (tree : Tree) (tail number : ℕ) (elements : List Keyed) (all : List Stretch) → all ≡ stretches page → tail ≡ tail_begin page →
    ((s : Stretch) → Contains all s → Contains elements (keyed_stretch s)) → IsWholeOf elements tree tail number → IsWhole page tree number
whole_of page tree tail number elements all e t kept h = λ s among place.
    subst (λ n. IsWholeIn tree n number s) t (h s.start place (keyed_stretch s) (kept s (subst (λ (xs : List Stretch). Contains xs s) (sym e) among)) refl)

crossed_one_of : (page : List ℕ) (tree : Tree) (tail number : ℕ) (elements : List Keyed) (all : List Stretch) (crossed : Crossed) → all ≡ stretches page → tail ≡ tail_begin page →
    ((one : Keyed) → Contains elements one → Contains all (stretch_of_keyed one)) → IsCrossedOf elements tree tail number crossed → IsCrossedOne page tree number crossed
crossed_one_of page tree tail number elements all crossed e t each h = record {
  begins = h.begins;
  stretch = stretch_of_keyed (h.is).one;
  among = subst (λ (xs : List Stretch). Contains xs (stretch_of_keyed (h.is).one)) e (each (h.is).one (h.is).among);
  start = (h.is).start;
  crossed = subst (λ n. IsCrossedAt tree n number (stretch_of_keyed (h.is).one) crossed.at) t (h.is).crossed;
}

pub crossed_of : (page : List ℕ) (tree : Tree) (tail : ℕ) (numbers : List ℕ) (elements : List Keyed) (all : List Stretch) (crossed : Crossed) → all ≡ stretches page → tail ≡ tail_begin page →
    ((one : Keyed) → Contains elements one → Contains all (stretch_of_keyed one)) → IsOneCrossedIn elements tree tail numbers crossed → IsOneCrossed page tree numbers crossed.place crossed.at
crossed_of page tree tail numbers elements all crossed e t each h = record {
  number = h.number;
  among = h.among;
  crossed = crossed_one_of page tree tail h.number elements all crossed e t each h.is;
}

pub all_whole_of : (page : List ℕ) (tree : Tree) (tail now : ℕ) (numbers : List ℕ) (elements : List Keyed) (all : List Stretch) (found : Option Crossed) → all ≡ stretches page → tail ≡ tail_begin page → now ≡ tail →
    ((s : Stretch) → Contains all s → Contains elements (keyed_stretch s)) → IfNone found (All (IsWholeOf elements tree now) numbers) → IfNone found (All (IsWhole page tree) numbers)
all_whole_of page tree tail now numbers elements all None e t n kept h = λ k d l. whole_of page tree now (get_or numbers k d) elements all e (n ∙ t) kept (h k d l)
all_whole_of page tree tail now numbers elements all (Some x) e t n kept h = tt

pub one_crossed_of : (page : List ℕ) (tree : Tree) (tail now : ℕ) (numbers : List ℕ) (elements : List Keyed) (all : List Stretch) (found : Option Crossed) → all ≡ stretches page → tail ≡ tail_begin page → now ≡ tail →
    ((one : Keyed) → Contains elements one → Contains all (stretch_of_keyed one)) → IfSome found (IsOneCrossedIn elements tree now numbers) →
    IfSome found (λ (crossed : Crossed). IsOneCrossed page tree numbers crossed.place crossed.at)
one_crossed_of page tree tail now numbers elements all None e t n each h = tt
one_crossed_of page tree tail now numbers elements all (Some x) e t n each h = crossed_of page tree now numbers elements all x e (n ∙ t) each h

-- all that aren't whole

one_well : (W : ℕ → Type 0) (C : ℕ → Crossed → Type 0) (n : ℕ) (ns : List ℕ) (cs : List Crossed) → W n → AreThose W C ns cs → AreThose W C (n ∷ ns) cs
one_well W C n ns [] w h = (w, h)
one_well W C n ns (c ∷ cs) w h = inl (w, h)

those_append : (W : ℕ → Type 0) (C : ℕ → Crossed → Type 0) (ns ms : List ℕ) (cs ds : List Crossed) → AreThose W C ns cs → AreThose W C ms ds → AreThose W C (ns ++ ms) (cs ++ ds)
those_append W C [] ms [] ds h k = k
those_append W C [] ms (c ∷ cs) ds h k = absurd h
those_append W C (n ∷ ns) ms [] ds h k = one_well W C n (ns ++ ms) ds h.0 (those_append W C ns ms [] ds h.1 k)
those_append W C (n ∷ ns) ms (c ∷ cs) ds h k = elim h [
  | inl w ↦ inl (w.0, those_append W C ns ms (c ∷ cs) ds w.1 k)
  | inr w ↦ inr (w.0, those_append W C ns ms cs ds w.1 k)
]

those_same : (W V : ℕ → Type 0) (C D : ℕ → Crossed → Type 0) (ns : List ℕ) (cs : List Crossed) → ((n : ℕ) → W n → V n) → ((n : ℕ) (c : Crossed) → C n c → D n c) → AreThose W C ns cs → AreThose V D ns cs
those_same W V C D [] [] f g h = tt
those_same W V C D [] (c ∷ cs) f g h = absurd h
those_same W V C D (n ∷ ns) [] f g h = (f n h.0, those_same W V C D ns [] f g h.1)
those_same W V C D (n ∷ ns) (c ∷ cs) f g h = elim h [
  | inl w ↦ inl (f n w.0, those_same W V C D ns (c ∷ cs) f g w.1)
  | inr w ↦ inr (g n c w.0, those_same W V C D ns cs f g w.1)
]

abbrev pub AreThoseOf : List Keyed → Tree → ℕ → List ℕ → List Crossed → Type 0
AreThoseOf elements tree tail numbers crossed = AreThose (IsWholeOf elements tree tail) (IsCrossedOf elements tree tail) numbers crossed

one_of : (elements : List Keyed) (tree : Tree) (tail n : ℕ) (found : Option Crossed) → IfNone found (IsWholeOf elements tree tail n) → IfSome found (IsCrossedOf elements tree tail n) →
    AreThoseOf elements tree tail (n ∷ []) (option_to_list found)
one_of elements tree tail n None whole crossed = (whole, tt)
one_of elements tree tail n (Some one) whole crossed = inr (crossed, tt)

pub those_more : (elements : List Keyed) (tree : Tree) (tail now : ℕ) (numbers : List ℕ) (at d : ℕ) (found : Option Crossed) (old new : List Crossed) → now ≡ tail → at < length numbers →
    IfNone found (IsWholeOf elements tree now (get_or numbers at d)) → IfSome found (IsCrossedOf elements tree now (get_or numbers at d)) → new ≡ old ++ option_to_list found →
    AreThoseOf elements tree tail (take at numbers) old → AreThoseOf elements tree tail (take (at + 1) numbers) new
those_more elements tree tail now numbers at d found old new t l whole crossed e h =
    let n : ℕ = get_or numbers at d in
    let one : AreThoseOf elements tree tail (n ∷ []) (option_to_list found) = subst (λ k. AreThoseOf elements tree k (n ∷ []) (option_to_list found)) t (one_of elements tree now n found whole crossed) in
    let both : AreThoseOf elements tree tail (take at numbers ++ n ∷ []) (old ++ option_to_list found) =
    those_append (IsWholeOf elements tree tail) (IsCrossedOf elements tree tail) (take at numbers) (n ∷ []) old (option_to_list found) h one in
    subst (λ (cs : List Crossed). AreThoseOf elements tree tail (take (at + 1) numbers) cs) (sym e)
    (subst (λ (ns : List ℕ). AreThoseOf elements tree tail ns (old ++ option_to_list found)) (sym (take_more numbers at d l)) both)

pub those_begin : (elements : List Keyed) (tree : Tree) (tail : ℕ) (numbers : List ℕ) (crossed : List Crossed) → crossed ≡ [] → AreThoseOf elements tree tail (take 0 numbers) crossed
those_begin elements tree tail numbers crossed e = subst (λ (cs : List Crossed). AreThoseOf elements tree tail (take 0 numbers) cs) (sym e) tt

pub those_all : (elements : List Keyed) (tree : Tree) (tail : ℕ) (numbers : List ℕ) (at : ℕ) (crossed : List Crossed) → length numbers ≤ at → AreThoseOf elements tree tail (take at numbers) crossed →
    AreThoseOf elements tree tail numbers crossed
those_all elements tree tail numbers at crossed l h = subst (λ (ns : List ℕ). AreThoseOf elements tree tail ns crossed) (take_all at numbers l) h

pub all_crossed_of : (page : List ℕ) (tree : Tree) (tail now : ℕ) (numbers : List ℕ) (elements : List Keyed) (all : List Stretch) (found : List Crossed) → all ≡ stretches page → tail ≡ tail_begin page → now ≡ tail →
    ((one : Keyed) → Contains elements one → Contains all (stretch_of_keyed one)) → ((s : Stretch) → Contains all s → Contains elements (keyed_stretch s)) → AreThoseOf elements tree now numbers found →
    AreCrossed page tree numbers found
all_crossed_of page tree tail now numbers elements all found e t n each kept h =
    those_same (IsWholeOf elements tree now) (IsWhole page tree) (IsCrossedOf elements tree now) (IsCrossedOne page tree) numbers found
    (λ k w. whole_of page tree now k elements all e (n ∙ t) kept w) (λ k c w. crossed_one_of page tree now k elements all c e (n ∙ t) each w) h
