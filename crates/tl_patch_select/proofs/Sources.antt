-- Where the rows of a tree come from, and what crosses an element.
use Rattle.std.proofs.Common.{List, None, Option, Some, ap, arith, get_or, inl, inr, length, map, refl, slice_get, subst, sym, ℕ, [], ◌+◌, ◌++◌, ◌<◌, ◌∙◌, ◌∷◌, ◌≡◌, ◌≤◌}
use Rattle.std.proofs.lemmas.Bool.{cases_Bool, ltb-false, ltb-true}
use Rattle.std.proofs.lemmas.List.{get_or-map, length-map}
use Rattle.std.proofs.lemmas.List.Elements.{Contains-append_left, Contains-push, Contains-push_cases}
use Rattle.std.proofs.lemmas.List.Sorted.{Contains-permutation, IsPermutation-sym}
use Rattle.std.proofs.lemmas.Option.{MatchOption-at_none, MatchOption-at_some, none-some, same_Some, slice_get_past}
use Rattle.std.specs.List.{Contains}
use Rattle.std.specs.List.Sorted.{IsPermutation}
use Rattle.std.specs.Option.{option_and_then, option_map}
use Rattle.std.specs.Prelude.{IfNone, IfSome}
use Rattle.tl_patch_edit.specs.declared.reach.Stretch.{Stretch}
use Rattle.tl_patch_select.specs.Inner.Ranges.{HasKey, IsByKey, IsStray, StandsIn}
use Rattle.tl_patch_select.specs.Inner.Sources.{ArePlaces, AreRows, AreRowsUpTo, AreSources, keyed, keyed_stretch, stretch_of_keyed, turned}
use Rattle.tl_patch_select.specs.Selected.{place_of}
use Rattle.tl_patch_select.specs.Whole.{BelongsTo, ComesFrom, Holds, IsCrossedAt, IsWholeIn, end_of}
use Rattle.tl_patch_select.specs.declared.ranges.Keyed.{Keyed}
use Rattle.tl_patch_select.specs.declared.ranges.Range.{Range}
use Rattle.tl_patch_select.specs.declared.whole.Sources.{Sources}
use Rattle.tl_tree.specs.Rows.{Row}
use Rattle.tl_tree.specs.Sources.{node_source}
use Rattle.tl_tree.specs.TreeView.{rows_in}
use Rattle.tl_tree.specs.declared.source.Source.{Source}
use Rattle.tl_tree.specs.declared.tree.Tree.{Tree}
use lib.Dec.{ltb}

-- what a list holds of which each is made of one of another

pub contains_map : {A B : Type 0} (f : A → B) (xs : List A) (x : A) → Contains xs x → Contains (map f xs) (f x)
contains_map {A} {B} f xs x h =
    let is : get_or (map f xs) h.0 (f x) ≡ f (get_or xs h.0 x) = get_or-map f xs h.0 x (f x) h.1 in
    (h.0, omega (arith, h.1, length-map xs f), is ∙ ap f h.2)

pub contains_from_map : {A B : Type 0} (f : A → B) (g : B → A) → ((a : A) → g (f a) ≡ a) → (xs : List A) (y : B) → Contains (map f xs) y → Contains xs (g y)
contains_from_map {A} {B} f g inverse xs y h =
    let within : h.0 < length xs = omega (arith, h.1, length-map xs f) in
    let is : get_or (map f xs) h.0 y ≡ f (get_or xs h.0 (g y)) = get_or-map f xs h.0 (g y) y within in
    (h.0, within, sym (inverse (get_or xs h.0 (g y))) ∙ ap g (sym is ∙ h.2))

-- the rows up to one

pub no_rows : (tree : Tree) (tail : ℕ) → AreRowsUpTo tree tail 0 []
no_rows tree tail = record {
  each = λ one h. absurd (omega (arith, h.1));
  kept = λ row at l h. absurd (omega (arith, l));
}

pub row_before : (tree : Tree) (tail row : ℕ) (all : List Keyed) → AreRowsUpTo tree tail row all → ((at : ℕ) → ComesFrom tree tail row at → ⊥) → AreRowsUpTo tree tail (row + 1) all
row_before tree tail row all h none = record {
  each = h.each;
  kept = λ r at l k. elim (cases_Bool (ltb r row)) [
    | inl y ↦ h.kept r at (ltb-true r row y) k
    | inr y ↦
        let m : row ≤ r = ltb-false r row y in
        let same : r ≡ row = omega (arith, l, m) in
        absurd (none at (subst (λ n. ComesFrom tree tail n at) same k))
  ];
}

pub row_more : (tree : Tree) (tail row place : ℕ) (all : List Keyed) → AreRowsUpTo tree tail row all → ComesFrom tree tail row place → AreRowsUpTo tree tail (row + 1) (all ++ keyed row place ∷ [])
row_more tree tail row place all h from = record {
  each = λ one k. elim (Contains-push_cases all (keyed row place) one k) [
    | inl y ↦ h.each one y
    | inr e ↦ subst (λ (x : Keyed). ComesFrom tree tail x.key x.number) e from
  ];
  kept = λ r at l k. elim (cases_Bool (ltb r row)) [
    | inl y ↦ Contains-append_left all (keyed row place ∷ []) (keyed r at) (h.kept r at (ltb-true r row y) k)
    | inr y ↦
        let m : row ≤ r = ltb-false r row y in
        let same : row ≡ r = omega (arith, l, m) in
        let there : place_of tree r ≡ Some place = subst (λ n. place_of tree n ≡ Some place) same from.place in
        let at_same : place ≡ at = same_Some place at (sym there ∙ k.place) in
        subst (λ n. Contains (all ++ keyed row place ∷ []) (keyed n at)) same
        (subst (λ n. Contains (all ++ keyed row place ∷ []) (keyed row n)) at_same (Contains-push all (keyed row place)))
  ];
}

-- a row beyond the last comes from nowhere
pub none_beyond : (tree : Tree) (row : ℕ) → length (rows_in tree) ≤ row → place_of tree row ≡ None
none_beyond tree row l =
    ap (λ (o : Option Row). option_map (λ (s : Source). s.start) (option_and_then (node_source tree) (option_map (λ (r : Row). r.node) o))) (slice_get_past (rows_in tree) row l)

pub all_rows : (tree : Tree) (tail count : ℕ) (all : List Keyed) → length (rows_in tree) ≤ count → AreRowsUpTo tree tail count all → AreRows tree tail all
all_rows tree tail count all l h = record {
  each = h.each;
  kept = λ row at k. elim (cases_Bool (ltb row (length (rows_in tree)))) [
    | inl y ↦ (let m : row < length (rows_in tree) = ltb-true row (length (rows_in tree)) y in h.kept row at (omega (arith, l, m)) k)
    | inr y ↦ absurd (none-some at (sym (none_beyond tree row (ltb-false row (length (rows_in tree)) y)) ∙ k.place))
  ];
}

-- in another order, and by their places

pub rows_moved : (tree : Tree) (tail : ℕ) (xs ys : List Keyed) → IsPermutation xs ys → AreRows tree tail xs → AreRows tree tail ys
rows_moved tree tail xs ys p h = record {
  each = λ one k. h.each one (Contains-permutation ys xs one (IsPermutation-sym xs ys p) k);
  kept = λ row at k. Contains-permutation xs ys (keyed row at) p (h.kept row at k);
}

pub places_moved : (tree : Tree) (tail : ℕ) (xs ys : List Keyed) → IsPermutation xs ys → ArePlaces tree tail xs → ArePlaces tree tail ys
places_moved tree tail xs ys p h = record {
  each = λ one k. h.each one (Contains-permutation ys xs one (IsPermutation-sym xs ys p) k);
  kept = λ row at k. Contains-permutation xs ys (keyed at row) p (h.kept row at k);
}

pub rows_turned : (tree : Tree) (tail : ℕ) (xs : List Keyed) → AreRows tree tail xs → ArePlaces tree tail (map turned xs)
rows_turned tree tail xs h = record {
  each = λ one k. h.each (turned one) (contains_from_map turned turned (λ a. refl) xs one k);
  kept = λ row at k. contains_map turned xs (keyed row at) (h.kept row at k);
}

-- what crosses an element

abbrev pub rows_range : Tree → ℕ → Range
rows_range tree number = record { from = number; past = end_of tree number }

abbrev pub bytes_range : Stretch → Range
bytes_range s = record { from = s.start; past = s.end }

pub whole_in : (tree : Tree) (tail number : ℕ) (s : Stretch) (rows places : List Keyed) → AreRows tree tail rows → ArePlaces tree tail places →
    ((one : Keyed) → HasKey rows (rows_range tree number) one → StandsIn (bytes_range s) one.number) →
    ((one : Keyed) → HasKey places (bytes_range s) one → StandsIn (rows_range tree number) one.number) → IsWholeIn tree tail number s
whole_in tree tail number s rows places r p own inside = record {
  inside = λ row at comes holds.
      let in' : StandsIn (rows_range tree number) row = inside (keyed at row) (record { among = p.kept row at comes; key = record { from = holds.0; before = holds.1 } }) in
      (in'.from, in'.before);
  own = λ row at comes belongs.
      let in' : StandsIn (bytes_range s) at = own (keyed row at) (record { among = r.kept row at comes; key = record { from = belongs.0; before = belongs.1 } }) in
      (in'.from, in'.before);
}

pub crossed_by_row : (tree : Tree) (tail number : ℕ) (s : Stretch) (rows : List Keyed) (one : Keyed) → AreRows tree tail rows → IsStray rows (rows_range tree number) (bytes_range s) one →
    IsCrossedAt tree tail number s one.number
crossed_by_row tree tail number s rows one r h = record {
  row = one.key;
  comes = r.each one (h.has_key).among;
  crosses = inr ((((h.has_key).key).from, ((h.has_key).key).before), λ holds. h.out (record { from = holds.0; before = holds.1 }));
}

pub crossed_by_place : (tree : Tree) (tail number : ℕ) (s : Stretch) (places : List Keyed) (one : Keyed) → ArePlaces tree tail places → IsStray places (bytes_range s) (rows_range tree number) one →
    IsCrossedAt tree tail number s one.key
crossed_by_place tree tail number s places one p h = record {
  row = one.number;
  comes = p.each one (h.has_key).among;
  crosses = inl ((((h.has_key).key).from, ((h.has_key).key).before), λ belongs. h.out (record { from = belongs.0; before = belongs.1 }));
}

-- the same, where it may be

abbrev pub up_to : ℕ → ℕ → Range
up_to from past = record { from = from; past = past }

pub whole_if : (tree : Tree) (number past : ℕ) (s : Stretch) (own : Sources) (o p : Option Keyed) → past ≡ end_of tree number → AreSources tree own → o ≡ None → p ≡ None →
    IfNone o ((one : Keyed) → HasKey own.by_number.all.items (up_to number past) one → StandsIn (bytes_range s) one.number) →
    IfNone p ((one : Keyed) → HasKey own.by_place.all.items (bytes_range s) one → StandsIn (up_to number past) one.number) → IsWholeIn tree own.tail number s
whole_if tree number past s own o p end h e f x y =
    let rows : (one : Keyed) → HasKey own.by_number.all.items (up_to number past) one → StandsIn (bytes_range s) one.number = MatchOption-at_none _ _ e x in
    let places : (one : Keyed) → HasKey own.by_place.all.items (bytes_range s) one → StandsIn (up_to number past) one.number = MatchOption-at_none _ _ f y in
    whole_in tree own.tail number s own.by_number.all.items own.by_place.all.items h.rows h.places
    (subst (λ n. (one : Keyed) → HasKey own.by_number.all.items (up_to number n) one → StandsIn (bytes_range s) one.number) end rows)
    (subst (λ n. (one : Keyed) → HasKey own.by_place.all.items (bytes_range s) one → StandsIn (up_to number n) one.number) end places)

pub crossed_row_if : (tree : Tree) (number past : ℕ) (s : Stretch) (own : Sources) (o : Option Keyed) (one : Keyed) → past ≡ end_of tree number → AreSources tree own → o ≡ Some one →
    IfSome o (IsStray own.by_number.all.items (up_to number past) (bytes_range s)) → IsCrossedAt tree own.tail number s one.number
crossed_row_if tree number past s own o one end h e x =
    let stray : IsStray own.by_number.all.items (up_to number past) (bytes_range s) one = MatchOption-at_some _ _ one e x in
    crossed_by_row tree own.tail number s own.by_number.all.items one h.rows (subst (λ n. IsStray own.by_number.all.items (up_to number n) (bytes_range s) one) end stray)

pub crossed_place_if : (tree : Tree) (number past : ℕ) (s : Stretch) (own : Sources) (o : Option Keyed) (one : Keyed) → past ≡ end_of tree number → AreSources tree own → o ≡ Some one →
    IfSome o (IsStray own.by_place.all.items (bytes_range s) (up_to number past)) → IsCrossedAt tree own.tail number s one.key
crossed_place_if tree number past s own o one end h e x =
    let stray : IsStray own.by_place.all.items (bytes_range s) (up_to number past) one = MatchOption-at_some _ _ one e x in
    crossed_by_place tree own.tail number s own.by_place.all.items one h.places (subst (λ n. IsStray own.by_place.all.items (bytes_range s) (up_to number n) one) end stray)

pub sources_are : (tree : Tree) (own : Sources) (rows places : List Keyed) → IsByKey own.by_number → IsByKey own.by_place → AreRows tree own.tail rows → places ≡ map turned rows →
    IsPermutation rows own.by_number.all.items → IsPermutation places own.by_place.all.items → AreSources tree own
sources_are tree own rows places a b r e p q = record {
  by_number = a;
  by_place = b;
  rows = rows_moved tree own.tail rows own.by_number.all.items p r;
  places = places_moved tree own.tail places own.by_place.all.items q (subst (λ (xs : List Keyed). ArePlaces tree own.tail xs) (sym e) (rows_turned tree own.tail rows r));
}

-- with other bounds in them
pub sources_stay : (tree : Tree) (own new : Sources) → AreSources tree own → new.tail ≡ own.tail → IsByKey new.by_number → IsByKey new.by_place →
    new.by_number.all.items ≡ own.by_number.all.items → new.by_place.all.items ≡ own.by_place.all.items → AreSources tree new
sources_stay tree own new h t a b e f = record {
  by_number = a;
  by_place = b;
  rows = subst (λ n. AreRows tree n new.by_number.all.items) (sym t) (subst (λ (xs : List Keyed). AreRows tree own.tail xs) (sym e) h.rows);
  places = subst (λ n. ArePlaces tree n new.by_place.all.items) (sym t) (subst (λ (xs : List Keyed). ArePlaces tree own.tail xs) (sym f) h.places);
}

-- bytes of elements in another order

pub each_in_order : (elements : List Stretch) (xs ys : List Keyed) → xs ≡ map keyed_stretch elements → IsPermutation xs ys → (one : Keyed) → Contains ys one → Contains elements (stretch_of_keyed one)
each_in_order elements xs ys e p one h =
    contains_from_map keyed_stretch stretch_of_keyed (λ a. refl) elements one (subst (λ (zs : List Keyed). Contains zs one) e (Contains-permutation ys xs one (IsPermutation-sym xs ys p) h))

pub all_in_order : (elements : List Stretch) (xs ys : List Keyed) → xs ≡ map keyed_stretch elements → IsPermutation xs ys → (s : Stretch) → Contains elements s → Contains ys (keyed_stretch s)
all_in_order elements xs ys e p s h =
    Contains-permutation xs ys (keyed_stretch s) p (subst (λ (zs : List Keyed). Contains zs (keyed_stretch s)) (sym e) (contains_map keyed_stretch elements s h))
