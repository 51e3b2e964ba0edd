-- Patches in the order of their places, as the definitions have them.
use Rattle.std.proofs.Common.{Bool, List, [], ap, arith, cond, false, get_or, length, map, refl, sym, true, ℕ, ◌+◌, ◌<◌, ◌∙◌, ◌≡◌, ◌≤◌, ◌∷◌}
use Rattle.std.proofs.lemmas.List.{get_or-map}
use Rattle.std.proofs.lemmas.List.Sorted.{IsNonDecreasingBy-from_default, IsNonDecreasingBy-short}
use Rattle.std.specs.List.Sorted.{IsNonDecreasingBy, IsStableByKey, ties}
use Rattle.std.specs.Ordering.{is_lt, nat_cmp}
use Rattle.std.specs.Prelude.{filter}
use Rattle.tl_patch.specs.PatchView.{PlacedChange, patch_view}
use Rattle.tl_patch.specs.declared.tag_patch.TagPatch.{TagPatch}
use Rattle.tl_patch_select.specs.Nodes.{AreInOrder, place_in}

pub filter-map : {A B : Type 0} (test : B → Bool) (f : A → B) (xs : List A) → filter test (map f xs) ≡ map f (filter (λ x. test (f x)) xs)
filter-map test f [] = refl
filter-map {A} {B} test f (x ∷ xs) = one (filter-map test f xs) (test (f x)) refl
  where
    one : filter test (map f xs) ≡ map f (filter (λ x. test (f x)) xs) → (w : Bool) → test (f x) ≡ w →
        filter test (map f (x ∷ xs)) ≡ map f (filter (λ x. test (f x)) (x ∷ xs))
    one h true e = rw e (ap (λ ys. f x ∷ ys) h)
    one h false e = rw e h

stable-views : (xs ys : List TagPatch) → length ys ≡ length xs → IsStableByKey (λ (p : TagPatch). p.start) nat_cmp xs ys →
    IsStableByKey place_in nat_cmp (map patch_view xs) (map patch_view ys)
stable-views [] [] len stable = λ x. refl
stable-views [] (y ∷ ys) len stable = absurd (omega (arith, len))
stable-views (p ∷ xs) ys len stable = λ x.
    let like : TagPatch = record p { start = x.place } in
    let test : PlacedChange → Bool = ties (λ one other. is_lt (nat_cmp (place_in one) (place_in other))) x in
    filter-map test patch_view ys ∙ ap (map patch_view) (stable like) ∙ sym (filter-map test patch_view (p ∷ xs))

rising-views : (ys : List TagPatch) → IsNonDecreasingBy (λ (p : TagPatch). p.start) ys → IsNonDecreasingBy place_in (map patch_view ys)
rising-views [] rising = IsNonDecreasingBy-short place_in [] (omega arith)
rising-views (p ∷ ys) rising =
    IsNonDecreasingBy-from_default place_in (map patch_view (p ∷ ys)) (patch_view p)
    (λ i j le within.
    let here : j < length (p ∷ ys) = omega (arith, within, map-length (p ∷ ys)) in
    rw (get_or-map patch_view (p ∷ ys) i p (patch_view p) (omega (arith, le, here)), get_or-map patch_view (p ∷ ys) j p (patch_view p) here) (rising i j p le here))
  where
    map-length : (zs : List TagPatch) → length (map patch_view zs) ≡ length zs
    map-length [] = refl
    map-length (z ∷ zs) = let h = map-length zs in omega (arith, h)

pub in-order : (xs ys : List TagPatch) → length ys ≡ length xs → IsNonDecreasingBy (λ (p : TagPatch). p.start) ys → IsStableByKey (λ (p : TagPatch). p.start) nat_cmp xs ys →
    AreInOrder (map patch_view xs) (map patch_view ys)
in-order xs ys len rising stable = record {
  rising = rising-views ys rising;
  stable = stable-views xs ys len stable;
}
