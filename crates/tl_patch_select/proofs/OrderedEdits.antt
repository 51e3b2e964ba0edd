-- Patches of elements in the order of their places, as the definitions have them.
use Rattle.std.proofs.Common.{Bool, List, [], arith, get_or, length, map, sym, ℕ, ◌+◌, ◌<◌, ◌∙◌, ◌≡◌, ◌≤◌, ◌∷◌, ap, refl}
use Rattle.std.proofs.lemmas.List.{get_or-map}
use Rattle.std.proofs.lemmas.List.Sorted.{IsNonDecreasingBy-from_default, IsNonDecreasingBy-short}
use Rattle.std.specs.List.Sorted.{IsNonDecreasingBy, IsStableByKey, ties}
use Rattle.std.specs.Ordering.{is_lt, nat_cmp}
use Rattle.tl_patch_edit.specs.View.{patch_view, patches_view}
use Rattle.tl_patch_edit.specs.declared.ask.PlacedPatch.{PlacedPatch}
use Rattle.tl_patch_spec.specs.Patches.{Patch}
use Rattle.tl_patch_select.specs.NodeEdits.{AreEditsInOrder, edited_number}
use Rattle.tl_patch_select.proofs.Ordered.{filter-map}

-- a patch with its place
abbrev view : PlacedPatch → ℕ × Patch
view p = (p.place, patch_view p.patch)

stable-views : (xs ys : List PlacedPatch) → length ys ≡ length xs → IsStableByKey (λ (p : PlacedPatch). p.place) nat_cmp xs ys →
    IsStableByKey edited_number nat_cmp (map view xs) (map view ys)
stable-views [] [] len stable = λ x. refl
stable-views [] (y ∷ ys) len stable = absurd (omega (arith, len))
stable-views (p ∷ xs) ys len stable = λ x.
    let like : PlacedPatch = record p { place = x.0 } in
    let test : (ℕ × Patch) → Bool = ties (λ one other. is_lt (nat_cmp (edited_number one) (edited_number other))) x in
    filter-map test view ys ∙ ap (map view) (stable like) ∙ sym (filter-map test view (p ∷ xs))

rising-views : (ys : List PlacedPatch) → IsNonDecreasingBy (λ (p : PlacedPatch). p.place) ys → IsNonDecreasingBy edited_number (map view ys)
rising-views [] rising = IsNonDecreasingBy-short edited_number [] (omega arith)
rising-views (p ∷ ys) rising =
    IsNonDecreasingBy-from_default edited_number (map view (p ∷ ys)) (view p)
    (λ i j le within.
    let here : j < length (p ∷ ys) = omega (arith, within, map-length (p ∷ ys)) in
    rw (get_or-map view (p ∷ ys) i p (view p) (omega (arith, le, here)), get_or-map view (p ∷ ys) j p (view p) here) (rising i j p le here))
  where
    map-length : (zs : List PlacedPatch) → length (map view zs) ≡ length zs
    map-length [] = refl
    map-length (z ∷ zs) = let h = map-length zs in omega (arith, h)

pub edits-in-order : (xs ys : List PlacedPatch) → length ys ≡ length xs → IsNonDecreasingBy (λ (p : PlacedPatch). p.place) ys → IsStableByKey (λ (p : PlacedPatch). p.place) nat_cmp xs ys →
    AreEditsInOrder (patches_view xs) (patches_view ys)
edits-in-order xs ys len rising stable = record {
  rising = rising-views ys rising;
  stable = stable-views xs ys len stable;
}
