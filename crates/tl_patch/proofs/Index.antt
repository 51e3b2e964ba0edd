-- The patches of a page, by the number of the first one that is left.
use Rattle.std.proofs.Common.{◌≡◌, ℕ, ◌+◌, ◌-◌, ◌≤◌, List, ◌++◌, take, drop, map, ap, sym, ◌∙◌, arith}
use Rattle.std.proofs.lemmas.List.{drop-drop, map-append, take-append-drop}
use Rattle.tl_patch.specs.PatchView.{PlacedChange, patch_view}
use Rattle.tl_patch.specs.declared.tag_patch.TagPatch.{TagPatch}

pub split : (patches : List TagPatch) (next end : ℕ) → next ≤ end →
    map patch_view (drop next patches) ≡ map patch_view (take (end - next) (drop next patches)) ++ map patch_view (drop end patches)
split patches next end l =
    let k : ℕ = end - next in
    let sum : next + k ≡ end = omega arith in
    ap (map patch_view) (sym (take-append-drop k (drop next patches)))
    ∙ map-append patch_view (take k (drop next patches)) (drop k (drop next patches))
    ∙ ap (λ xs. map patch_view (take k (drop next patches)) ++ map patch_view xs) (drop-drop k next patches ∙ ap (λ m. drop m patches) sum)

abbrev pub here_of : List TagPatch → ℕ → ℕ → List PlacedChange
here_of patches next end = map patch_view (take (end - next) (drop next patches))
