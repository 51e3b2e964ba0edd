-- Patches of one place, one by one.
use Rattle.std.proofs.Common.{◌≡◌, ℕ, ◌+◌, ◌-◌, ◌<◌, ◌≤◌, List, [], ◌∷◌, ◌++◌, length, take, drop, get_or, map, ap, sym, subst, ◌∙◌, arith}
use Rattle.std.specs.List.{All}
use Rattle.std.proofs.lemmas.List.{drop_all, drop_more, get_or-drop, length-drop, map-append, take_more}
use Rattle.std.proofs.lemmas.List.Elements.{All-push}
use Rattle.tl_patch.specs.Inner.Steps.{BeginElsewhere}
use Rattle.tl_patch.specs.PatchView.{PlacedChange, patch_view}
use Rattle.tl_patch.specs.declared.tag_patch.TagPatch.{TagPatch}

abbrev IsAt : ℕ → PlacedChange → Type 0
IsAt place c = c.place ≡ place

pub group_more : (xs : List TagPatch) (from end place : ℕ) (d : TagPatch) → from ≤ end → end < length xs →
    All (λ (c : PlacedChange). c.place ≡ place) (map patch_view (take (end - from) (drop from xs))) → (get_or xs end d).start ≡ place →
    All (λ (c : PlacedChange). c.place ≡ place) (map patch_view (take ((end + 1) - from) (drop from xs)))
group_more xs from end place d o l h e =
    let k : ℕ = end - from in
    let n : (end + 1) - from ≡ k + 1 = omega arith in
    let m : from + k ≡ end = omega arith in
    let in_rest : k < length (drop from xs) = omega (arith, length-drop from xs) in
    let here : get_or (drop from xs) k d ≡ get_or xs end d = get_or-drop from xs k d ∙ ap (λ i. get_or xs i d) m in
    let all : take ((end + 1) - from) (drop from xs) ≡ take k (drop from xs) ++ get_or xs end d ∷ [] =
    ap (λ i. take i (drop from xs)) n ∙ take_more (drop from xs) k d in_rest ∙ ap (λ x. take k (drop from xs) ++ x ∷ []) here in
    subst (λ (ys : List TagPatch). All (IsAt place) (map patch_view ys)) (sym all)
    (subst (All (IsAt place)) (sym (map-append patch_view (take k (drop from xs)) (get_or xs end d ∷ [])))
    (All-push (IsAt place) (map patch_view (take k (drop from xs))) (patch_view (get_or xs end d)) h e))

pub group_ends : (xs : List TagPatch) (end place : ℕ) → length xs ≤ end → BeginElsewhere place (map patch_view (drop end xs))
group_ends xs end place l = subst (λ (ys : List TagPatch). BeginElsewhere place (map patch_view ys)) (sym (drop_all end xs l)) tt

pub group_stops : (xs : List TagPatch) (end place : ℕ) (d : TagPatch) → end < length xs → ((get_or xs end d).start ≡ place → ⊥) → BeginElsewhere place (map patch_view (drop end xs))
group_stops xs end place d l h = subst (λ (ys : List TagPatch). BeginElsewhere place (map patch_view ys)) (sym (drop_more xs end d l)) h
