-- Nodes that are filled one after the other.
use Rattle.std.proofs.Common.{◌≡◌, ℕ, ◌+◌, ◌<◌, List, [], ◌∷◌, ◌++◌, length, take, drop, get_or, map, slice_set, ap, ap₂, sym, ◌∙◌, add-one, arith, drop-cons, length-drop, refl}
use Rattle.std.proofs.lemmas.List.{drop-set-lt, map-append, take_more, take_more_set}
use Rattle.tl.specs.View.{HTMLNode, node_view}
use Rattle.uses.specs.Fields.{Fields, node_with}

rest_of : (xs : List HTMLNode) (i : ℕ) (d : HTMLNode) → i < length xs → drop i xs ≡ get_or xs i d ∷ drop (i + 1) xs
rest_of xs i d h = rw (add-one, drop-cons xs i d) refl

module _ (fields : Fields) (now before : List HTMLNode) (i : ℕ) (old new : HTMLNode) (within : i < length now) (is : old ≡ get_or now i old)
    (filled : node_view new ≡ node_with fields (node_view old)) (left : drop i now ≡ drop i before) where
  next : drop i before ≡ old ∷ drop (i + 1) now
  next = sym left ∙ rest_of now i old within ∙ ap (λ x. x ∷ drop (i + 1) now) (sym is)

  inside : i < length before
  inside = omega (arith, length-drop i before, ap length next)

  both : get_or before i old ∷ drop (i + 1) before ≡ old ∷ drop (i + 1) now
  both = sym (rest_of before i old inside) ∙ next

  here : get_or before i old ≡ old
  here = cc (both)

  pub left_after : drop (i + 1) (slice_set now i new) ≡ drop (i + 1) before
  left_after = let less : i < i + 1 = omega arith in let later : drop (i + 1) before ≡ drop (i + 1) now = cc (both) in drop-set-lt (i + 1) now i new less ∙ sym later

  pub done_after : map node_view (take i now) ≡ map (node_with fields) (map node_view (take i before)) →
      map node_view (take (i + 1) (slice_set now i new)) ≡ map (node_with fields) (map node_view (take (i + 1) before))
  done_after done =
      let new_side : map node_view (take (i + 1) (slice_set now i new)) ≡ map node_view (take i now) ++ node_view new ∷ [] =
      ap (map node_view) (take_more_set now i new within) ∙ map-append node_view (take i now) (new ∷ []) in
      let old_side : map (node_with fields) (map node_view (take (i + 1) before)) ≡ map (node_with fields) (map node_view (take i before)) ++ node_with fields (node_view old) ∷ [] =
      ap (λ xs. map (node_with fields) (map node_view xs)) (take_more before i old inside ∙ ap (λ x. take i before ++ x ∷ []) here)
      ∙ ap (map (node_with fields)) (map-append node_view (take i before) (old ∷ []))
      ∙ map-append (node_with fields) (map node_view (take i before)) (node_view old ∷ []) in
      new_side ∙ ap₂ (λ xs x. xs ++ x ∷ []) done filled ∙ sym old_side
