-- What is outside of a place is settled, while the frames from there on are set aside.
use Rattle.std.proofs.Common.{ap, sym, subst, ◌∙◌, ◌≡◌, ◌++◌, ◌∷◌, [], Bool, IsTrue, List, drop, length, map, refl, reverse, take, ℕ}
use Rattle.std.proofs.lemmas.List.{drop-map, map-append, reverse-reverse}
use Rattle.std.specs.List.{list_all}
use Rattle.tl_dom_spec.specs.Path as dom
use Rattle.tl_tree.proofs.Gone.{path-whole}
use Rattle.tl_tree.proofs.Listed.{all-drop, all-weaker, map-same, map-take}
use Rattle.tl_tree.proofs.Written.{frame-grown, frame-more, frames-length}
use Rattle.tl_tree.specs.Inner.Adopted.{placed, with_outer}
use Rattle.tl_tree.specs.Inner.Frames.{changed, frame_of, frames_of, is_frame, path_of, place_of}
use Rattle.tl_tree.specs.Inner.Store.{Grows}
use Rattle.tl_tree.specs.declared.frame.Frame.{Frame}
use Rattle.tl_tree.specs.declared.frame.Place.{Place}
use Rattle.tl_tree.specs.declared.path.FramePath.{FramePath}
use Rattle.tl_tree.specs.declared.store.Store.{Store}

-- frames in range are so where the store is greater
pub aside-within : (p m q : FramePath) (n : ℕ) (aside : List Frame) → m.store ≡ p.store → Grows m.store q.store → aside ≡ drop n p.frames.items → IsTrue (list_all (is_frame q) aside)
aside-within p m q n aside same g is =
    let grows = subst (λ (s : Store). Grows s q.store) same g in
    subst (λ (frames : List Frame). IsTrue (list_all (is_frame q) frames)) (sym is)
    (all-weaker (is_frame p) (is_frame q) (frame-more p.store q.store grows) (drop n p.frames.items) (all-drop (is_frame p) n p.frames.items p.within))

-- the path that is left
path-front : (p m : FramePath) (n : ℕ) → m.gaps.marks.items ≡ [] → m.frames.items ≡ take n p.frames.items → m.store ≡ p.store → path_of m ≡ reverse (take n (frames_of p))
unfolding frames_of
path-front p m n whole front same =
    path-whole m whole
    ∙ (ap (λ (s : Store). reverse (map (frame_of s) m.frames.items)) same
    ∙ (ap (λ frames. reverse (map (frame_of p.store) frames)) front
    ∙ ap reverse (map-take (frame_of p.store) n p.frames.items)))

-- with those that were set aside
frames-back : (p q r : FramePath) (n : ℕ) (aside : List Frame) → Grows p.store q.store → aside ≡ drop n p.frames.items → r.frames.items ≡ q.frames.items ++ aside → r.store ≡ q.store → frames_of r ≡ frames_of q ++ drop n (frames_of p)
unfolding frames_of
frames-back p q r n aside g is at same =
    ap (λ (s : Store). map (frame_of s) r.frames.items) same
    ∙ (ap (map (frame_of q.store)) (at ∙ ap (λ back. q.frames.items ++ back) is)
    ∙ (map-append (frame_of q.store) q.frames.items (drop n p.frames.items)
    ∙ ap (λ back. map (frame_of q.store) q.frames.items ++ back)
    (map-same (is_frame p) (frame_of q.store) (frame_of p.store) (frame-grown p.store q.store g) (drop n p.frames.items) (all-drop (is_frame p) n p.frames.items p.within)
    ∙ sym (drop-map (frame_of p.store) n p.frames.items))))

changed-seam : (change : dom.Frame → dom.Frame) (xs ys : List dom.Frame) → changed (length xs) change (xs ++ ys) ≡ xs ++ dom.on_top change ys
changed-seam change [] [] = refl
changed-seam change [] (y ∷ ys) = refl
changed-seam change (x ∷ xs) ys = ap (λ rest. x ∷ rest) (changed-seam change xs ys)

pub settled-outside : (p m q r t : FramePath) (n first : ℕ) (aside : List Frame) (passes : dom.Frame → Bool) (is_fostering : Bool) (target : Place) → m.gaps.marks.items ≡ [] → q.gaps.marks.items ≡ [] → m.frames.items ≡ take n p.frames.items → m.store ≡ p.store → aside ≡ drop n p.frames.items → path_of q ≡ dom.popped_while passes (path_of m) → Grows m.store q.store → place_of target ≡ dom.place_in is_fostering (path_of q) → first ≡ length q.frames.items → r.frames.items ≡ q.frames.items ++ aside → r.store ≡ q.store → frames_of t ≡ changed first (placed (place_of target)) (frames_of r) → frames_of t ≡ with_outer is_fostering (dom.popped_while passes (reverse (take n (frames_of p)))) (drop n (frames_of p))
settled-outside p m q r t n first aside passes is_fostering target whole left-whole front same is settled g at_place at_first at kept placed_at =
    let grows = subst (λ (s : Store). Grows s q.store) same g in
    let inner = drop n (frames_of p) in
    let change = placed (place_of target) in
    let outer : path_of q ≡ dom.popped_while passes (reverse (take n (frames_of p))) = settled ∙ ap (dom.popped_while passes) (path-front p m n whole front same) in
    placed_at
    ∙ (ap (λ (i : ℕ). changed i change (frames_of r)) (at_first ∙ sym (frames-length q))
    ∙ (ap (changed (length (frames_of q)) change) (frames-back p q r n aside grows is at kept)
    ∙ (changed-seam change (frames_of q) inner
    ∙ (ap (λ (place : dom.Place). frames_of q ++ dom.on_top (placed place) inner) at_place
    ∙ (ap (λ frames. frames ++ dom.on_top (placed (dom.place_in is_fostering (path_of q))) inner) (sym (ap reverse (path-whole q left-whole) ∙ reverse-reverse (frames_of q)))
    ∙ ap (λ path. with_outer is_fostering path inner) outer)))))
