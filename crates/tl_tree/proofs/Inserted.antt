-- Frames that are put on the path.
use Rattle.std.proofs.Common.{ap, arith, subst, sym, ◌∙◌, ◌≡◌, ◌++◌, ◌<◌, ◌∷◌, [], Err, IsTrue, Ok, OnOk, Result, false, get_or, length, map, refl, reverse, set, suc, true, ℕ}
use Rattle.std.proofs.lemmas.Bool.{ltb-true}
use Rattle.std.proofs.lemmas.List.{length-map, map-append, reverse-append}
use Rattle.tl_dom_spec.specs.Builder.{pushed_at}
use Rattle.tl_dom_spec.specs.Path as dom
use Rattle.tl_tree.proofs.Gone.{path-by, seen-changed, there-push}
use Rattle.tl_tree.proofs.Grown.{grows_refl, nodes-none, tag-at-grown}
use Rattle.tl_tree.proofs.Listed.{begins-longer}
use Rattle.tl_tree.proofs.Within.{lt-more}
use Rattle.tl_tree.proofs.Written.{children-none, frame-written, frames-length, same-frame}
use Rattle.tl_tree.specs.Inner.Frames.{changed, closed, frame_of, frames_of, path_of, place_of, seen}
use Rattle.tl_tree.specs.Inner.Gone.{there}
use Rattle.tl_tree.specs.Inner.Store.{Grows, is_tag_number, nodes_of, tag_at}
use Rattle.tl_tree.specs.declared.frame.Frame.{Frame}
use Rattle.tl_tree.specs.declared.frame.Place.{Place}
use Rattle.tl_tree.specs.declared.path.FramePath.{FramePath}
use Rattle.tl_tree.specs.declared.store.Store.{Store}

pub new-frame : (s : Store) (number tag : ℕ) (place : Place) → frame_of s (record { number = number; tag = tag; children = 0; late = 0; waiting = 0; place = place; is_open = true }) ≡ dom.new_frame number (tag_at s tag) (place_of place)
new-frame s number tag place =
    same-frame number (place_of place) true (tag_at s tag) (tag_at s tag) (dom.at_head (nodes_of s 0) (nodes_of s 0)) dom.no_nodes (nodes_of s 0) dom.no_nodes refl (children-none s) (nodes-none s)

pushed-path : (p q : FramePath) (number tag : ℕ) (place : Place) → q.frames.items ≡ p.frames.items ++ record { number = number; tag = tag; children = 0; late = 0; waiting = 0; place = place; is_open = true } ∷ [] → q.store ≡ p.store → q.gaps ≡ p.gaps → path_of q ≡ dom.new_frame number (tag_at p.store tag) (place_of place) ∷ path_of p
unfolding frames_of
pushed-path p q number tag place e same gaps =
    let f : Frame = record { number = number; tag = tag; children = 0; late = 0; waiting = 0; place = place; is_open = true } in
    let marks = p.gaps.marks.items in
    let own = map (frame_of p.store) p.frames.items in
    let some = p.some in
    let many = length-map p.frames.items (frame_of p.store) in
    path-by p q gaps
    ∙ (ap (λ (s : Store). seen marks (map (frame_of s) q.frames.items)) same
    ∙ (ap (λ frames. seen marks (map (frame_of p.store) frames)) e
    ∙ (ap (seen marks) (map-append (frame_of p.store) p.frames.items (f ∷ []))
    ∙ (ap reverse (there-push marks own (frame_of p.store f ∷ []) (omega arith))
    ∙ (reverse-append (there marks own) (frame_of p.store f ∷ [])
    ∙ ap (λ top. top ∷ seen marks own) (new-frame p.store number tag place))))))

-- where the new frame is entered too
pub pushed-ok : {T E : Type 0} (r : Result T E) (p q : FramePath) (number tag : ℕ) (place : Place) → q.frames.items ≡ p.frames.items ++ record { number = number; tag = tag; children = 0; late = 0; waiting = 0; place = place; is_open = true } ∷ [] → q.store ≡ p.store → q.gaps ≡ p.gaps → OnOk r (path_of q ≡ dom.new_frame number (tag_at p.store tag) (place_of place) ∷ path_of p)
pushed-ok (Ok x) p q number tag place e same gaps = pushed-path p q number tag place e same gaps
pushed-ok (Err x) p q number tag place e same gaps = tt

-- what waited in the innermost frame stands before the new one
pub pushed-on-top : (p m q : FramePath) (n number tag : ℕ) → Grows p.store m.store → IsTrue (is_tag_number p.store tag) → length p.frames.items ≡ suc n → m.next ≡ number → m.gaps ≡ p.gaps → frames_of m ≡ changed n dom.caught_up (frames_of p) → path_of q ≡ dom.new_frame m.next (tag_at m.store tag) dom.here ∷ path_of m → path_of q ≡ pushed_at dom.here (dom.new_frame number (tag_at p.store tag) dom.here) (path_of p)
pushed-on-top p m q n number tag g h long next same caught pushed =
    let some = p.some in
    pushed
    ∙ (ap (λ k. dom.new_frame k (tag_at m.store tag) dom.here ∷ path_of m) next
    ∙ (ap (λ own. dom.new_frame number own dom.here ∷ path_of m) (tag-at-grown p.store m.store g tag (ltb-true tag (length p.store.tags.items) h))
    ∙ ap (λ path. dom.new_frame number (tag_at p.store tag) dom.here ∷ path)
    (path-by p m same ∙ (ap (seen p.gaps.marks.items) caught ∙ seen-changed p.gaps.marks.items dom.caught_up (frames_of p) n (frames-length p ∙ long) (omega arith)))))

-- an element leaves the stack
pub closed-at : (p q : FramePath) (i : ℕ) (f : Frame) → q.store ≡ p.store → q.frames.items ≡ set p.frames.items i (record f { is_open = false }) → f ≡ get_or p.frames.items i f → i < length p.frames.items → frames_of q ≡ changed i closed (frames_of p)
closed-at p q i f same at is h =
    let new : Frame = record f { is_open = false } in
    let grows = subst (λ (s : Store). Grows p.store s) (sym same) (grows_refl p.store) in
    frame-written p q grows i f new closed at is h (ap (λ (s : Store). frame_of s new) same)

pub tag-number-grown : (s t : Store) → Grows s t → (tag : ℕ) → IsTrue (is_tag_number s tag) → IsTrue (is_tag_number t tag)
tag-number-grown s t g tag h =
    lt-more tag (length s.tags.items) (length t.tags.items) h (begins-longer s.tags.items t.tags.items g.tags)
