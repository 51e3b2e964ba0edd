-- The furthest block and the common ancestor, a frame further out with each step.
use Rattle.std.proofs.Common.{ap, arith, sym, ◌∙◌, ◌≡◌, ◌+◌, ◌<◌, ◌&&◌, ◌∷◌, Bool, List, None, Option, Some, cond, false, get_or, length, nat_eq, refl, reverse, suc, take, true, ℕ}
use Rattle.std.proofs.lemmas.Bool.{and_parts}
use Rattle.std.proofs.lemmas.List.{get_or_read, take_all}
use Rattle.tl_dom_spec.specs.Adoption.{first, outermost}
use Rattle.tl_dom_spec.specs.Path as dom
use Rattle.tl_dom_spec.specs.Tags.{Tag}
use Rattle.tl_tree.proofs.Gone.{elements-seen}
use Rattle.tl_tree.proofs.Sought.{reverse-take}
use Rattle.tl_tree.proofs.Written.{frame-at, frames-length}
use Rattle.tl_tree.specs.Inner.Adopted.{frame_at, frame_found, furthest, innermost_number, is_element_of, number_of}
use Rattle.tl_tree.specs.Inner.Frames.{frame_of, frames_of, path_of}
use Rattle.tl_tree.specs.declared.frame.Frame.{Frame}
use Rattle.tl_tree.specs.declared.path.FramePath.{FramePath}

pub frame-there : (p : FramePath) (n : ℕ) (f : Frame) → f ≡ get_or p.frames.items n f → n < length p.frames.items → frame_at p n ≡ frame_of p.store f
frame-there p n f is h =
    let many = frames-length p in
    sym (get_or_read (frames_of p) n (frame_of p.store f) (omega arith) (sym (frame-at p n f is)) dom.document)

-- the elements around a frame
abbrev around : FramePath → ℕ → List dom.Frame
around p n = dom.elements (reverse (take n (frames_of p)))

elements-from : (p : FramePath) (n : ℕ) → n < length p.frames.items → around p (n + 1) ≡ cond (frame_at p n).is_open (frame_at p n ∷ around p n) (around p n)
elements-from p n h =
    let many = frames-length p in
    let next : n + 1 ≡ suc n = omega arith in
    ap (around p) next
    ∙ ap dom.elements (reverse-take (frames_of p) n dom.document (omega arith))

pub elements-closed : (p : FramePath) (n : ℕ) → n < length p.frames.items → (frame_at p n).is_open ≡ false → around p (n + 1) ≡ around p n
elements-closed p n h closed =
    elements-from p n h ∙ ap (λ b. cond b (frame_at p n ∷ around p n) (around p n)) closed

pub elements-open : (p : FramePath) (n : ℕ) → n < length p.frames.items → (frame_at p n).is_open ≡ true → around p (n + 1) ≡ frame_at p n ∷ around p n
elements-open p n h opened =
    elements-from p n h ∙ ap (λ b. cond b (frame_at p n ∷ around p n) (around p n)) opened

pub elements-all : (p : FramePath) (n : ℕ) → n ≡ length p.frames.items → dom.elements (path_of p) ≡ around p n
elements-all p n e =
    let many = frames-length p in
    elements-seen p
    ∙ ap (λ frames. dom.elements (reverse frames)) (sym (take_all n (frames_of p) (omega arith)))

-- The furthest block

pub furthest-all : (test : Tag → Bool) (k : ℕ) (p : FramePath) (n : ℕ) → n ≡ length p.frames.items → outermost test k None (dom.elements (path_of p)) ≡ furthest test k p None n
unfolding furthest
furthest-all test k p n e = ap (outermost test k None) (elements-all p n e)

pub furthest-none : (test : Tag → Bool) (k : ℕ) (p : FramePath) (found : Option ℕ) → furthest test k p found 0 ≡ None
unfolding furthest
furthest-none test k p found = refl

pub furthest-own : (test : Tag → Bool) (k : ℕ) (p : FramePath) (found : Option ℕ) (n : ℕ) → n < length p.frames.items → is_element_of k (frame_at p n) ≡ true → furthest test k p found (n + 1) ≡ frame_found p found
unfolding furthest
furthest-own test k p found n h own =
    let f = frame_at p n in
    let parts = and_parts f.is_open (nat_eq f.number k) own in
    ap (outermost test k (frame_found p found)) (elements-open p n h parts.0)
    ∙ ap (λ b. cond b (frame_found p found) (outermost test k (cond (test f.tag) (Some f) (frame_found p found)) (around p n))) parts.1

pub furthest-closed : (test : Tag → Bool) (k : ℕ) (p : FramePath) (found : Option ℕ) (n : ℕ) → n < length p.frames.items → (frame_at p n).is_open ≡ false → furthest test k p found (n + 1) ≡ furthest test k p found n
unfolding furthest
furthest-closed test k p found n h closed =
    ap (outermost test k (frame_found p found)) (elements-closed p n h closed)

-- an element of another number
other-number : (opened own : Bool) → opened ≡ true → (opened && own) ≡ false → own ≡ false
other-number opened own e h = sym (ap (λ b. b && own) e) ∙ h

furthest-other : (test : Tag → Bool) (k : ℕ) (p : FramePath) (found : Option ℕ) (n : ℕ) → n < length p.frames.items → (frame_at p n).is_open ≡ true → is_element_of k (frame_at p n) ≡ false → furthest test k p found (n + 1) ≡ outermost test k (cond (test (frame_at p n).tag) (Some (frame_at p n)) (frame_found p found)) (around p n)
unfolding furthest
furthest-other test k p found n h opened other =
    let f = frame_at p n in
    ap (outermost test k (frame_found p found)) (elements-open p n h opened)
    ∙ ap (λ b. cond b (frame_found p found) (outermost test k (cond (test f.tag) (Some f) (frame_found p found)) (around p n))) (other-number f.is_open (nat_eq f.number k) opened other)

pub furthest-further : (test : Tag → Bool) (k : ℕ) (p : FramePath) (found : Option ℕ) (n : ℕ) → n < length p.frames.items → (frame_at p n).is_open ≡ true → is_element_of k (frame_at p n) ≡ false → test (frame_at p n).tag ≡ true → furthest test k p found (n + 1) ≡ furthest test k p (Some n) n
unfolding furthest
furthest-further test k p found n h opened other passes =
    furthest-other test k p found n h opened other
    ∙ ap (λ b. outermost test k (cond b (Some (frame_at p n)) (frame_found p found)) (around p n)) passes

pub furthest-on : (test : Tag → Bool) (k : ℕ) (p : FramePath) (found : Option ℕ) (n : ℕ) → n < length p.frames.items → (frame_at p n).is_open ≡ true → is_element_of k (frame_at p n) ≡ false → test (frame_at p n).tag ≡ false → furthest test k p found (n + 1) ≡ furthest test k p found n
unfolding furthest
furthest-on test k p found n h opened other fails =
    furthest-other test k p found n h opened other
    ∙ ap (λ b. outermost test k (cond b (Some (frame_at p n)) (frame_found p found)) (around p n)) fails

-- The innermost element outside of a place

pub innermost-closed : (p : FramePath) (n : ℕ) → n < length p.frames.items → (frame_at p n).is_open ≡ false → innermost_number p (n + 1) ≡ innermost_number p n
unfolding innermost_number
innermost-closed p n h closed = ap (λ fs. number_of (first fs)) (elements-closed p n h closed)

pub innermost-open : (p : FramePath) (n : ℕ) → n < length p.frames.items → (frame_at p n).is_open ≡ true → innermost_number p (n + 1) ≡ Some (frame_at p n).number
unfolding innermost_number
innermost-open p n h opened = ap (λ fs. number_of (first fs)) (elements-open p n h opened)

pub innermost-none : (p : FramePath) → innermost_number p 0 ≡ None
unfolding innermost_number
innermost-none p = refl

pub innermost-at : (p : FramePath) (n : ℕ) → innermost_number p n ≡ number_of (first (around p n))
unfolding innermost_number
innermost-at p n = refl
