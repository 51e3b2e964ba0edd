-- Frames of the code that are settled while they pass a test.
use Rattle.std.proofs.Common.{ap, arith, sym, ◌∙◌, ◌≡◌, ◌≤◌, ◌<◌, ◌-◌, ◌∷◌, [], Bool, IsTrue, List, cond, false, get_or, length, not, reverse, suc, take, true, zero, ℕ}
use Rattle.std.proofs.lemmas.Bool.{false≢true}
use Rattle.std.proofs.lemmas.List.{length-reverse}
use Rattle.tl_dom_spec.specs.Path as dom
use Rattle.tl_tree.proofs.Gone.{seen-last, there-none}
use Rattle.tl_tree.proofs.Settled.{is_settled, length-settled, popped-step, settled-one, settled-stop}
use Rattle.tl_tree.proofs.Written.{frame-at, frames-length}
use Rattle.tl_tree.specs.Inner.Frames.{around, frame_of, frames_of, path_of, seen}
use Rattle.tl_tree.specs.Inner.Gone.{is_first_there, there}
use Rattle.tl_tree.specs.declared.frame.Frame.{Frame}
use Rattle.tl_tree.specs.declared.path.FramePath.{FramePath}

-- the innermost frame, and what is around it
pub path-top : (p : FramePath) (n : ℕ) (f : Frame) → length p.frames.items ≡ suc n → f ≡ get_or p.frames.items n f → path_of p ≡ frame_of p.store f ∷ around p n
path-top p n f long is =
    let some = p.some in
    seen-last p.gaps.marks.items (frames_of p) n (frame_of p.store f) (frames-length p ∙ long) (omega arith)
    ∙ ap (λ x. x ∷ around p n) (frame-at p n f is)

-- the outermost one is there
pub first-there : {A : Type 0} (marks : List Bool) (xs : List A) (n : ℕ) → IsTrue (is_first_there marks) → 0 < n → n ≤ length xs → 0 < length (there marks (take n xs))
first-there marks xs zero first some h = absurd (omega arith)
first-there marks [] (suc n) first some h = absurd (omega arith)
first-there [] (x ∷ xs) (suc n) first some h = omega arith
first-there (true ∷ marks) (x ∷ xs) (suc n) first some h = absurd (false≢true first)
first-there (false ∷ marks) (x ∷ xs) (suc n) first some h = omega arith

pub some-around : (p : FramePath) (n : ℕ) → 0 < n → n ≤ length p.frames.items → 0 < length (around p n)
some-around p n some h =
    let many = frames-length p in
    let marks = p.gaps.marks.items in
    let own = first-there marks (frames_of p) n p.gaps.first some (omega arith) in
    let turned = length-reverse (there marks (take n (frames_of p))) in
    omega arith

settled-yes-by : (test : dom.Frame → Bool) (f : dom.Frame) (path : dom.Path) → 0 < length path → is_settled test f ≡ true → dom.popped_while test (f ∷ path) ≡ dom.popped_while test (dom.top_settled (f ∷ path))
settled-yes-by test f [] some h = absurd (omega arith)
settled-yes-by test f (g ∷ path) some h = popped-step test f g path h

pub settled-yes : (test : dom.Frame → Bool) (p : FramePath) (last : ℕ) (f : Frame) → length p.frames.items ≡ suc last → 0 < last → f ≡ get_or p.frames.items last f → is_settled test (frame_of p.store f) ≡ true → dom.popped_while test (path_of p) ≡ dom.popped_while test (dom.top_settled (path_of p))
settled-yes test p last f long some is h =
    let e = path-top p last f long is in
    ap (dom.popped_while test) e
    ∙ (settled-yes-by test (frame_of p.store f) (around p last) (some-around p last some (omega arith)) h
    ∙ sym (ap (λ path. dom.popped_while test (dom.top_settled path)) e))

pub settled-no : (test : dom.Frame → Bool) (p : FramePath) (n : ℕ) (f : Frame) → length p.frames.items ≡ suc n → f ≡ get_or p.frames.items n f → is_settled test (frame_of p.store f) ≡ false → dom.popped_while test (path_of p) ≡ path_of p
settled-no test p n f long is h =
    let e = path-top p n f long is in
    let own = frame_of p.store f ∷ around p n in
    ap (dom.popped_while test) e
    ∙ (settled-stop test own (frame_of p.store f) (around p n) h ∙ sym e)

pub path-alone : (p : FramePath) → length p.frames.items ≡ 1 → path_of p ≡ get_or (frames_of p) 0 dom.document ∷ []
path-alone p long =
    let some = p.some in
    seen-last p.gaps.marks.items (frames_of p) 0 dom.document (frames-length p ∙ long) (omega arith)
    ∙ ap (λ rest. get_or (frames_of p) 0 dom.document ∷ reverse rest) (there-none p.gaps.marks.items)

pub settled-only : (test : dom.Frame → Bool) (p : FramePath) → length p.frames.items ≡ 1 → dom.popped_while test (path_of p) ≡ path_of p
settled-only test p long =
    let e = path-alone p long in
    let own = get_or (frames_of p) 0 dom.document in
    ap (dom.popped_while test) e ∙ (settled-one test (own ∷ []) own ∙ sym e)

shorter : (path : dom.Path) → 1 < length path → length (dom.top_settled path) < length path
shorter [] h = absurd (omega arith)
shorter (f ∷ []) h = absurd (omega arith)
shorter (f ∷ g ∷ path) h = let many = length-settled f g path in omega arith

pub settle-shorter : (p q : FramePath) → 1 < length p.frames.items → path_of q ≡ dom.top_settled (path_of p) → length (path_of q) < length (path_of p)
settle-shorter p q h e =
    let n = length p.frames.items - 1 in
    let some = p.some in
    let long : length (frames_of p) ≡ suc n = frames-length p ∙ omega arith in
    let top = ap length (seen-last p.gaps.marks.items (frames_of p) n dom.document long (omega arith)) in
    let rest = some-around p n (omega arith) (omega arith) in
    let same = ap length e in
    let less = shorter (path_of p) (omega arith) in
    omega arith
