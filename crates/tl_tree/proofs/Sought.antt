-- A search through the stack, a frame further out with each step.
use Rattle.std.proofs.Common.{ap, arith, sym, ◌∙◌, ◌≡◌, ◌+◌, ◌<◌, ◌&&◌, ◌||◌, ◌∷◌, [], Bool, List, cond, false, get_or, length, not, refl, reverse, suc, take, true, ℕ}
use Rattle.std.proofs.Math.Seq.{take-suc}
use Rattle.std.proofs.lemmas.Bool.{false≢true}
use Rattle.std.proofs.lemmas.List.{reverse-append, take_all}
use Rattle.tl_dom_spec.specs.Path as dom
use Rattle.tl_tree.proofs.Gone.{elements-seen}
use Rattle.tl_tree.proofs.Written.{frame-at, frames-length}
use Rattle.tl_tree.specs.Inner.Frames.{frame_of, frames_of, path_of, sought}
use Rattle.tl_tree.specs.declared.frame.Frame.{Frame}
use Rattle.tl_tree.specs.declared.path.FramePath.{FramePath}

pub reverse-take : {A : Type 0} (xs : List A) (n : ℕ) (d : A) → n < length xs → reverse (take (suc n) xs) ≡ get_or xs n d ∷ reverse (take n xs)
reverse-take xs n d h = ap reverse (take-suc xs n d h) ∙ reverse-append (take n xs) (get_or xs n d ∷ [])

pub is-shut : (b : Bool) → not b ≡ true → b ≡ false
is-shut true h = absurd (false≢true h)
is-shut false h = refl

pub is-opened : (b : Bool) → not b ≡ false → b ≡ true
is-opened true h = refl
is-opened false h = absurd (false≢true (sym h))

pub sought-all : (test bounds : dom.Frame → Bool) (p : FramePath) (n : ℕ) → n ≡ length p.frames.items → dom.within test bounds (dom.elements (path_of p)) ≡ sought test bounds p n
unfolding sought
sought-all test bounds p n e =
    let many = frames-length p in
    ap (dom.within test bounds) (elements-seen p)
    ∙ ap (λ frames. dom.within test bounds (dom.elements (reverse frames))) (sym (take_all n (frames_of p) (omega arith)))

pub sought-none : (test bounds : dom.Frame → Bool) (p : FramePath) → sought test bounds p 0 ≡ false
unfolding sought
sought-none test bounds p = refl

-- what is around a frame
abbrev around : FramePath → ℕ → List dom.Frame
around p n = reverse (take n (frames_of p))

sought-from : (test bounds : dom.Frame → Bool) (p : FramePath) (n : ℕ) (f : Frame) → f ≡ get_or p.frames.items n f → n < length p.frames.items → sought test bounds p (n + 1) ≡ dom.within test bounds (cond f.is_open (frame_of p.store f ∷ dom.elements (around p n)) (dom.elements (around p n)))
unfolding sought
sought-from test bounds p n f is h =
    let many = frames-length p in
    let next : n + 1 ≡ suc n = omega arith in
    ap (λ i. dom.within test bounds (dom.elements (reverse (take i (frames_of p))))) next
    ∙ ap (λ path. dom.within test bounds (dom.elements path))
    (reverse-take (frames_of p) n (frame_of p.store f) (omega arith) ∙ ap (λ top. top ∷ around p n) (frame-at p n f is))

-- one that left the stack
pub sought-closed : (test bounds : dom.Frame → Bool) (p : FramePath) (n : ℕ) (f : Frame) → f ≡ get_or p.frames.items n f → n < length p.frames.items → f.is_open ≡ false → sought test bounds p (n + 1) ≡ sought test bounds p n
unfolding sought
sought-closed test bounds p n f is h closed =
    sought-from test bounds p n f is h
    ∙ ap (λ b. dom.within test bounds (cond b (frame_of p.store f ∷ dom.elements (around p n)) (dom.elements (around p n)))) closed

-- one of the stack: what the search says there
sought-open : (test bounds : dom.Frame → Bool) (p : FramePath) (n : ℕ) (f : Frame) → f ≡ get_or p.frames.items n f → n < length p.frames.items → f.is_open ≡ true → sought test bounds p (n + 1) ≡ (test (frame_of p.store f) || (not (bounds (frame_of p.store f)) && sought test bounds p n))
unfolding sought
sought-open test bounds p n f is h opened =
    sought-from test bounds p n f is h
    ∙ ap (λ b. dom.within test bounds (cond b (frame_of p.store f ∷ dom.elements (around p n)) (dom.elements (around p n)))) opened

pub sought-found : (test bounds : dom.Frame → Bool) (p : FramePath) (n : ℕ) (f : Frame) → f ≡ get_or p.frames.items n f → n < length p.frames.items → f.is_open ≡ true → test (frame_of p.store f) ≡ true → sought test bounds p (n + 1) ≡ true
sought-found test bounds p n f is h opened passes =
    sought-open test bounds p n f is h opened
    ∙ ap (λ b. b || (not (bounds (frame_of p.store f)) && sought test bounds p n)) passes

pub sought-bound : (test bounds : dom.Frame → Bool) (p : FramePath) (n : ℕ) (f : Frame) → f ≡ get_or p.frames.items n f → n < length p.frames.items → f.is_open ≡ true → test (frame_of p.store f) ≡ false → bounds (frame_of p.store f) ≡ true → sought test bounds p (n + 1) ≡ false
sought-bound test bounds p n f is h opened fails ends =
    sought-open test bounds p n f is h opened
    ∙ (ap (λ b. b || (not (bounds (frame_of p.store f)) && sought test bounds p n)) fails
    ∙ ap (λ b. not b && sought test bounds p n) ends)

pub sought-on : (test bounds : dom.Frame → Bool) (p : FramePath) (n : ℕ) (f : Frame) → f ≡ get_or p.frames.items n f → n < length p.frames.items → f.is_open ≡ true → test (frame_of p.store f) ≡ false → bounds (frame_of p.store f) ≡ false → sought test bounds p (n + 1) ≡ sought test bounds p n
sought-on test bounds p n f is h opened fails goes =
    sought-open test bounds p n f is h opened
    ∙ (ap (λ b. b || (not (bounds (frame_of p.store f)) && sought test bounds p n)) fails
    ∙ ap (λ b. not b && sought test bounds p n) goes)
