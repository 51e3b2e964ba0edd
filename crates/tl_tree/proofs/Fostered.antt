-- Where a node is foster parented, a frame further out with each step.
use Rattle.std.proofs.Common.{ap, arith, sym, ◌∙◌, ◌≡◌, ◌+◌, ◌<◌, ◌&&◌, ◌∷◌, [], Bool, List, cond, false, get_or, length, refl, reverse, suc, take, true, ℕ}
use Rattle.std.proofs.lemmas.List.{take_all}
use Rattle.tl_dom_spec.specs.Path as dom
use Rattle.tl_dom_spec.specs.Tags.{is_table, is_template}
use Rattle.tl_tree.proofs.Gone.{seen-next, shut-at, there-none}
use Rattle.tl_tree.proofs.Written.{frame-at, frames-length}
use Rattle.tl_tree.specs.Inner.Adopted.{frame_at}
use Rattle.tl_tree.specs.Inner.Frames.{around, fostered, frame_of, frames_of, path_of, seen}
use Rattle.tl_tree.specs.declared.frame.Frame.{Frame}
use Rattle.tl_tree.specs.declared.path.FramePath.{FramePath}

pub fostered-all : (p : FramePath) (n : ℕ) → n ≡ length p.frames.items → dom.foster_place (path_of p) ≡ fostered p n
unfolding fostered
fostered-all p n e =
    let many = frames-length p in
    ap (λ frames. dom.foster_place (seen p.gaps.marks.items frames)) (sym (take_all n (frames_of p) (omega arith)))

pub fostered-none : (p : FramePath) → fostered p 0 ≡ dom.behind 1
unfolding fostered
fostered-none p = ap (λ frames. dom.foster_place (reverse frames)) (there-none p.gaps.marks.items)

-- a frame, whether it is gone or not
around-from : (p : FramePath) (n : ℕ) (f : Frame) (gone : Bool) → f ≡ get_or p.frames.items n f → n < length p.frames.items → get_or p.gaps.marks.items n false ≡ gone → around p (n + 1) ≡ cond gone (around p n) (frame_of p.store f ∷ around p n)
around-from p n f gone is h e =
    let many = frames-length p in
    let next : n + 1 ≡ suc n = omega arith in
    ap (around p) next
    ∙ (seen-next p.gaps.marks.items (frames_of p) n (frame_of p.store f) (omega arith) gone e
    ∙ ap (λ own. cond gone (around p n) (own ∷ around p n)) (frame-at p n f is))

fostered-from : (p : FramePath) (n : ℕ) (f : Frame) → f ≡ get_or p.frames.items n f → n < length p.frames.items → get_or p.gaps.marks.items n false ≡ false → fostered p (n + 1) ≡ dom.foster_place (frame_of p.store f ∷ around p n)
unfolding fostered
fostered-from p n f is h stands = ap dom.foster_place (around-from p n f false is h stands)

-- what a frame says, by three tests of it
said : (p : FramePath) (n : ℕ) (f : Frame) (opened template table : Bool) → f ≡ get_or p.frames.items n f → n < length p.frames.items → get_or p.gaps.marks.items n false ≡ false → f.is_open ≡ opened → is_template (frame_of p.store f).tag ≡ template → is_table (frame_of p.store f).tag ≡ table → fostered p (n + 1) ≡ cond (opened && template) (dom.behind f.number) (cond (opened && table) (dom.place_of (frame_of p.store f).place (around p n)) (fostered p n))
unfolding fostered
said p n f opened template table is h stands a b c =
    let own = frame_of p.store f in
    fostered-from p n f is h stands
    ∙ (ap (λ x. cond (x && is_template own.tag) (dom.behind f.number) (cond (x && is_table own.tag) (dom.place_of own.place (around p n)) (dom.foster_place (around p n)))) a
    ∙ (ap (λ x. cond (opened && x) (dom.behind f.number) (cond (opened && is_table own.tag) (dom.place_of own.place (around p n)) (dom.foster_place (around p n)))) b
    ∙ ap (λ x. cond (opened && template) (dom.behind f.number) (cond (opened && x) (dom.place_of own.place (around p n)) (dom.foster_place (around p n)))) c))

pub fostered-closed : (p : FramePath) (n : ℕ) (f : Frame) → f ≡ get_or p.frames.items n f → n < length p.frames.items → f.is_open ≡ false → fostered p (n + 1) ≡ fostered p n
unfolding fostered
fostered-closed p n f is h a = by-gone (get_or p.gaps.marks.items n false) refl
  where
    by-gone : (gone : Bool) → get_or p.gaps.marks.items n false ≡ gone → fostered p (n + 1) ≡ fostered p n
    by-gone true e = ap dom.foster_place (around-from p n f true is h e)
    by-gone false e =
        said p n f false (is_template (frame_of p.store f).tag) (is_table (frame_of p.store f).tag) is h e a refl refl

pub fostered-template : (p : FramePath) (n : ℕ) (f : Frame) → f ≡ get_or p.frames.items n f → n < length p.frames.items → f.is_open ≡ true → is_template (frame_of p.store f).tag ≡ true → fostered p (n + 1) ≡ dom.behind f.number
fostered-template p n f is h a b =
    said p n f true true (is_table (frame_of p.store f).tag) is h (shut-at p.gaps.marks.items p.frames.items n f p.shut is h a) a b refl

pub fostered-table : (p : FramePath) (n : ℕ) (f : Frame) → f ≡ get_or p.frames.items n f → n < length p.frames.items → f.is_open ≡ true → is_template (frame_of p.store f).tag ≡ false → is_table (frame_of p.store f).tag ≡ true → fostered p (n + 1) ≡ dom.place_of (frame_of p.store f).place (around p n)
fostered-table p n f is h a b c =
    said p n f true false true is h (shut-at p.gaps.marks.items p.frames.items n f p.shut is h a) a b c

pub fostered-on : (p : FramePath) (n : ℕ) (f : Frame) → f ≡ get_or p.frames.items n f → n < length p.frames.items → f.is_open ≡ true → is_template (frame_of p.store f).tag ≡ false → is_table (frame_of p.store f).tag ≡ false → fostered p (n + 1) ≡ fostered p n
fostered-on p n f is h a b c =
    said p n f true false false is h (shut-at p.gaps.marks.items p.frames.items n f p.shut is h a) a b c

-- the frame around
pub around-gone : (p : FramePath) (n : ℕ) → n < length p.frames.items → get_or p.gaps.marks.items n false ≡ true → around p (n + 1) ≡ around p n
around-gone p n h gone =
    let many = frames-length p in
    let next : n + 1 ≡ suc n = omega arith in
    ap (around p) next
    ∙ seen-next p.gaps.marks.items (frames_of p) n dom.document (omega arith) true gone

pub around-there : (p : FramePath) (n : ℕ) → n < length p.frames.items → get_or p.gaps.marks.items n false ≡ false → around p (n + 1) ≡ frame_at p n ∷ around p n
around-there p n h stands =
    let many = frames-length p in
    let next : n + 1 ≡ suc n = omega arith in
    ap (around p) next
    ∙ seen-next p.gaps.marks.items (frames_of p) n dom.document (omega arith) false stands

pub around-none : (p : FramePath) → around p 0 ≡ []
around-none p = ap reverse (there-none p.gaps.marks.items)
