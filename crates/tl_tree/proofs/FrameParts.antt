-- Frames that are written with other rows.
use Rattle.std.proofs.Common.{IsTrue, List, ap, arith, get_or, length, subst, sym, ℕ, ◌<◌, ◌∙◌, ◌≡◌}
use Rattle.std.proofs.lemmas.Bool.{le-leb, leb-true}
use Rattle.tl_tree.proofs.Entering.{same-there}
use Rattle.tl_tree.proofs.Written.{all-at, frame-more, of-parts, parts-of}
use Rattle.tl_tree.specs.Inner.Framed.{frame_is_within}
use Rattle.tl_tree.specs.Inner.Frames.{is_frame}
use Rattle.tl_tree.specs.Inner.Store.{Grows, is_row}
use Rattle.tl_tree.specs.declared.frame.Frame.{Frame}
use Rattle.tl_tree.specs.declared.path.FramePath.{FramePath}
use Rattle.tl_tree.specs.declared.store.Store.{Store}

pub with-children : (s t : Store) → Grows s t → (f : Frame) (row : ℕ) → IsTrue (frame_is_within (length s.tags.items) (length s.cells.items) f) → IsTrue (is_row t row) → IsTrue (frame_is_within (length t.tags.items) (length t.cells.items) (record f { children = row }))
with-children s t g f row h own =
    let p = parts-of t f (frame-more s t g f h) in
    of-parts t (record f { children = row }) p.tag (leb-true row (length t.cells.items) own) p.late p.waiting

pub with-joined : (s t : Store) → Grows s t → (f : Frame) (row : ℕ) → IsTrue (frame_is_within (length s.tags.items) (length s.cells.items) f) → IsTrue (is_row t row) → IsTrue (frame_is_within (length t.tags.items) (length t.cells.items) (record f { children = row; waiting = 0 }))
with-joined s t g f row h own =
    let p = parts-of t f (frame-more s t g f h) in
    of-parts t (record f { children = row; waiting = 0 }) p.tag (leb-true row (length t.cells.items) own) p.late (omega arith)

pub with-late : (s t : Store) → Grows s t → (f : Frame) (row : ℕ) → IsTrue (frame_is_within (length s.tags.items) (length s.cells.items) f) → IsTrue (is_row t row) → IsTrue (frame_is_within (length t.tags.items) (length t.cells.items) (record f { late = row }))
with-late s t g f row h own =
    let p = parts-of t f (frame-more s t g f h) in
    of-parts t (record f { late = row }) p.tag p.children (leb-true row (length t.cells.items) own) p.waiting

pub with-waiting : (s t : Store) → Grows s t → (f : Frame) (row : ℕ) → IsTrue (frame_is_within (length s.tags.items) (length s.cells.items) f) → IsTrue (is_row t row) → IsTrue (frame_is_within (length t.tags.items) (length t.cells.items) (record f { waiting = row }))
with-waiting s t g f row h own =
    let p = parts-of t f (frame-more s t g f h) in
    of-parts t (record f { waiting = row }) p.tag p.children p.late (leb-true row (length t.cells.items) own)

-- what a frame has is in the store
pub row-of-children : (s : Store) (f : Frame) → IsTrue (frame_is_within (length s.tags.items) (length s.cells.items) f) → IsTrue (is_row s f.children)
row-of-children s f h = le-leb f.children (length s.cells.items) (parts-of s f h).children

pub row-of-waiting : (s : Store) (f : Frame) → IsTrue (frame_is_within (length s.tags.items) (length s.cells.items) f) → IsTrue (is_row s f.waiting)
row-of-waiting s f h = le-leb f.waiting (length s.cells.items) (parts-of s f h).waiting

pub frame-there : (p : FramePath) (i : ℕ) (f : Frame) → f ≡ get_or p.frames.items i f → i < length p.frames.items → IsTrue (is_frame p f)
frame-there p i f is h = all-at (is_frame p) p.frames.items i f f is h p.within

-- where a store grows, and another one is that
pub grows-on : (s m q : Store) → Grows s m → q ≡ m → Grows s q
grows-on s m q g e = subst (λ (t : Store). Grows s t) (sym e) g

-- the one that is written has the number of the one that was there
pub number-kept : (frames now : List Frame) (i : ℕ) (f own d : Frame) → now ≡ frames → f ≡ get_or frames i f → i < length frames → own.number ≡ f.number → own.number ≡ (get_or now i d).number
number-kept frames now i f own d same is h number =
    let there : f ≡ get_or now i d = same-there frames i f d is h ∙ ap (λ (xs : List Frame). get_or xs i d) (sym same) in
    number ∙ ap (λ (it : Frame). it.number) there
