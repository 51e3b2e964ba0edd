-- A walk over the stack of open elements, from the innermost out.
use Rattle.std.proofs.Common.{ap, arith, sym, ◌∙◌, ◌≡◌, ◌<◌, ◌∷◌, [], List, cond, false, get_or, length, refl, reverse, suc, take, true, ℕ}
use Rattle.std.specs.Char.{to_ascii_lowercase}
use Rattle.std.specs.Prelude.{map}
use Rattle.std.specs.Str.{bytes_eq}
use Rattle.std.proofs.lemmas.List.{get_or-map, take_all}
use Rattle.tl_dom_spec.specs.Dispatcher.{by_mode, found_in, the_frame}
use Rattle.tl_dom_spec.specs.Path as dom
use Rattle.tl_dom_spec.specs.Tags.{is_html}
use Rattle.tl_tree.proofs.Gone.{elements-seen}
use Rattle.tl_tree.proofs.Sought.{reverse-take}
use Rattle.tl_tree.proofs.Written.{frame-at, frames-length}
use Rattle.tl_tree.specs.Inner.Found.{framed, stack_to}
use Rattle.tl_tree.specs.Inner.Frames.{frame_of, frames_of, path_of}
use Rattle.tl_tree.specs.declared.frame.Frame.{Frame}
use Rattle.tl_tree.specs.declared.path.FramePath.{FramePath}

pub framed-is : (p : FramePath) (n : ℕ) (f : Frame) → f ≡ get_or p.frames.items n f → n < length p.frames.items → framed p n ≡ frame_of p.store f
unfolding framed frames_of
framed-is p n f is h =
    get_or-map (frame_of p.store) p.frames.items n f dom.document h ∙ ap (frame_of p.store) (sym is)

pub stacked-all : (p : FramePath) (n : ℕ) → n ≡ length p.frames.items → dom.elements (path_of p) ≡ stack_to p n
unfolding stack_to
stacked-all p n e =
    let many = frames-length p in
    elements-seen p
    ∙ ap (λ frames. dom.elements (reverse frames)) (sym (take_all n (frames_of p) (omega arith)))

pub stacked-none : (p : FramePath) → stack_to p 0 ≡ []
unfolding stack_to
stacked-none p = refl

stacked-from : (p : FramePath) (n : ℕ) (f : Frame) → f ≡ get_or p.frames.items n f → n < length p.frames.items → stack_to p (suc n) ≡ cond f.is_open (frame_of p.store f ∷ stack_to p n) (stack_to p n)
unfolding stack_to
stacked-from p n f is h =
    let many = frames-length p in
    ap dom.elements
    (reverse-take (frames_of p) n (frame_of p.store f) (omega arith)
    ∙ ap (λ top. top ∷ reverse (take n (frames_of p))) (frame-at p n f is))

-- one that left the stack
pub stacked-closed : (p : FramePath) (n : ℕ) (f : Frame) → f ≡ get_or p.frames.items n f → n < length p.frames.items → f.is_open ≡ false → stack_to p (suc n) ≡ stack_to p n
stacked-closed p n f is h closed =
    stacked-from p n f is h ∙ ap (λ b. cond b (frame_of p.store f ∷ stack_to p n) (stack_to p n)) closed

-- one of the stack
pub stacked-open : (p : FramePath) (n : ℕ) (f : Frame) → f ≡ get_or p.frames.items n f → n < length p.frames.items → f.is_open ≡ true → stack_to p (suc n) ≡ framed p n ∷ stack_to p n
stacked-open p n f is h opened =
    stacked-from p n f is h ∙ ap (λ b. cond b (frame_of p.store f ∷ stack_to p n) (stack_to p n)) opened
    ∙ ap (λ (top : dom.Frame). top ∷ stack_to p n) (sym (framed-is p n f is h))

-- what is found at an element and the next one further out

pub found-named : (name : List ℕ) (f g : dom.Frame) (fs : List dom.Frame) → bytes_eq (map to_ascii_lowercase f.tag.name) name ≡ true → found_in name (f ∷ g ∷ fs) ≡ the_frame f.number
found-named name f g fs e =
    ap (λ b. cond b (the_frame f.number) (cond (is_html g.tag) by_mode (found_in name (g ∷ fs)))) e

pub found-other : (name : List ℕ) (f g : dom.Frame) (fs : List dom.Frame) → bytes_eq (map to_ascii_lowercase f.tag.name) name ≡ false → found_in name (f ∷ g ∷ fs) ≡ cond (is_html g.tag) by_mode (found_in name (g ∷ fs))
found-other name f g fs e =
    ap (λ b. cond b (the_frame f.number) (cond (is_html g.tag) by_mode (found_in name (g ∷ fs)))) e

pub found-html : (name : List ℕ) (f g : dom.Frame) (fs : List dom.Frame) → bytes_eq (map to_ascii_lowercase f.tag.name) name ≡ false → is_html g.tag ≡ true → found_in name (f ∷ g ∷ fs) ≡ by_mode
found-html name f g fs e h =
    found-other name f g fs e ∙ ap (λ b. cond b by_mode (found_in name (g ∷ fs))) h

pub found-on : (name : List ℕ) (f g : dom.Frame) (fs : List dom.Frame) → bytes_eq (map to_ascii_lowercase f.tag.name) name ≡ false → is_html g.tag ≡ false → found_in name (f ∷ g ∷ fs) ≡ found_in name (g ∷ fs)
found-on name f g fs e h =
    found-other name f g fs e ∙ ap (λ b. cond b by_mode (found_in name (g ∷ fs))) h
