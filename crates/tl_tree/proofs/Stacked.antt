-- What single rules ask of a path of frames, and what they change in it.
use Rattle.std.proofs.Common.{ap, arith, subst, sym, ◌∙◌, ◌≡◌, ◌+◌, ◌≤◌, ◌<◌, ◌++◌, ◌∷◌, [], Bool, List, None, Some, codes, cond, drop, false, get_or, length, map, nat_eq, refl, reverse, set, slice_get, suc, take, true, zero, ℕ}
use Rattle.std.proofs.lemmas.List.{drop_all, drop_more, get_or-map, get_or_default, reverse-append}
use Rattle.tl_dom_spec.specs.Body.{body_number, from_html}
use Rattle.tl_dom_spec.specs.Builder.{is_only, with_more}
use Rattle.tl_dom_spec.specs.Path as dom
use Rattle.tl_dom_spec.specs.Tags.{Attribute, Tag, is_any}
use Rattle.tl_tree.proofs.Gone.{elements-seen, filter-reverse, path-by}
use Rattle.tl_tree.proofs.Grown.{grows_refl, tag-at-grown}
use Rattle.tl_tree.proofs.KnownNames.{same-number}
use Rattle.tl_tree.proofs.Listed.{begins-longer}
use Rattle.tl_tree.proofs.Numbered.{changed-number}
use Rattle.tl_tree.proofs.Popped.{path-alone, path-top, some-around}
use Rattle.tl_tree.proofs.Written.{frame-at, frame-written, frames-grown, frames-length}
use Rattle.tl_tree.specs.Inner.Adopted.{frame_at}
use Rattle.tl_tree.specs.Inner.Entered.{role_at}
use Rattle.tl_tree.specs.Inner.Framed.{numbers}
use Rattle.tl_tree.specs.Inner.Frames.{around, changed, frame_of, frames_of, path_of, seen}
use Rattle.tl_tree.specs.Inner.NameNumbers.{number_at}
use Rattle.tl_tree.specs.Inner.Roles.{role_of}
use Rattle.tl_tree.specs.Inner.Stack.{inner, opened_from, retagged, retagged_by, tag_in}
use Rattle.tl_tree.specs.Inner.Store.{Grows, tag_at}
use Rattle.tl_tree.specs.declared.frame.Frame.{Frame}
use Rattle.tl_tree.specs.declared.path.FramePath.{FramePath}
use Rattle.tl_tree.specs.declared.store.Store.{Store}

-- another tag
pub tagged-at : (p q : FramePath) (i : ℕ) (f : Frame) (tag : ℕ) → q.store ≡ p.store → q.frames.items ≡ set p.frames.items i (record f { tag = tag }) → f ≡ get_or p.frames.items i f → i < length p.frames.items → frames_of q ≡ changed i (retagged (tag_at p.store tag)) (frames_of p)
tagged-at p q i f tag same at is h =
    let new : Frame = record f { tag = tag } in
    let grows = subst (λ (s : Store). Grows p.store s) (sym same) (grows_refl p.store) in
    frame-written p q grows i f new (retagged (tag_at p.store tag)) at is h (ap (λ (s : Store). frame_of s new) same)

changed-alike : (n : ℕ) (first second : dom.Frame → dom.Frame) (frames : List dom.Frame) (f : dom.Frame) → n < length frames → get_or frames n f ≡ f → first f ≡ second f → changed n first frames ≡ changed n second frames
changed-alike n first second [] f h is e = refl
changed-alike zero first second (g ∷ frames) f h is e =
    ap (λ (own : dom.Frame). own ∷ frames) (ap first is ∙ (e ∙ sym (ap second is)))
changed-alike (suc n) first second (g ∷ frames) f h is e =
    ap (λ (rest : List dom.Frame). g ∷ rest) (changed-alike n first second frames f (omega arith) is e)

-- a change of the tag of a number is one of the frame
tagged-by : (p : FramePath) (k n : ℕ) (f : Frame) → slice_get (numbers p.frames.items) n ≡ Some k → f ≡ get_or p.frames.items n f → n < length p.frames.items → (change : Tag → Tag) → dom.at_number k (retagged_by change) (path_of p) ≡ dom.at_number k (retagged (change (tag_at p.store f.tag))) (path_of p)
tagged-by p k n f found is h change =
    let many = frames-length p in
    sym (changed-number p k n (retagged_by change) found)
    ∙ (ap (seen p.gaps.marks.items) (changed-alike n (retagged_by change) (retagged (change (tag_at p.store f.tag))) (frames_of p) (frame_of p.store f) (omega arith) (frame-at p n f is) refl)
    ∙ changed-number p k n (retagged (change (tag_at p.store f.tag))) found)

-- the tag of the frame at a place
pub tag-there : (p : FramePath) (i : ℕ) (f : Frame) → f ≡ get_or p.frames.items i f → i < length p.frames.items → (frame_at p i).tag ≡ tag_at p.store f.tag
tag-there p i f is h =
    let many = frames-length p in
    ap (λ (own : dom.Frame). own.tag) (get_or_default (frames_of p) i dom.document (frame_of p.store f) (omega arith) ∙ frame-at p i f is)

-- A frame whose tag has more attributes, which its store got before

-- the tag of a frame that was read
pub tag-read : (p : FramePath) (i : ℕ) (f : Frame) → f ≡ get_or p.frames.items i f → i < length p.frames.items → tag_in p i ≡ f.tag
tag-read p i f is h =
    get_or-map (λ (own : Frame). own.tag) p.frames.items i f 0 h ∙ ap (λ (own : Frame). own.tag) (sym is)

pub merged-role : (p m : FramePath) (i : ℕ) (f : Frame) (tag : ℕ) (more : List Attribute) → Grows p.store m.store → m.frames.items ≡ p.frames.items → f ≡ get_or p.frames.items i f → i < length p.frames.items → f.tag < length p.store.tags.items → tag < length m.store.tags.items → tag_at m.store tag ≡ with_more more (tag_at p.store f.tag) → role_at m.store tag ≡ role_at m.store (tag_in m i)
merged-role p m i f tag more g kept is h own within stands =
    let longer = begins-longer p.store.tags.items m.store.tags.items g.tags in
    let like : tag_at m.store tag ≡ with_more more (tag_at m.store f.tag) =
    stands ∙ ap (with_more more) (sym (tag-at-grown p.store m.store g f.tag own)) in
    let there : tag_in m i ≡ f.tag =
    ap (λ (frames : List Frame). get_or (map (λ (own : Frame). own.tag) frames) i 0) kept ∙ tag-read p i f is h in
    ap (λ (t : Tag). role_of t (number_at m.store tag)) like
    ∙ (ap (role_of (tag_at m.store f.tag)) (same-number m.store tag f.tag within (omega arith) (ap (λ (t : Tag). t.name) like))
    ∙ ap (role_at m.store) (sym there))

pub merged-path : (p m q : FramePath) (k n : ℕ) (f : Frame) (tag : ℕ) (more : List Attribute) → Grows p.store m.store → m.frames.items ≡ p.frames.items → slice_get (numbers p.frames.items) n ≡ Some k → f ≡ get_or p.frames.items n f → n < length p.frames.items → tag_at m.store tag ≡ with_more more (tag_at p.store f.tag) → m.gaps ≡ p.gaps → q.gaps ≡ m.gaps → frames_of q ≡ changed n (retagged (tag_at m.store tag)) (frames_of m) → path_of q ≡ dom.at_number k (retagged_by (with_more more)) (path_of p)
merged-path p m q k n f tag more g kept found is h stands first second written =
    let marks = p.gaps.marks.items in
    path-by p q (second ∙ first)
    ∙ (ap (seen marks) written
    ∙ (ap (λ (own : Tag). seen marks (changed n (retagged own) (frames_of m))) stands
    ∙ (ap (λ frames. seen marks (changed n (retagged (with_more more (tag_at p.store f.tag))) frames)) (frames-grown p m g kept)
    ∙ (changed-number p k n (retagged (with_more more (tag_at p.store f.tag))) found
    ∙ sym (tagged-by p k n f found is h (with_more more))))))

-- The path up to the `html` element

html-stays : (f : dom.Frame) (path : dom.Path) → nat_eq f.number 1 ≡ true → from_html (f ∷ path) ≡ f ∷ path
html-stays f [] e = refl
html-stays f (g ∷ path) e = ap (λ (b : Bool). cond b (f ∷ g ∷ path) (from_html (g ∷ path))) e

other-goes : (f : dom.Frame) (path : dom.Path) → 0 < length path → nat_eq f.number 1 ≡ false → from_html (f ∷ path) ≡ from_html path
other-goes f [] h e = absurd (omega arith)
other-goes f (g ∷ path) h e = ap (λ (b : Bool). cond b (f ∷ g ∷ path) (from_html (g ∷ path))) e

pub html-alone : (p : FramePath) → length p.frames.items ≡ 1 → from_html (path_of p) ≡ path_of p
html-alone p long =
    let e = path-alone p long in
    ap from_html e ∙ sym e

pub html-on-top : (p : FramePath) (n : ℕ) (f : Frame) → length p.frames.items ≡ suc n → f ≡ get_or p.frames.items n f → nat_eq f.number 1 ≡ true → from_html (path_of p) ≡ path_of p
html-on-top p n f long is same =
    let e = path-top p n f long is in
    ap from_html e ∙ (html-stays (frame_of p.store f) (around p n) same ∙ sym e)

pub other-on-top : (p : FramePath) (n : ℕ) (f : Frame) → length p.frames.items ≡ suc n → 0 < n → f ≡ get_or p.frames.items n f → nat_eq f.number 1 ≡ false → from_html (path_of p) ≡ from_html (inner (path_of p))
other-on-top p n f long some is other =
    let e = path-top p n f long is in
    ap from_html e
    ∙ (other-goes (frame_of p.store f) (around p n) (some-around p n some (omega arith)) other
    ∙ sym (ap (λ (path : dom.Path). from_html (inner path)) e))

-- Open frames, from the outermost on

opened-step : (p : FramePath) (n : ℕ) (f : Frame) → f ≡ get_or p.frames.items n f → n < length p.frames.items → opened_from p n ≡ cond f.is_open (frame_of p.store f ∷ opened_from p (n + 1)) (opened_from p (n + 1))
unfolding opened_from
opened-step p n f is h =
    let many = frames-length p in
    ap dom.elements (drop_more (frames_of p) n (frame_of p.store f) (omega arith)
    ∙ ap (λ (own : dom.Frame). own ∷ drop (n + 1) (frames_of p)) (frame-at p n f is))

pub opened-shut : (p : FramePath) (n : ℕ) (f : Frame) → f ≡ get_or p.frames.items n f → n < length p.frames.items → f.is_open ≡ false → opened_from p n ≡ opened_from p (n + 1)
opened-shut p n f is h e =
    opened-step p n f is h
    ∙ ap (λ (b : Bool). cond b (frame_of p.store f ∷ opened_from p (n + 1)) (opened_from p (n + 1))) e

pub frame-there : (p : FramePath) (n : ℕ) (f : Frame) → f ≡ get_or p.frames.items n f → n < length p.frames.items → get_or (frames_of p) n dom.document ≡ frame_of p.store f
frame-there p n f is h =
    let many = frames-length p in
    get_or_default (frames_of p) n dom.document (frame_of p.store f) (omega arith) ∙ frame-at p n f is

pub opened-first : (p : FramePath) (n : ℕ) (f : Frame) → f ≡ get_or p.frames.items n f → n < length p.frames.items → f.is_open ≡ true → opened_from p n ≡ get_or (frames_of p) n dom.document ∷ opened_from p (n + 1)
opened-first p n f is h e =
    opened-step p n f is h
    ∙ (ap (λ (b : Bool). cond b (frame_of p.store f ∷ opened_from p (n + 1)) (opened_from p (n + 1))) e
    ∙ ap (λ (own : dom.Frame). own ∷ opened_from p (n + 1)) (sym (frame-there p n f is h)))

pub opened-none : (p : FramePath) (n : ℕ) → length p.frames.items ≤ n → opened_from p n ≡ []
unfolding opened_from
opened-none p n h =
    let many = frames-length p in
    ap dom.elements (drop_all n (frames_of p) (omega arith))

-- all of them
pub opened-all : (p : FramePath) → dom.elements (path_of p) ≡ reverse (opened_from p 0)
unfolding opened_from
opened-all p = elements-seen p ∙ filter-reverse (frames_of p)

reverse-two : (f g : dom.Frame) (rest : List dom.Frame) → reverse (f ∷ g ∷ rest) ≡ reverse rest ++ g ∷ f ∷ []
reverse-two f g rest = reverse-append (f ∷ g ∷ []) rest

second-last : (xs : List dom.Frame) (g f : dom.Frame) → body_number (xs ++ g ∷ f ∷ []) ≡ cond (is_any (codes "body") g.tag) (Some g.number) None
second-last [] g f = refl
second-last (x ∷ []) g f = refl
second-last (x ∷ y ∷ []) g f = refl
second-last (x ∷ y ∷ z ∷ xs) g f = second-last (y ∷ z ∷ xs) g f

several : (xs : List dom.Frame) (g f : dom.Frame) → is_only (xs ++ g ∷ f ∷ []) ≡ false
several [] g f = refl
several (x ∷ []) g f = refl
several (x ∷ y ∷ xs) g f = refl

-- what stands in the stack, by its two outermost elements

pub none-open : (p : FramePath) → opened_from p 0 ≡ [] → dom.elements (path_of p) ≡ []
none-open p e = opened-all p ∙ ap reverse e

pub one-open : (p : FramePath) (f : dom.Frame) (n : ℕ) → opened_from p 0 ≡ f ∷ opened_from p n → opened_from p n ≡ [] → dom.elements (path_of p) ≡ f ∷ []
one-open p f n first e =
    opened-all p ∙ ap reverse (first ∙ ap (λ (rest : List dom.Frame). f ∷ rest) e)

two-open : (p : FramePath) (f g : dom.Frame) (n m : ℕ) → opened_from p 0 ≡ f ∷ opened_from p n → opened_from p n ≡ g ∷ opened_from p m → dom.elements (path_of p) ≡ reverse (opened_from p m) ++ g ∷ f ∷ []
two-open p f g n m first second =
    opened-all p
    ∙ (ap reverse (first ∙ ap (λ (rest : List dom.Frame). f ∷ rest) second)
    ∙ reverse-two f g (opened_from p m))

pub second-open : (p : FramePath) (f g : dom.Frame) (n m : ℕ) → opened_from p 0 ≡ f ∷ opened_from p n → opened_from p n ≡ g ∷ opened_from p m → (b : Bool) → is_any (codes "body") g.tag ≡ b → body_number (dom.elements (path_of p)) ≡ cond b (Some g.number) None
second-open p f g n m first second b e =
    ap body_number (two-open p f g n m first second)
    ∙ (second-last (reverse (opened_from p m)) g f
    ∙ ap (λ (x : Bool). cond x (Some g.number) None) e)

pub several-open : (p : FramePath) (f g : dom.Frame) (n m : ℕ) → opened_from p 0 ≡ f ∷ opened_from p n → opened_from p n ≡ g ∷ opened_from p m → is_only (dom.elements (path_of p)) ≡ false
several-open p f g n m first second =
    ap is_only (two-open p f g n m first second) ∙ several (reverse (opened_from p m)) g f
