-- Frames that are put on the path, emptied, moved and put around others.
use Rattle.std.proofs.Common.{ap, arith, sym, subst, ◌∙◌, ◌≡◌, ◌≤◌, ◌<◌, ◌++◌, ◌||◌, ◌∷◌, [], IsTrue, List, Some, drop, false, get_or, length, map, nat_eq, refl, reverse, set, slice_get, suc, take, zero, ℕ}
use Rattle.std.proofs.Math.Seq.{drop-cons}
use Rattle.std.proofs.lemmas.Bool.{and_parts, cond-false, cond-true, eq-eqb, not-true, or_parts}
use Rattle.std.proofs.lemmas.List.{append-nil, append_assoc, drop-map, drop_all, length-take, map-append, reverse-append, take_all}
use Rattle.std.proofs.lemmas.Option.{same_Some}
use Rattle.std.specs.List.{insert, list_any}
use Rattle.tl_dom_spec.specs.Adoption.{inside_of, outside_of}
use Rattle.tl_dom_spec.specs.Path as dom
use Rattle.tl_dom_spec.specs.Tags as tags
use Rattle.tl_tree.proofs.Actives.{parted}
use Rattle.tl_tree.proofs.Gone.{path-whole}
use Rattle.tl_tree.proofs.Grown.{grows_refl, nodes-none}
use Rattle.tl_tree.proofs.Listed.{map-take}
use Rattle.tl_tree.proofs.Numbers.{distinct-back, none-reverse}
use Rattle.tl_tree.proofs.Written.{children-none, frame-written, frames-length, same-frame}
use Rattle.tl_tree.specs.Inner.Adopted.{emptied, filled, frame_at, moved, renewed}
use Rattle.tl_tree.specs.Inner.Framed.{are_distinct, is_numbered, numbers}
use Rattle.tl_tree.specs.Inner.Frames.{changed, frame_of, frames_of, path_of}
use Rattle.tl_tree.specs.Inner.Store.{Grows, nodes_of, tag_at}
use Rattle.tl_tree.specs.declared.frame.Frame.{Frame}
use Rattle.tl_tree.specs.declared.frame.Place.TheVariants.{Here}
use Rattle.tl_tree.specs.declared.path.FramePath.{FramePath}
use Rattle.tl_tree.specs.declared.store.Store.{Store}

-- Parts of the path

path-parted : (p : FramePath) (n : ℕ) → p.gaps.marks.items ≡ [] → n < length p.frames.items → path_of p ≡ reverse (drop (suc n) (frames_of p)) ++ (frame_at p n ∷ reverse (take n (frames_of p)))
path-parted p n whole h =
    let all = frames_of p in
    let many = frames-length p in
    let own = frame_at p n in
    let inner = drop (suc n) all in
    path-whole p whole
    ∙ ap reverse (parted all n dom.document (omega arith))
    ∙ (reverse-append (take n all) (own ∷ inner)
    ∙ (ap (λ xs. xs ++ reverse (take n all)) (reverse-append (own ∷ []) inner)
    ∙ append_assoc (reverse inner) (own ∷ []) (reverse (take n all))))

pub inside-at : (k : ℕ) (xs ys : dom.Path) (f : dom.Frame) → list_any (dom.has_number k) xs ≡ false → f.number ≡ k → inside_of k (xs ++ f ∷ ys) ≡ xs
inside-at k [] ys f none is =
    cond-true (nat_eq f.number k) [] (f ∷ inside_of k ys) (eq-eqb f.number k is)
inside-at k (x ∷ xs) ys f none is =
    let p = or_parts (dom.has_number k x) (list_any (dom.has_number k) xs) none in
    cond-false (nat_eq x.number k) [] (x ∷ inside_of k (xs ++ f ∷ ys)) p.0
    ∙ ap (λ rest. x ∷ rest) (inside-at k xs ys f p.1 is)

pub outside-at : (k : ℕ) (xs ys : dom.Path) (f : dom.Frame) → list_any (dom.has_number k) xs ≡ false → f.number ≡ k → outside_of k (xs ++ f ∷ ys) ≡ ys
outside-at k [] ys f none is =
    cond-true (nat_eq f.number k) ys (outside_of k ys) (eq-eqb f.number k is)
outside-at k (x ∷ xs) ys f none is =
    let p = or_parts (dom.has_number k x) (list_any (dom.has_number k) xs) none in
    cond-false (nat_eq x.number k) (xs ++ f ∷ ys) (outside_of k (xs ++ f ∷ ys)) p.0
    ∙ outside-at k xs ys f p.1 is

outside-absent : (k : ℕ) (xs : dom.Path) → list_any (dom.has_number k) xs ≡ false → outside_of k xs ≡ []
outside-absent k [] none = refl
outside-absent k (x ∷ xs) none =
    let p = or_parts (dom.has_number k x) (list_any (dom.has_number k) xs) none in
    cond-false (nat_eq x.number k) xs (outside_of k xs) p.0 ∙ outside-absent k xs p.1

-- tests of numbers, of frames as they are kept
seen-any : (s : Store) (k : ℕ) (frames : List Frame) → list_any (dom.has_number k) (map (frame_of s) frames) ≡ list_any (is_numbered k) frames
seen-any s k [] = refl
seen-any s k (f ∷ frames) = ap (λ b. nat_eq f.number k || b) (seen-any s k frames)

number-at : (s : Store) (frames : List Frame) (n : ℕ) (f : Frame) → n < length frames → (get_or (map (frame_of s) frames) n dom.document).number ≡ (get_or frames n f).number
number-at s [] n f h = absurd (omega arith)
number-at s (g ∷ frames) zero f h = refl
number-at s (g ∷ frames) (suc n) f h = number-at s frames n f (omega arith)

-- no other one has the number of a frame
pub none-inside : (p : FramePath) (k n : ℕ) (f : Frame) → n < length p.frames.items → (frame_at p n).number ≡ k → list_any (dom.has_number k) (reverse (drop (suc n) (frames_of p))) ≡ false
unfolding frames_of
none-inside p k n f h is =
    let xs = p.frames.items in
    let own = get_or xs n f in
    let rest = drop (suc n) xs in
    let back : IsTrue (are_distinct (own ∷ rest)) = distinct-back (take n xs) (own ∷ rest) (subst (λ (all : List Frame). IsTrue (are_distinct all)) (parted xs n f h) p.distinct) in
    let none = not-true (list_any (is_numbered own.number) rest) (and_parts _ (are_distinct rest) back).0 in
    let same : own.number ≡ k = sym (number-at p.store xs n f h) ∙ is in
    none-reverse (dom.has_number k) (drop (suc n) (map (frame_of p.store) xs))
    (ap (list_any (dom.has_number k)) (drop-map (frame_of p.store) (suc n) xs)
    ∙ (seen-any p.store k rest ∙ (ap (λ (m : ℕ). list_any (is_numbered m) rest) (sym same) ∙ none)))

pub some-frame : (p : FramePath) → Frame
some-frame p = get_or p.frames.items 0 (record { number = 0; tag = 0; children = 0; late = 0; waiting = 0; place = Here; is_open = false })

pub inside-part : (p : FramePath) (k n : ℕ) → p.gaps.marks.items ≡ [] → n < length p.frames.items → (frame_at p n).number ≡ k → inside_of k (path_of p) ≡ reverse (drop (suc n) (frames_of p))
inside-part p k n whole h is =
    ap (inside_of k) (path-parted p n whole h)
    ∙ inside-at k (reverse (drop (suc n) (frames_of p))) (reverse (take n (frames_of p))) (frame_at p n) (none-inside p k n (some-frame p) h is) is

pub outside-part : (p : FramePath) (k n : ℕ) → p.gaps.marks.items ≡ [] → n < length p.frames.items → (frame_at p n).number ≡ k → outside_of k (path_of p) ≡ reverse (take n (frames_of p))
outside-part p k n whole h is =
    ap (outside_of k) (path-parted p n whole h)
    ∙ outside-at k (reverse (drop (suc n) (frames_of p))) (reverse (take n (frames_of p))) (frame_at p n) (none-inside p k n (some-frame p) h is) is

pub outside-none : (p : FramePath) (k : ℕ) → p.gaps.marks.items ≡ [] → list_any (is_numbered k) p.frames.items ≡ false → outside_of k (path_of p) ≡ []
unfolding frames_of
outside-none p k whole h =
    ap (outside_of k) (path-whole p whole)
    ∙ outside-absent k (reverse (frames_of p)) (none-reverse (dom.has_number k) (map (frame_of p.store) p.frames.items) (seen-any p.store k p.frames.items ∙ h))

pub number-found : (p : FramePath) (n k : ℕ) → slice_get (numbers p.frames.items) n ≡ Some k → (frame_at p n).number ≡ k
unfolding frames_of
number-found p n k e = found p.store p.frames.items n k e
  where
    found : (s : Store) (frames : List Frame) (n k : ℕ) → slice_get (numbers frames) n ≡ Some k → (get_or (map (frame_of s) frames) n dom.document).number ≡ k
    found s [] n k e = absurd (cc)
    found s (g ∷ frames) zero k e = same_Some g.number k e
    found s (g ∷ frames) (suc n) k e = found s frames n k e

-- A frame is put on the path

map-insert : {A B : Type 0} (f : A → B) (n : ℕ) (xs : List A) (x : A) → map f (insert xs n x) ≡ insert (map f xs) n (f x)
map-insert f n xs x =
    map-append f (take n xs) (x ∷ drop n xs)
    ∙ (ap (λ front. front ++ f x ∷ map f (drop n xs)) (map-take f n xs)
    ∙ ap (λ back. take n (map f xs) ++ f x ∷ back) (sym (drop-map f n xs)))

pub inserted : (p q : FramePath) (n : ℕ) (new : Frame) → q.frames.items ≡ insert p.frames.items n new → q.store ≡ p.store → frames_of q ≡ insert (frames_of p) n (frame_of p.store new)
unfolding frames_of
inserted p q n new at same =
    ap (λ (s : Store). map (frame_of s) q.frames.items) same
    ∙ (ap (map (frame_of p.store)) at ∙ map-insert (frame_of p.store) n p.frames.items new)

-- A frame is written

pub rewritten : (p q : FramePath) (i : ℕ) (f new : Frame) (change : dom.Frame → dom.Frame) → q.store ≡ p.store → q.frames.items ≡ set p.frames.items i new → f ≡ get_or p.frames.items i f → i < length p.frames.items → frame_of p.store new ≡ change (frame_of p.store f) → frames_of q ≡ changed i change (frames_of p)
rewritten p q i f new change same at is h e =
    let grows = subst (λ (s : Store). Grows p.store s) (sym same) (grows_refl p.store) in
    frame-written p q grows i f new change at is h (ap (λ (s : Store). frame_of s new) same ∙ e)

pub nothing-in : (s : Store) (f : Frame) → frame_of s (record f { children = 0; late = 0; waiting = 0; place = Here }) ≡ emptied (frame_of s f)
nothing-in s f =
    same-frame f.number dom.here f.is_open (tag_at s f.tag) (tag_at s f.tag) (dom.at_head (nodes_of s 0) (nodes_of s 0)) dom.no_nodes (nodes_of s 0) dom.no_nodes refl (children-none s) (nodes-none s)

-- those from a place on, one after the other
pub changed-next : (i : ℕ) (change : dom.Frame → dom.Frame) (frames : List dom.Frame) → i < length frames → take (suc i) (changed i change frames) ++ map change (drop (suc i) (changed i change frames)) ≡ take i frames ++ map change (drop i frames)
changed-next i change [] h = absurd (omega arith)
changed-next zero change (f ∷ frames) h = refl
changed-next (suc i) change (f ∷ frames) h =
    ap (λ rest. f ∷ rest) (changed-next i change frames (omega arith))

-- A new element is put into the block

renewed-at : (xs : List dom.Frame) (b new : dom.Frame) (ys : List dom.Frame) (first second : dom.Frame → dom.Frame) → let n = length xs in let all = changed n first (insert (xs ++ b ∷ ys) (suc n) new) in take (suc (suc n)) all ++ map second (drop (suc (suc n)) all) ≡ xs ++ (first b ∷ new ∷ map second ys)
renewed-at [] b new ys first second = refl
renewed-at (x ∷ xs) b new ys first second =
    ap (λ rest. x ∷ rest) (renewed-at xs b new ys first second)

pub renewed-all : (frames : List dom.Frame) (n j k : ℕ) (number : ℕ) (tag : tags.Tag) (b : dom.Frame) → n < length frames → j ≡ suc n → k ≡ suc j → b ≡ get_or frames n b → let all = changed n emptied (insert frames j (filled number tag b)) in take k all ++ map (moved b.number number) (drop k all) ≡ take n frames ++ renewed number tag (drop n frames)
renewed-all frames n j k number tag b h is-j is-k is =
    let xs = take n frames in
    let ys = drop (suc n) frames in
    let new = filled number tag b in
    let second = moved b.number number in
    let many : n ≡ length xs = omega (arith, length-take n frames) in
    let own : frames ≡ xs ++ b ∷ ys = parted frames n b h ∙ ap (λ (f : dom.Frame). xs ++ f ∷ ys) (sym is) in
    let back : drop n frames ≡ b ∷ ys = drop-cons frames n b h ∙ ap (λ (f : dom.Frame). f ∷ ys) (sym is) in
    let done : ℕ → ℕ → ℕ → List dom.Frame → List dom.Frame =
    λ l i m fs. (take m (changed l emptied (insert fs i new)) ++ map second (drop m (changed l emptied (insert fs i new)))) in
    ap (λ m. done n j m frames) is-k
    ∙ (ap (λ i. done n i (suc i) frames) is-j
    ∙ (ap (λ l. done l (suc l) (suc (suc l)) frames) many
    ∙ (ap (done (length xs) (suc (length xs)) (suc (suc (length xs)))) own
    ∙ (renewed-at xs b new ys emptied second
    ∙ ap (λ fs. xs ++ renewed number tag fs) (sym back)))))
