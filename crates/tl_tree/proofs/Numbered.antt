-- Frames whose numbers differ: the frame of a number is one.
use Rattle.std.proofs.Common.{ap, arith, sym, subst, ◌∙◌, ◌≡◌, ◌≤◌, ◌<◌, ◌++◌, ◌&&◌, ◌||◌, ◌∷◌, [], Bool, IsTrue, List, Some, cond, false, get_or, length, map, nat_eq, not, refl, reverse, set, slice_get, suc, take, true, zero, ℕ}
use Rattle.std.proofs.lemmas.Bool.{and_from, and_parts, eq-eqb, false≢true, ltb-true, ne_eqb, or_parts}
use Rattle.std.proofs.lemmas.List.{length-map}
use Rattle.std.proofs.lemmas.Option.{same_Some, slice_get_within}
use Rattle.std.specs.List.{list_all, list_any}
use Rattle.tl_dom_spec.specs.Path as dom
use Rattle.tl_tree.proofs.Changed.{map-reverse}
use Rattle.tl_tree.proofs.Gone.{path-by, there-map}
use Rattle.tl_tree.specs.Inner.Framed.{are_distinct, is_before, is_numbered, numbers}
use Rattle.tl_tree.specs.Inner.Frames.{changed, frame_of, frames_of, path_of, seen}
use Rattle.tl_tree.specs.Inner.Gone.{there}
use Rattle.tl_tree.specs.declared.frame.Frame.{Frame}
use Rattle.tl_tree.specs.declared.path.FramePath.{FramePath}
use Rattle.tl_tree.specs.declared.store.Store.{Store}

not-false : (b : Bool) → IsTrue (not b) → b ≡ false
not-false true h = absurd (false≢true h)
not-false false h = refl

or-none : (x y : Bool) → x ≡ false → y ≡ false → (x || y) ≡ false
or-none x y p q = rw (p, q) refl

-- where none has a number, the change of the frame of that number changes nothing
absent-map : (s : Store) (k : ℕ) (change : dom.Frame → dom.Frame) (frames : List Frame) → list_any (is_numbered k) frames ≡ false → map (λ (f : dom.Frame). cond (nat_eq f.number k) (change f) f) (map (frame_of s) frames) ≡ map (frame_of s) frames
absent-map s k change [] h = refl
absent-map s k change (f ∷ frames) h =
    let p = or_parts (is_numbered k f) (list_any (is_numbered k) frames) h in
    ap (λ (b : Bool). cond b (change (frame_of s f)) (frame_of s f) ∷ map (λ (g : dom.Frame). cond (nat_eq g.number k) (change g) g) (map (frame_of s) frames)) p.0
    ∙ ap (λ rest. frame_of s f ∷ rest) (absent-map s k change frames p.1)

-- one that is there is told by any
pub found-any : (frames : List Frame) (n k : ℕ) → slice_get (numbers frames) n ≡ Some k → (m : ℕ) → list_any (is_numbered m) frames ≡ false → nat_eq m k ≡ false
found-any [] n k e m h = absurd (cc)
found-any (g ∷ frames) zero k e m h =
    let p = or_parts (is_numbered m g) (list_any (is_numbered m) frames) h in
    let is : g.number ≡ k = same_Some g.number k e in
    ne_eqb m k (λ (same : m ≡ k). false≢true (sym p.0 ∙ eq-eqb g.number m (is ∙ sym same)))
found-any (g ∷ frames) (suc n) k e m h =
    let p = or_parts (is_numbered m g) (list_any (is_numbered m) frames) h in
    found-any frames n k e m p.1

-- a change of all
seen-mapped : (p : FramePath) (k : ℕ) (change : dom.Frame → dom.Frame) → seen p.gaps.marks.items (map (λ (f : dom.Frame). cond (nat_eq f.number k) (change f) f) (map (frame_of p.store) p.frames.items)) ≡ dom.at_number k change (path_of p)
unfolding frames_of
seen-mapped p k change =
    let all = λ (f : dom.Frame). cond (nat_eq f.number k) (change f) f in
    let marks = p.gaps.marks.items in
    let frames = map (frame_of p.store) p.frames.items in
    ap reverse (there-map all marks frames) ∙ sym (map-reverse all (there marks frames))

changed-map : (s : Store) (k n : ℕ) (change : dom.Frame → dom.Frame) (frames : List Frame) → slice_get (numbers frames) n ≡ Some k → IsTrue (are_distinct frames) → map (λ (g : dom.Frame). cond (nat_eq g.number k) (change g) g) (map (frame_of s) frames) ≡ changed n change (map (frame_of s) frames)
changed-map s k n change [] e h = absurd (cc)
changed-map s k zero change (g ∷ frames) e h =
    let p = and_parts (not (list_any (is_numbered g.number) frames)) (are_distinct frames) h in
    let is : g.number ≡ k = same_Some g.number k e in
    let none : list_any (is_numbered k) frames ≡ false =
    subst (λ (m : ℕ). list_any (is_numbered m) frames ≡ false) is (not-false (list_any (is_numbered g.number) frames) p.0) in
    ap (λ (b : Bool). cond b (change (frame_of s g)) (frame_of s g) ∷ map (λ (o : dom.Frame). cond (nat_eq o.number k) (change o) o) (map (frame_of s) frames)) (eq-eqb g.number k is)
    ∙ ap (λ rest. change (frame_of s g) ∷ rest) (absent-map s k change frames none)
changed-map s k (suc n) change (g ∷ frames) e h =
    let p = and_parts (not (list_any (is_numbered g.number) frames)) (are_distinct frames) h in
    let other : nat_eq g.number k ≡ false = found-any frames n k e g.number (not-false (list_any (is_numbered g.number) frames) p.0) in
    ap (λ (b : Bool). cond b (change (frame_of s g)) (frame_of s g) ∷ map (λ (o : dom.Frame). cond (nat_eq o.number k) (change o) o) (map (frame_of s) frames)) other
    ∙ ap (λ rest. frame_of s g ∷ rest) (changed-map s k n change frames e p.1)

-- the frame at a place is the one of its number
pub changed-number : (p : FramePath) (k n : ℕ) (change : dom.Frame → dom.Frame) → slice_get (numbers p.frames.items) n ≡ Some k → seen p.gaps.marks.items (changed n change (frames_of p)) ≡ dom.at_number k change (path_of p)
unfolding frames_of
changed-number p k n change e =
    ap (seen p.gaps.marks.items) (sym (changed-map p.store k n change p.frames.items e p.distinct))
    ∙ seen-mapped p k change

-- where another path has the same gaps
pub number-changed : (p q : FramePath) (k n : ℕ) (change : dom.Frame → dom.Frame) → q.gaps ≡ p.gaps → slice_get (numbers p.frames.items) n ≡ Some k → frames_of q ≡ changed n change (frames_of p) → path_of q ≡ dom.at_number k change (path_of p)
number-changed p q k n change same e at =
    path-by p q same ∙ (ap (seen p.gaps.marks.items) at ∙ changed-number p k n change e)

pub absent-number : (p : FramePath) (k : ℕ) (change : dom.Frame → dom.Frame) → list_any (is_numbered k) p.frames.items ≡ false → path_of p ≡ dom.at_number k change (path_of p)
unfolding frames_of
absent-number p k change h =
    ap (seen p.gaps.marks.items) (sym (absent-map p.store k change p.frames.items h))
    ∙ seen-mapped p k change

pub found-within : (frames : List Frame) (n k : ℕ) → slice_get (numbers frames) n ≡ Some k → n < length frames
found-within frames n k e =
    let h = slice_get_within (numbers frames) n k e in
    let many = length-map frames (λ (f : Frame). f.number) in
    omega arith

-- What keeps numbers apart

any-set : (frames : List Frame) (i m : ℕ) (f : Frame) → f.number ≡ (get_or frames i f).number → list_any (is_numbered m) (set frames i f) ≡ list_any (is_numbered m) frames
any-set [] i m f e = refl
any-set (g ∷ frames) zero m f e = ap (λ k. nat_eq k m || list_any (is_numbered m) frames) e
any-set (g ∷ frames) (suc i) m f e = ap (λ b. is_numbered m g || b) (any-set frames i m f e)

pub distinct-set : (frames : List Frame) (i : ℕ) (f : Frame) → f.number ≡ (get_or frames i f).number → IsTrue (are_distinct frames) → IsTrue (are_distinct (set frames i f))
distinct-set [] i f e h = refl
distinct-set (g ∷ frames) zero f e h =
    subst (λ (k : ℕ). IsTrue (not (list_any (is_numbered k) frames) && are_distinct frames)) (sym e) h
distinct-set (g ∷ frames) (suc i) f e h =
    let p = and_parts (not (list_any (is_numbered g.number) frames)) (are_distinct frames) h in
    and_from (not (list_any (is_numbered g.number) (set frames i f))) (are_distinct (set frames i f))
    (ap not (any-set frames i g.number f e) ∙ p.0) (distinct-set frames i f e p.1)

any-take : (frames : List Frame) (n m : ℕ) → list_any (is_numbered m) frames ≡ false → list_any (is_numbered m) (take n frames) ≡ false
any-take frames zero m h = refl
any-take [] (suc n) m h = refl
any-take (f ∷ frames) (suc n) m h =
    let p = or_parts (is_numbered m f) (list_any (is_numbered m) frames) h in
    or-none (is_numbered m f) (list_any (is_numbered m) (take n frames)) p.0 (any-take frames n m p.1)

pub distinct-take : (frames : List Frame) (n : ℕ) → IsTrue (are_distinct frames) → IsTrue (are_distinct (take n frames))
distinct-take frames zero h = refl
distinct-take [] (suc n) h = refl
distinct-take (f ∷ frames) (suc n) h =
    let p = and_parts (not (list_any (is_numbered f.number) frames)) (are_distinct frames) h in
    and_from (not (list_any (is_numbered f.number) (take n frames))) (are_distinct (take n frames))
    (ap not (any-take frames n f.number (not-false (list_any (is_numbered f.number) frames) p.0)))
    (distinct-take frames n p.1)

any-push : (frames : List Frame) (m : ℕ) (f : Frame) → list_any (is_numbered m) frames ≡ false → nat_eq f.number m ≡ false → list_any (is_numbered m) (frames ++ f ∷ []) ≡ false
any-push [] m f h other = or-none (is_numbered m f) false other refl
any-push (g ∷ frames) m f h other =
    let p = or_parts (is_numbered m g) (list_any (is_numbered m) frames) h in
    or-none (is_numbered m g) (list_any (is_numbered m) (frames ++ f ∷ [])) p.0 (any-push frames m f p.1 other)

-- a number that is not given out yet
pub distinct-push : (frames : List Frame) (next : ℕ) (f : Frame) → IsTrue (are_distinct frames) → IsTrue (list_all (is_before next) frames) → next ≤ f.number → IsTrue (are_distinct (frames ++ f ∷ []))
distinct-push [] next f h before le = refl
distinct-push (g ∷ frames) next f h before le =
    let p = and_parts (not (list_any (is_numbered g.number) frames)) (are_distinct frames) h in
    let q = and_parts (is_before next g) (list_all (is_before next) frames) before in
    let less = ltb-true g.number next q.0 in
    and_from (not (list_any (is_numbered g.number) (frames ++ f ∷ []))) (are_distinct (frames ++ f ∷ []))
    (ap not (any-push frames g.number f (not-false (list_any (is_numbered g.number) frames) p.0) (ne_eqb f.number g.number (λ (same : f.number ≡ g.number). omega arith))))
    (distinct-push frames next f p.1 q.1 le)

pub distinct-pushed : (r : Bool) (frames new : List Frame) (next : ℕ) (f : Frame) → new ≡ cond r (frames ++ f ∷ []) frames → IsTrue (are_distinct frames) → IsTrue (list_all (is_before next) frames) → next ≤ f.number → IsTrue (are_distinct new)
distinct-pushed r frames new next f e h before le =
    rw e
    (elim r as (λ b. IsTrue (are_distinct (cond b (frames ++ f ∷ []) frames))) [
      | true ↦ distinct-push frames next f h before le
      | false ↦ h
    ])
