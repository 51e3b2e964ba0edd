-- Which elements between the block and the formatting element are made anew.
use Rattle.std.proofs.Common.{ap, arith, sym, ◌∙◌, ◌≡◌, ◌+◌, ◌≤◌, ◌<◌, ◌++◌, ◌∷◌, [], Bool, List, cond, false, get_or, length, length-append, map, nat_eq, refl, suc, true, ℕ}
use Rattle.std.proofs.lemmas.Bool.{eq-eqb, false≢true}
use Rattle.std.proofs.lemmas.List.{append_assoc}
use Rattle.tl_dom_spec.specs.Adoption.{Clones, inside_of, outermost_at}
use Rattle.tl_dom_spec.specs.Path.{Frame, Path, document, elements, here, new_frame}
use Rattle.tl_dom_spec.specs.Tags.{Tag}
use Rattle.tl_tree.proofs.Cloned.{with-closed}
use Rattle.tl_tree.proofs.Fostered.{around-gone, around-there}
use Rattle.tl_tree.proofs.Over.{stands-open}
use Rattle.tl_tree.specs.Inner.Adopted.{AreInward, IsFirst, after_clones, clones_at, elements_between, emptied, frame_at, with_element}
use Rattle.tl_tree.specs.Inner.Frames.{around, frame_of, frames_of}
use Rattle.tl_tree.specs.declared.path.FramePath.{FramePath}
use Rattle.tl_tree.specs.declared.store.Store.{Store}

-- The elements, an outer one with each step

gone-shut : (p : FramePath) (m : ℕ) → m < length p.frames.items → get_or p.gaps.marks.items m false ≡ true → (frame_at p m).is_open ≡ false
gone-shut p m h gone = by-open (frame_at p m).is_open refl
  where
    by-open : (o : Bool) → (frame_at p m).is_open ≡ o → o ≡ false
    by-open true e = absurd (false≢true (sym (stands-open p m e h) ∙ gone))
    by-open false e = refl

pub between-next : (k : ℕ) (p : FramePath) (m : ℕ) → m < length p.frames.items → nat_eq (frame_at p m).number k ≡ false → elements_between k p (m + 1) ≡ with_element (frame_at p m) (elements_between k p m)
unfolding elements_between
between-next k p m h other = by-gone (get_or p.gaps.marks.items m false) refl
  where
    by-gone : (gone : Bool) → get_or p.gaps.marks.items m false ≡ gone → elements_between k p (m + 1) ≡ with_element (frame_at p m) (elements_between k p m)
    by-gone true e =
        ap (λ (path : Path). elements (inside_of k path)) (around-gone p m h e)
        ∙ sym (with-closed (frame_at p m) (elements (inside_of k (around p m))) (gone-shut p m h e))
    by-gone false e =
        ap (λ (path : Path). elements (inside_of k path)) (around-there p m h e)
        ∙ ap (λ (b : Bool). elements (cond b [] (frame_at p m ∷ inside_of k (around p m)))) other

-- there is none right inside of the formatting element
pub between-none : (p : FramePath) (m : ℕ) → m < length p.frames.items → get_or p.gaps.marks.items m false ≡ false → elements_between (frame_at p m).number p (m + 1) ≡ []
unfolding elements_between
between-none p m h stands =
    let k = (frame_at p m).number in
    ap (λ (path : Path). elements (inside_of k path)) (around-there p m h stands)
    ∙ ap (λ (b : Bool). elements (cond b [] (frame_at p m ∷ inside_of k (around p m)))) (eq-eqb k k refl)

-- Clones

clones-behind : (frames : List Frame) (next more n : ℕ) (places : List ℕ) → more ≡ next + length places → clones_at frames next (places ++ n ∷ []) ≡ clones_at frames next places ++ new_frame more (get_or frames n document).tag here ∷ []
clones-behind frames next more n [] is =
    let same : next ≡ more = omega arith in
    ap (λ k. new_frame k (get_or frames n document).tag here ∷ []) same
clones-behind frames next more n (m ∷ places) is =
    ap (λ rest. new_frame next (get_or frames m document).tag here ∷ rest) (clones-behind frames (suc next) more n places (omega arith))

-- one more
pub clones-more : (frames : List Frame) (next more n : ℕ) (places : List ℕ) (rest : Clones) → more ≡ next + length places → after_clones (clones_at frames next places) (after_clones (new_frame more (get_or frames n document).tag here ∷ []) rest) ≡ after_clones (clones_at frames next (places ++ n ∷ [])) rest
clones-more frames next more n places rest is =
    ap (λ (all : Path). record rest { frames = all })
    (sym (append_assoc (clones_at frames next places) (new_frame more (get_or frames n document).tag here ∷ []) rest.frames)
    ∙ ap (λ front. front ++ rest.frames) (sym (clones-behind frames next more n places is)))

pub clones-length : (frames : List Frame) (next : ℕ) (places : List ℕ) → length (clones_at frames next places) ≡ length places
clones-length frames next [] = refl
clones-length frames next (n ∷ places) = ap suc (clones-length frames (suc next) places)

pub clones-first : (frames : List Frame) (next : ℕ) (places : List ℕ) → IsFirst next (clones_at frames next places)
clones-first frames next [] = tt
clones-first frames next (n ∷ places) = refl

-- each of them goes to what is around it
outermost-new : (number : ℕ) (tag : Tag) (frames : List Frame) (next : ℕ) (places : List ℕ) → outermost_at here (new_frame number tag here ∷ clones_at frames next places) ≡ new_frame number tag here ∷ clones_at frames next places
outermost-new number tag frames next [] = refl
outermost-new number tag frames next (n ∷ places) =
    ap (λ rest. new_frame number tag here ∷ rest) (outermost-new next (get_or frames n document).tag frames (suc next) places)

pub outermost-block : (b : Frame) (frames : List Frame) (next : ℕ) (places : List ℕ) → outermost_at here (emptied b ∷ clones_at frames next places) ≡ emptied b ∷ clones_at frames next places
outermost-block b frames next [] = refl
outermost-block b frames next (n ∷ places) =
    ap (λ rest. emptied b ∷ rest) (outermost-new next (get_or frames n document).tag frames (suc next) places)

-- Places

-- from a place further out on
pub inward-more : (least less most : ℕ) (places : List ℕ) → less ≤ least → AreInward least most places → AreInward less most places
inward-more least less most [] h inward = tt
inward-more least less most (n ∷ places) h inward =
    let first = inward.0 in
    (omega arith, inward.1, inward-more least less n places h inward.2)

pub inward-behind : (n most : ℕ) (places : List ℕ) → n < most → AreInward (n + 1) most places → AreInward n most (places ++ n ∷ [])
inward-behind n most [] h inward = (omega arith, h, tt)
inward-behind n most (m ∷ places) h inward =
    let first = inward.0 in
    (omega arith, inward.1, inward-behind n m places (omega arith) inward.2)

-- where neither frames nor the store changed
pub frames-same : (p q : FramePath) → q.frames.items ≡ p.frames.items → q.store ≡ p.store → frames_of q ≡ frames_of p
unfolding frames_of
frames-same p q frames store =
    ap (λ (s : Store). map (frame_of s) q.frames.items) store ∙ ap (map (frame_of p.store)) frames
