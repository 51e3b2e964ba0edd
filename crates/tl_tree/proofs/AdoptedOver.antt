-- A round where all between the common ancestor and the block is settled, and no frame is moved.
use Rattle.std.proofs.Common.{ap, arith, sym, subst, ◌∙◌, ◌≡◌, ◌≤◌, ◌+◌, ◌<◌, ◌++◌, ◌&&◌, ◌||◌, ◌∷◌, [], Bool, IsTrue, List, Option, Some, cond, drop, false, get_or, length, map, nat_eq, nat_lt, not, refl, reverse, set, suc, take, true, zero, ℕ}
use Rattle.std.proofs.Math.Seq.{drop-cons}
use Rattle.std.proofs.lemmas.Bool.{cond-false, eq-eqb, or_parts}
use Rattle.std.proofs.lemmas.List.{reverse-reverse, set-get_or}
use Rattle.std.specs.List.{list_any}
use Rattle.tl_dom_spec.specs.Adoption.{Clones, cloned, entry_moved, first, inside_of, moved_into, outside_of, readopted, settled_to}
use Rattle.tl_dom_spec.specs.Builder as dom
use Rattle.tl_dom_spec.specs.Formatting.{Listed}
use Rattle.tl_dom_spec.specs.Path.{Frame, Path, Place, document, elements, foster_place, has_number, here, place_in, popped_while, top, top_settled}
use Rattle.tl_dom_spec.specs.Tags.{Tag, is_foster_target}
use Rattle.tl_tree.proofs.Changed.{map-reverse}
use Rattle.tl_tree.proofs.Chosen.{outermost-block}
use Rattle.tl_tree.proofs.Fostered.{around-there}
use Rattle.tl_tree.proofs.Gone.{there-map}
use Rattle.tl_tree.proofs.Numbers.{none-reverse}
use Rattle.tl_tree.proofs.Over.{path-there, seen-turned}
use Rattle.tl_tree.proofs.Readopted.{inside-at, none-inside, outside-at, some-frame}
use Rattle.tl_tree.proofs.Settled.{is_settled, popped-step, settled-stop}
use Rattle.tl_tree.proofs.Written.{frames-length}
use Rattle.tl_tree.specs.Inner.Active.{active_of}
use Rattle.tl_tree.specs.Inner.Adopted.{IsAdopted, IsNear, adopted_entries, adopted_path, clones_at, clones_in, elements_between, emptied, filled, frame_at, is_inside, moved, outer_in, renewed, renewed_over, shape}
use Rattle.tl_tree.specs.Inner.Frames.{around, frames_of, path_of, seen}
use Rattle.tl_tree.specs.Inner.Gone.{there}
use Rattle.tl_tree.specs.declared.active.ActiveList.{ActiveList}
use Rattle.tl_tree.specs.declared.path.FramePath.{FramePath}

-- What stands inside of a frame, and what outside

pub any-there : {A : Type 0} (test : A → Bool) (marks : List Bool) (xs : List A) → list_any test xs ≡ false → list_any test (there marks xs) ≡ false
any-there test [] xs h = h
any-there test (gone ∷ marks) [] h = refl
any-there test (gone ∷ marks) (x ∷ xs) h =
    let p = or_parts (test x) (list_any test xs) h in
    let rest = any-there test marks xs p.1 in
    elim gone as (λ b. list_any test (cond b (there marks xs) (x ∷ there marks xs)) ≡ false) [
      | true ↦ rest
      | false ↦ ap (λ b. b || list_any test (there marks xs)) p.0 ∙ rest
    ]

none-further : (p : FramePath) (n : ℕ) → n < length p.frames.items → list_any (has_number (frame_at p n).number) (seen (drop (suc n) p.gaps.marks.items) (drop (suc n) (frames_of p))) ≡ false
none-further p n h =
    let test = has_number (frame_at p n).number in
    let inner = drop (suc n) (frames_of p) in
    let flat : list_any test inner ≡ false =
    ap (list_any test) (sym (reverse-reverse inner)) ∙ none-reverse test (reverse inner) (none-inside p (frame_at p n).number n (some-frame p) h refl) in
    none-reverse test (there (drop (suc n) p.gaps.marks.items) inner) (any-there test (drop (suc n) p.gaps.marks.items) inner flat)

pub inside-there : (p : FramePath) (n : ℕ) → n < length p.frames.items → get_or p.gaps.marks.items n false ≡ false → inside_of (frame_at p n).number (path_of p) ≡ seen (drop (suc n) p.gaps.marks.items) (drop (suc n) (frames_of p))
inside-there p n h stands =
    let k = (frame_at p n).number in
    ap (inside_of k) (path-there p n h stands)
    ∙ inside-at k (seen (drop (suc n) p.gaps.marks.items) (drop (suc n) (frames_of p))) (around p n) (frame_at p n) (none-further p n h) refl

pub outside-there : (p : FramePath) (n : ℕ) → n < length p.frames.items → get_or p.gaps.marks.items n false ≡ false → outside_of (frame_at p n).number (path_of p) ≡ around p n
outside-there p n h stands =
    let k = (frame_at p n).number in
    ap (outside_of k) (path-there p n h stands)
    ∙ outside-at k (seen (drop (suc n) p.gaps.marks.items) (drop (suc n) (frames_of p))) (around p n) (frame_at p n) (none-further p n h) refl

-- One that is settled, or stops that

some-settled : (test : Frame → Bool) (f : Frame) (path : Path) → 0 < length path → is_settled test f ≡ true → popped_while test (f ∷ path) ≡ popped_while test (top_settled (f ∷ path))
some-settled test f [] some h = absurd (omega arith)
some-settled test f (g ∷ path) some h = popped-step test f g path h

or-true : (b : Bool) → (b || true) ≡ true
or-true true = refl
or-true false = refl

pub settled-other : (k : ℕ) (f : Frame) (path : Path) → 0 < length path → nat_eq f.number k ≡ false → popped_while (is_inside (Some k)) (f ∷ path) ≡ popped_while (is_inside (Some k)) (top_settled (f ∷ path))
settled-other k f path some other =
    some-settled (is_inside (Some k)) f path some
    (ap (λ b. not f.is_open || not b) other ∙ or-true (not f.is_open))

pub settled-own : (k : ℕ) (f : Frame) (path : Path) → f.is_open ≡ true → f.number ≡ k → popped_while (is_inside (Some k)) (f ∷ path) ≡ f ∷ path
settled-own k f path opened own =
    settled-stop (is_inside (Some k)) (f ∷ path) f path
    (ap (λ b. not b || not (nat_eq f.number k)) opened ∙ ap not (eq-eqb f.number k own))

-- A new element has what is in the block

pub drop-more : {A : Type 0} (xs ys : List A) (n : ℕ) → drop n xs ≡ drop n ys → drop (suc n) xs ≡ drop (suc n) ys
drop-more {A = A} xs ys n e = next n xs ∙ (ap (drop 1) e ∙ sym (next n ys))
  where
    next : (k : ℕ) (zs : List A) → drop (suc k) zs ≡ drop 1 (drop k zs)
    next zero zs = refl
    next (suc k) [] = refl
    next (suc k) (z ∷ zs) = next k zs

moved-seen : (change : Frame → Frame) (marks : List Bool) (xs : List Frame) → seen marks (map change xs) ≡ map change (seen marks xs)
moved-seen change marks xs =
    ap reverse (there-map change marks xs) ∙ sym (map-reverse change (there marks xs))

-- where the block took the place right outside of it
pub over-renewed : (p r t : FramePath) (block i next : ℕ) (tag own-tag : Tag) (path : Path) → block < length p.frames.items → i + 1 ≡ block → get_or p.gaps.marks.items block false ≡ false → length r.frames.items ≡ length p.frames.items → drop block r.gaps.marks.items ≡ drop block p.gaps.marks.items → drop block (frames_of r) ≡ drop block (frames_of p) → around r i ≡ path → t.gaps.marks.items ≡ set (set r.gaps.marks.items (i + 1) false) i false → frames_of t ≡ take i (frames_of r) ++ renewed next tag (drop (i + 1) (frames_of r)) → tag ≡ own-tag → path_of t ≡ renewed_over (frame_at p block) next own-tag (inside_of (frame_at p block).number (path_of p)) path
over-renewed p r t block i next tag own-tag path within is stands long marks behind outer turned frames same =
    let ms = r.gaps.marks.items in
    let fs = frames_of r in
    let b = frame_at p block in
    let inner = drop (suc block) (frames_of p) in
    let many = frames-length p in
    let size = frames-length r in
    let suc-is : suc i ≡ block = omega arith in
    let change = moved b.number next in
    let zs = map change inner in
    let new = filled next tag b in
    let back : drop (i + 1) fs ≡ b ∷ inner =
    ap (λ n. drop n fs) is ∙ (behind ∙ drop-cons (frames_of p) block document (omega arith)) in
    let further : drop (suc (suc i)) ms ≡ drop (suc block) p.gaps.marks.items =
    ap (λ n. drop (suc n) ms) suc-is ∙ drop-more ms p.gaps.marks.items block marks in
    let marks-are : t.gaps.marks.items ≡ set (set ms (suc i) false) i false =
    turned ∙ ap (λ n. set (set ms n false) i false) (omega arith) in
    let frames-are : frames_of t ≡ take i fs ++ (emptied b ∷ new ∷ zs) =
    frames ∙ ap (λ all. take i fs ++ renewed next tag all) back in
    ap (λ all. seen all (frames_of t)) marks-are
    ∙ (ap (seen (set (set ms (suc i) false) i false)) frames-are
    ∙ (seen-turned ms i fs zs (emptied b) new (omega arith)
    ∙ (ap (λ all. seen all zs ++ (new ∷ emptied b ∷ seen ms (take i fs))) further
    ∙ (ap (λ all. all ++ (new ∷ emptied b ∷ seen ms (take i fs))) (moved-seen change (drop (suc block) p.gaps.marks.items) inner ∙ sym (ap (map change) (inside-there p block within stands)))
    ∙ (ap (λ all. map change (inside_of b.number (path_of p)) ++ (new ∷ emptied b ∷ all)) outer
    ∙ ap (λ (own : Tag). map change (inside_of b.number (path_of p)) ++ (filled next own b ∷ emptied b ∷ path)) same)))))

-- and the common ancestor stays on top of what is around it
pub over-top : (p r : FramePath) (place : ℕ) (outer : Path) → place < length r.frames.items → get_or r.gaps.marks.items place false ≡ false → around r (place + 1) ≡ outer → shape (frame_at r place) ≡ shape (frame_at p place) → (top outer).tag ≡ (frame_at p place).tag
over-top p r place outer within stands is same =
    ap (λ (path : Path). (top path).tag) (sym is ∙ around-there r place within stands)
    ∙ ap (λ (f : Frame). f.tag) same

-- The round

goes-here : (is_fostering : Bool) (path : Path) (tag : Tag) → (top path).tag ≡ tag → (is_fostering && is_foster_target tag) ≡ false → place_in is_fostering path ≡ here
goes-here is_fostering path tag is none =
    ap (λ (own : Tag). cond (is_fostering && is_foster_target own) (foster_place path) here) is
    ∙ ap (λ (b : Bool). cond b (foster_place path) here) none

flat-between : (k : ℕ) (p : FramePath) (n : ℕ) → elements_between k p n ≡ elements (inside_of k (around p n))
unfolding elements_between
flat-between k p n = refl

-- what the round makes of the path and the list, with clones of what stood at these places
pub adopted-over : (is_fostering : Bool) (p t : FramePath) (list : ActiveList) (own : Listed) (place k block next count : ℕ) (places : List ℕ) (before entries : List dom.Entry) → k ≡ place + 1 → k < block → block < length p.frames.items → get_or p.gaps.marks.items block false ≡ false → get_or p.gaps.marks.items place false ≡ false → get_or p.gaps.marks.items k false ≡ false → IsNear is_fostering own.number (frame_at p place) (frame_at p k) → cloned 0 (elements_between (frame_at p k).number p block) before p.next ≡ record { frames = clones_at (frames_of p) p.next places; entries = entries; next = next } → path_of t ≡ renewed_over (frame_at p block) next own.tag (inside_of (frame_at p block).number (path_of p)) (clones_at (frames_of p) p.next places ++ popped_while (is_inside (Some (frame_at p place).number)) (around p block)) → (top (popped_while (is_inside (Some (frame_at p place).number)) (around p block))).tag ≡ (frame_at p place).tag → active_of t.store list ≡ entry_moved own.number next own.tag (clones_at (frames_of p) p.next places) entries → t.next ≡ suc next → next ≡ p.next + count → IsAdopted is_fostering own (frame_at p block) (clones_in own (frame_at p block) (path_of p) before p.next) p t list count
adopted-over is_fostering p t list own place k block next count places before entries is-k order within stands anc-stands own-stands near chosen path tag active more is-count =
    let b = frame_at p block in
    let anc = frame_at p place in
    let clones = clones_at (frames_of p) p.next places in
    let ancestor = popped_while (is_inside (Some anc.number)) (around p block) in
    let some : Clones = record { frames = clones; entries = entries; next = next } in
    let out : outside_of b.number (path_of p) ≡ around p block = outside-there p block within stands in
    let whole : clones_in own b (path_of p) before p.next ≡ some =
    ap (λ (all : Path). cloned 0 (elements (inside_of own.number all)) before p.next) out
    ∙ (ap (λ (n : ℕ). cloned 0 (elements (inside_of n (around p block))) before p.next) (sym near.number)
    ∙ (ap (λ (fs : List Frame). cloned 0 fs before p.next) (sym (flat-between (frame_at p k).number p block)) ∙ chosen)) in
    let around-own : outside_of own.number (path_of p) ≡ anc ∷ around p place =
    ap (λ (n : ℕ). outside_of n (path_of p)) (sym near.number)
    ∙ (outside-there p k (omega arith) own-stands ∙ (ap (around p) is-k ∙ around-there p place (omega arith) anc-stands)) in
    let found : first (elements (outside_of own.number (path_of p))) ≡ Some anc =
    ap (λ (all : Path). first (elements all)) around-own
    ∙ ap (λ (o : Bool). first (cond o (anc ∷ elements (around p place)) (elements (around p place)))) near.around in
    let outer : outer_in own b (path_of p) ≡ ancestor =
    ap (λ (f : Option Frame). settled_to f (outside_of b.number (path_of p))) found
    ∙ ap (popped_while (is_inside (Some anc.number))) out in
    let goes = goes-here is_fostering ancestor anc.tag tag near.fosters in
    let done : Place → Path = λ (at : Place). moved_into b.number next (inside_of b.number (path_of p)) ++ readopted at b own some ancestor in
    record {
      path =
          path
          ∙ (ap (λ (all : Path). map (moved b.number next) (inside_of b.number (path_of p)) ++ (filled next own.tag b ∷ (all ++ ancestor))) (sym (outermost-block b (frames_of p) p.next places))
          ∙ (ap done (sym goes)
          ∙ (ap (λ (all : Path). adopted_path is_fostering own b some all (path_of p)) (sym outer)
          ∙ ap (λ (cl : Clones). adopted_path is_fostering own b cl (outer_in own b (path_of p)) (path_of p)) (sym whole))));
      active = active ∙ ap (adopted_entries own) (sym whole);
      next = more ∙ ap (λ (cl : Clones). suc cl.next) (sym whole);
      made = ap (λ (cl : Clones). cl.next) whole ∙ is-count;
    }
