-- A path from which frames that are gone are taken out.
use Rattle.std.proofs.Common.{ap, arith, sym, subst, ◌∙◌, ◌≡◌, ◌≤◌, ◌<◌, ◌+◌, ◌&&◌, ◌++◌, ◌∷◌, [], Bool, IsTrue, List, cond, false, get_or, length, length-append, map, not, refl, reverse, suc, take, true, zero, ℕ}
use Rattle.std.proofs.lemmas.Bool.{and_from, and_parts, not-true}
use Rattle.std.proofs.lemmas.List.{append-nil, get_or-map, length-take-le, take_all}
use Rattle.std.specs.List.{list_all, list_any}
use Rattle.tl_dom_spec.specs.Adoption.{Clones}
use Rattle.tl_dom_spec.specs.Builder.{Entry}
use Rattle.tl_dom_spec.specs.Formatting.{Listed}
use Rattle.tl_dom_spec.specs.Path as dom
use Rattle.tl_tree.proofs.AdoptedOver.{any-there}
use Rattle.tl_tree.proofs.Gone.{path-whole, there-map, there-next, there-none}
use Rattle.tl_tree.proofs.Placed.{HereFrom, here-later}
use Rattle.tl_tree.proofs.Popped.{first-there}
use Rattle.tl_tree.proofs.Readopted.{some-frame}
use Rattle.tl_tree.specs.Inner.Adopted.{IsAdopted, adopted_entries, adopted_path, clones_in, frame_at, outer_in}
use Rattle.tl_tree.specs.Inner.Framed.{are_distinct, is_here, is_numbered}
use Rattle.tl_tree.specs.Inner.Frames.{frame_of, frames_of, path_of}
use Rattle.tl_tree.specs.Inner.Gone.{gone_in, is_first_there, there}
use Rattle.tl_tree.specs.declared.active.ActiveList.{ActiveList}
use Rattle.tl_tree.specs.declared.frame.Frame.{Frame}
use Rattle.tl_tree.specs.declared.path.FramePath.{FramePath}
use Rattle.tl_tree.specs.declared.store.Store.{Store}

pub all-there : {A : Type 0} (test : A → Bool) (marks : List Bool) (xs : List A) → IsTrue (list_all test xs) → IsTrue (list_all test (there marks xs))
all-there test [] xs h = h
all-there test (gone ∷ marks) [] h = refl
all-there test (gone ∷ marks) (x ∷ xs) h =
    let p = and_parts (test x) (list_all test xs) h in
    let rest = all-there test marks xs p.1 in
    elim gone as (λ b. IsTrue (list_all test (cond b (there marks xs) (x ∷ there marks xs)))) [
      | true ↦ rest
      | false ↦ and_from (test x) (list_all test (there marks xs)) p.0 rest
    ]

pub distinct-there : (marks : List Bool) (xs : List Frame) → IsTrue (are_distinct xs) → IsTrue (are_distinct (there marks xs))
distinct-there [] xs h = h
distinct-there (gone ∷ marks) [] h = refl
distinct-there (gone ∷ marks) (x ∷ xs) h =
    let p = and_parts (not (list_any (is_numbered x.number) xs)) (are_distinct xs) h in
    let rest = distinct-there marks xs p.1 in
    let none = any-there (is_numbered x.number) marks xs (not-true (list_any (is_numbered x.number) xs) p.0) in
    elim gone as (λ b. IsTrue (are_distinct (cond b (there marks xs) (x ∷ there marks xs)))) [
      | true ↦ rest
      | false ↦ and_from (not (list_any (is_numbered x.number) (there marks xs))) (are_distinct (there marks xs)) (ap not none) rest
    ]

-- those that go to what is right around them stand no further in
pub here-there : (marks : List Bool) (xs : List Frame) (k : ℕ) → HereFrom k xs → HereFrom k (there marks xs)
here-there [] xs k h = h
here-there (gone ∷ marks) [] k h = h
here-there (gone ∷ marks) (x ∷ xs) zero h = all-there is_here (gone ∷ marks) (x ∷ xs) h
here-there (gone ∷ marks) (x ∷ xs) (suc k) h =
    let inner = here-there marks xs k h in
    let later = here-later (there marks xs) k (suc k) (omega arith) inner in
    elim gone as (λ b. HereFrom (suc k) (cond b (there marks xs) (x ∷ there marks xs))) [
      | true ↦ later
      | false ↦ inner
    ]

-- where none is gone
pub there-all : {A : Type 0} (marks : List Bool) (xs : List A) → gone_in marks ≡ 0 → there marks xs ≡ xs
there-all [] xs h = refl
there-all (gone ∷ marks) [] h = refl
there-all (true ∷ marks) (x ∷ xs) h = absurd (omega arith)
there-all (false ∷ marks) (x ∷ xs) h = ap (λ rest. x ∷ rest) (there-all marks xs h)

-- where the one at a place stands then
pub there-at : {A : Type 0} (marks : List Bool) (xs : List A) (n : ℕ) (d : A) → n < length xs → get_or marks n false ≡ false → get_or (there marks xs) (length (there marks (take n xs))) d ≡ get_or xs n d
there-at marks [] n d h e = absurd (omega arith)
there-at [] (x ∷ xs) n d h e =
    ap (λ k. get_or (x ∷ xs) k d) (length-take-le n (x ∷ xs) (omega arith))
there-at (gone ∷ marks) (x ∷ xs) zero d h e =
    ap (λ b. get_or (cond b (there marks xs) (x ∷ there marks xs)) 0 d) e
there-at (gone ∷ marks) (x ∷ xs) (suc n) d h e =
    let rest = there-at marks xs n d (omega arith) e in
    elim gone as (λ b. get_or (cond b (there marks xs) (x ∷ there marks xs)) (length (cond b (there marks (take n xs)) (x ∷ there marks (take n xs)))) d ≡ get_or xs n d) [
      | true ↦ rest
      | false ↦ rest
    ]

pub there-within : {A : Type 0} (marks : List Bool) (xs : List A) (n : ℕ) → n < length xs → get_or marks n false ≡ false → length (there marks (take n xs)) < length (there marks xs)
there-within marks [] n h e = absurd (omega arith)
there-within [] (x ∷ xs) n h e =
    let front = length-take-le n (x ∷ xs) (omega arith) in
    omega arith
there-within (gone ∷ marks) (x ∷ xs) zero h e =
    subst (λ (b : Bool). 0 < length (cond b (there marks xs) (x ∷ there marks xs))) (sym e) (omega arith)
there-within (gone ∷ marks) (x ∷ xs) (suc n) h e =
    let rest = there-within marks xs n (omega arith) e in
    elim gone as (λ b. length (cond b (there marks (take n xs)) (x ∷ there marks (take n xs))) < length (cond b (there marks xs) (x ∷ there marks xs))) [
      | true ↦ rest
      | false ↦ omega arith
    ]

pub there-most : {A : Type 0} (marks : List Bool) (xs : List A) → length (there marks xs) ≤ length xs
there-most [] xs = omega arith
there-most (gone ∷ marks) [] = omega arith
there-most (gone ∷ marks) (x ∷ xs) =
    let rest = there-most marks xs in
    elim gone as (λ b. length (cond b (there marks xs) (x ∷ there marks xs)) ≤ suc (length xs)) [
      | true ↦ omega arith
      | false ↦ omega arith
    ]

-- one frame more
pub there-more : (marks : List Bool) (frames : List Frame) (n : ℕ) (d : Frame) (gone : Bool) → n < length frames → get_or marks n false ≡ gone → there marks (take (suc n) frames) ≡ cond gone (there marks (take n frames)) (there marks (take n frames) ++ get_or frames n d ∷ [])
there-more marks frames n d gone h e =
    there-next marks frames n d h
    ∙ (ap (λ b. there marks (take n frames) ++ cond b [] (get_or frames n d ∷ [])) e ∙ by-gone gone)
  where
    by-gone : (b : Bool) → there marks (take n frames) ++ cond b [] (get_or frames n d ∷ []) ≡ cond b (there marks (take n frames)) (there marks (take n frames) ++ get_or frames n d ∷ [])
    by-gone true = append-nil (there marks (take n frames))
    by-gone false = refl

pub there-count : (marks : List Bool) (frames : List Frame) (n : ℕ) (d : Frame) (gone : Bool) → n < length frames → get_or marks n false ≡ gone → length (there marks (take (suc n) frames)) ≡ cond gone (length (there marks (take n frames))) (suc (length (there marks (take n frames))))
there-count marks frames n d gone h e =
    ap length (there-more marks frames n d gone h e) ∙ by-gone gone
  where
    by-gone : (b : Bool) → length (cond b (there marks (take n frames)) (there marks (take n frames) ++ get_or frames n d ∷ [])) ≡ cond b (length (there marks (take n frames))) (suc (length (there marks (take n frames))))
    by-gone true = refl
    by-gone false =
        omega (arith, length-append (there marks (take n frames)) (get_or frames n d ∷ []))

pub some-there : (p : FramePath) → 0 < length (there p.gaps.marks.items p.frames.items)
some-there p =
    let n = length p.frames.items in
    let some = p.some in
    subst (λ (xs : List Frame). 0 < length (there p.gaps.marks.items xs)) (take_all n p.frames.items (omega arith))
    (first-there p.gaps.marks.items p.frames.items n p.gaps.first (omega arith) (omega arith))

-- The path without gaps

pub path-closed : (p q : FramePath) → q.gaps.marks.items ≡ [] → q.store ≡ p.store → q.frames.items ≡ there p.gaps.marks.items p.frames.items → path_of q ≡ path_of p
unfolding frames_of
path-closed p q whole store frames =
    path-whole q whole
    ∙ (ap (λ (s : Store). reverse (map (frame_of s) q.frames.items)) store
    ∙ (ap (λ own. reverse (map (frame_of p.store) own)) frames
    ∙ ap reverse (sym (there-map (frame_of p.store) p.gaps.marks.items p.frames.items))))

pub frame-closed : (p q : FramePath) (n m : ℕ) → n < length p.frames.items → get_or p.gaps.marks.items n false ≡ false → q.store ≡ p.store → q.frames.items ≡ there p.gaps.marks.items p.frames.items → m ≡ length (there p.gaps.marks.items (take n p.frames.items)) → frame_at q m ≡ frame_at p n
unfolding frames_of
frame-closed p q n m h stands store frames is =
    let f = get_or p.frames.items n (some-frame p) in
    let marks = p.gaps.marks.items in
    ap (λ (s : Store). get_or (map (frame_of s) q.frames.items) m dom.document) store
    ∙ (ap (λ own. get_or (map (frame_of p.store) own) m dom.document) frames
    ∙ (ap (λ k. get_or (map (frame_of p.store) (there marks p.frames.items)) k dom.document) is
    ∙ (get_or-map (frame_of p.store) (there marks p.frames.items) (length (there marks (take n p.frames.items))) f dom.document (there-within marks p.frames.items n h stands)
    ∙ (ap (frame_of p.store) (there-at marks p.frames.items n f h stands)
    ∙ sym (get_or-map (frame_of p.store) p.frames.items n f dom.document h)))))

-- A round on it

pub adopted-closed : (is_fostering : Bool) (own : Listed) (p m q : FramePath) (list : ActiveList) (entries : List Entry) (n k made : ℕ) → path_of m ≡ path_of p → m.next ≡ p.next → frame_at m k ≡ frame_at p n → IsAdopted is_fostering own (frame_at m k) (clones_in own (frame_at m k) (path_of m) entries m.next) m q list made → IsAdopted is_fostering own (frame_at p n) (clones_in own (frame_at p n) (path_of p) entries p.next) p q list made
adopted-closed is_fostering own p m q list entries n k made path next frame done =
    let same : clones_in own (frame_at m k) (path_of m) entries m.next ≡ clones_in own (frame_at p n) (path_of p) entries p.next =
    ap (λ (f : dom.Frame). clones_in own f (path_of m) entries m.next) frame
    ∙ (ap (λ (all : dom.Path). clones_in own (frame_at p n) all entries m.next) path
    ∙ ap (clones_in own (frame_at p n) (path_of p) entries) next) in
    record {
      path =
          done.path
          ∙ (ap (λ (f : dom.Frame). adopted_path is_fostering own f (clones_in own (frame_at m k) (path_of m) entries m.next) (outer_in own f (path_of m)) (path_of m)) frame
          ∙ (ap (λ (all : dom.Path). adopted_path is_fostering own (frame_at p n) (clones_in own (frame_at m k) (path_of m) entries m.next) (outer_in own (frame_at p n) all) all) path
          ∙ ap (λ (cl : Clones). adopted_path is_fostering own (frame_at p n) cl (outer_in own (frame_at p n) (path_of p)) (path_of p)) same));
      active = done.active ∙ ap (adopted_entries own) same;
      next = done.next ∙ ap (λ (cl : Clones). suc cl.next) same;
      made = ap (λ (cl : Clones). cl.next) (sym same) ∙ (done.made ∙ ap (λ (i : ℕ). i + made) next);
    }
