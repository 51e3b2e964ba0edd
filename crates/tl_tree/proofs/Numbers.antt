-- Frames that are settled keep the numbers of those that are left, and frames of other numbers can
-- be put inside of them.
use Rattle.std.proofs.Common.{ap, arith, sym, subst, ◌∙◌, ◌≡◌, ◌≤◌, ◌++◌, ◌||◌, ◌∷◌, [], Bool, Err, IsTrue, List, Ok, OnErr, OnOk, Result, cond, drop, false, length, map, nat_eq, not, refl, reverse, suc, take, true, zero, ℕ}
use Rattle.std.proofs.lemmas.Bool.{and_from, and_parts, ltb-true, ne_eqb, not-true, or_from, or_parts}
use Rattle.std.proofs.lemmas.List.{reverse-append, reverse-reverse, take-append-drop}
use Rattle.std.proofs.lemmas.List.Folds.{list_all-append, list_any-append}
use Rattle.std.specs.List.{list_all, list_any}
use Rattle.tl_dom_spec.specs.Path as dom
use Rattle.tl_tree.proofs.Changed.{map-reverse}
use Rattle.tl_tree.proofs.Gone.{path-whole}
use Rattle.tl_tree.proofs.Settled.{is_settled, settled-one}
use Rattle.tl_tree.specs.Inner.Framed.{are_distinct, is_before, is_numbered, numbers}
use Rattle.tl_tree.specs.Inner.Frames.{frame_of, frames_of, path_of}
use Rattle.tl_tree.specs.declared.frame.Frame.{Frame}
use Rattle.tl_tree.specs.declared.path.FramePath.{FramePath}
use Rattle.tl_tree.specs.declared.store.Store.{Store}

-- What is left keeps its numbers

abbrev numbers_in : dom.Path → List ℕ
numbers_in path = map (λ (f : dom.Frame). f.number) path

at-numbers : (k : ℕ) (change : dom.Frame → dom.Frame) → ((f : dom.Frame) → (change f).number ≡ f.number) → (path : dom.Path) → numbers_in (dom.at_number k change path) ≡ numbers_in path
at-numbers k change same [] = refl
at-numbers k change same (f ∷ path) =
    elim (nat_eq f.number k) as (λ b. (cond b (change f) f).number ∷ numbers_in (dom.at_number k change path) ≡ f.number ∷ numbers_in path) [
      | true ↦ ap (λ n. n ∷ numbers_in (dom.at_number k change path)) (same f) ∙ ap (λ rest. f.number ∷ rest) (at-numbers k change same path)
      | false ↦ ap (λ rest. f.number ∷ rest) (at-numbers k change same path)
    ]

settled-numbers : (place : dom.Place) (nodes : dom.Nodes) (f : dom.Frame) (path : dom.Path) → numbers_in (dom.settled_at place nodes (f ∷ path)) ≡ numbers_in (f ∷ path)
settled-numbers dom.here nodes f path = refl
settled-numbers (dom.into k) nodes f path =
    at-numbers k (dom.with_nodes nodes) (λ g. refl) (f ∷ path)
settled-numbers (dom.behind k) nodes f path =
    at-numbers k (dom.with_waiting nodes) (λ g. refl) (f ∷ path)
settled-numbers dom.into_head nodes f path = refl

numbers-kept : (test : dom.Frame → Bool) (count : List dom.Frame) (path : dom.Path) → (n : ℕ) × (numbers_in (dom.settled_while test count path) ≡ drop n (numbers_in path))
numbers-kept test [] path = (0, refl)
numbers-kept test (c ∷ count) [] = (0, refl)
numbers-kept test (c ∷ count) (f ∷ []) = (0, ap numbers_in (settled-one test (c ∷ count) f))
numbers-kept test (c ∷ count) (f ∷ g ∷ path) =
    let rest = numbers-kept test count (dom.top_settled (f ∷ g ∷ path)) in
    elim (is_settled test f) as (λ b. (n : ℕ) × (numbers_in (elim b as (λ _. dom.Path) [ true ↦ dom.settled_while test count (dom.top_settled (f ∷ g ∷ path)) | false ↦ f ∷ g ∷ path ]) ≡ drop n (numbers_in (f ∷ g ∷ path)))) [
      | true ↦ (suc rest.0, rest.1 ∙ ap (drop rest.0) (settled-numbers f.place (dom.node_of f) g path))
      | false ↦ (0, refl)
    ]

-- What none of a list is

none-drop : (test : ℕ → Bool) (n : ℕ) (ks : List ℕ) → list_any test ks ≡ false → list_any test (drop n ks) ≡ false
none-drop test zero ks h = h
none-drop test (suc n) [] h = refl
none-drop test (suc n) (k ∷ ks) h =
    none-drop test n ks (or_parts (test k) (list_any test ks) h).1

pub none-reverse : {A : Type 0} (test : A → Bool) (ks : List A) → list_any test ks ≡ false → list_any test (reverse ks) ≡ false
none-reverse test [] h = refl
none-reverse test (k ∷ ks) h =
    let p = or_parts (test k) (list_any test ks) h in
    ap (list_any test) (reverse-append (k ∷ []) ks)
    ∙ (list_any-append test (reverse ks) (k ∷ [])
    ∙ or_from (list_any test (reverse ks)) (test k || false) (none-reverse test ks p.1) (or_from (test k) false p.0 refl))

any-numbers : (test : ℕ → Bool) (frames : List Frame) → list_any (λ (f : Frame). test f.number) frames ≡ list_any test (numbers frames)
any-numbers test [] = refl
any-numbers test (f ∷ frames) = ap (λ b. test f.number || b) (any-numbers test frames)

path-numbers : (p : FramePath) → p.gaps.marks.items ≡ [] → numbers_in (path_of p) ≡ reverse (numbers p.frames.items)
unfolding frames_of
path-numbers p whole =
    ap numbers_in (path-whole p whole)
    ∙ map-reverse (λ (f : dom.Frame). f.number) (map (frame_of p.store) p.frames.items)
    ∙ ap reverse (mapped p.store p.frames.items)
  where
    mapped : (s : Store) (frames : List Frame) → numbers_in (map (frame_of s) frames) ≡ numbers frames
    mapped s [] = refl
    mapped s (f ∷ frames) = ap (λ rest. f.number ∷ rest) (mapped s frames)

-- a number that none has is not that of one that is left
pub none-left : (test : ℕ → Bool) (passes : dom.Frame → Bool) (p q : FramePath) → p.gaps.marks.items ≡ [] → q.gaps.marks.items ≡ [] → path_of q ≡ dom.popped_while passes (path_of p) → list_any (λ (f : Frame). test f.number) p.frames.items ≡ false → list_any (λ (f : Frame). test f.number) q.frames.items ≡ false
none-left test passes p q whole left-whole e h =
    let kept = numbers-kept passes (path_of p) (path_of p) in
    let left : list_any test (numbers_in (path_of q)) ≡ false =
    ap (λ path. list_any test (numbers_in path)) e
    ∙ (ap (list_any test) kept.1
    ∙ none-drop test kept.0 (numbers_in (path_of p))
    (ap (list_any test) (path-numbers p whole) ∙ none-reverse test (numbers p.frames.items) (sym (any-numbers test p.frames.items) ∙ h))) in
    any-numbers test q.frames.items
    ∙ (ap (list_any test) (sym (reverse-reverse (numbers q.frames.items)))
    ∙ none-reverse test (reverse (numbers q.frames.items)) (ap (list_any test) (sym (path-numbers q left-whole)) ∙ left))

-- Numbers that differ

abbrev pub shares : List Frame → Frame → Bool
shares ys x = list_any (is_numbered x.number) ys

pub distinct-append : (xs ys : List Frame) → IsTrue (are_distinct xs) → IsTrue (are_distinct ys) → list_any (shares ys) xs ≡ false → IsTrue (are_distinct (xs ++ ys))
distinct-append [] ys h k apart = k
distinct-append (x ∷ xs) ys h k apart =
    let p = and_parts (not (list_any (is_numbered x.number) xs)) (are_distinct xs) h in
    let q = or_parts (shares ys x) (list_any (shares ys) xs) apart in
    and_from (not (list_any (is_numbered x.number) (xs ++ ys))) (are_distinct (xs ++ ys))
    (ap not (list_any-append (is_numbered x.number) xs ys
    ∙ or_from (list_any (is_numbered x.number) xs) (shares ys x) (not-true (list_any (is_numbered x.number) xs) p.0) q.0))
    (distinct-append xs ys p.1 k q.1)

pub distinct-back : (xs ys : List Frame) → IsTrue (are_distinct (xs ++ ys)) → IsTrue (are_distinct ys)
distinct-back [] ys h = h
distinct-back (x ∷ xs) ys h =
    distinct-back xs ys (and_parts (not (list_any (is_numbered x.number) (xs ++ ys))) (are_distinct (xs ++ ys)) h).1

pub distinct-apart : (xs ys : List Frame) → IsTrue (are_distinct (xs ++ ys)) → list_any (shares ys) xs ≡ false
distinct-apart [] ys h = refl
distinct-apart (x ∷ xs) ys h =
    let p = and_parts (not (list_any (is_numbered x.number) (xs ++ ys))) (are_distinct (xs ++ ys)) h in
    let none = sym (list_any-append (is_numbered x.number) xs ys) ∙ not-true (list_any (is_numbered x.number) (xs ++ ys)) p.0 in
    or_from (shares ys x) (list_any (shares ys) xs) (or_parts (list_any (is_numbered x.number) xs) (shares ys x) none).1 (distinct-apart xs ys p.1)

-- frames that are put where the others were settled
pub distinct-settled : (passes : dom.Frame → Bool) (n : ℕ) (frames : List Frame) (p q : FramePath) → p.gaps.marks.items ≡ [] → q.gaps.marks.items ≡ [] → IsTrue (are_distinct frames) → p.frames.items ≡ take n frames → path_of q ≡ dom.popped_while passes (path_of p) → IsTrue (are_distinct (q.frames.items ++ drop n frames))
distinct-settled passes n frames p q whole left-whole h front settled =
    let parted : IsTrue (are_distinct (take n frames ++ drop n frames)) = subst (λ (all : List Frame). IsTrue (are_distinct all)) (sym (take-append-drop n frames)) h in
    let inner = drop n frames in
    let apart : list_any (shares inner) p.frames.items ≡ false = ap (list_any (shares inner)) front ∙ distinct-apart (take n frames) inner parted in
    distinct-append q.frames.items inner q.distinct (distinct-back (take n frames) inner parted)
    (none-left (λ k. list_any (is_numbered k) inner) passes p q whole left-whole settled apart)

-- A frame of a new number

any-between : (frames : List Frame) (n m : ℕ) (f : Frame) → list_any (is_numbered m) frames ≡ false → nat_eq f.number m ≡ false → list_any (is_numbered m) (take n frames ++ f ∷ drop n frames) ≡ false
any-between frames zero m f h other = or_from (nat_eq f.number m) (list_any (is_numbered m) frames) other h
any-between [] (suc n) m f h other = or_from (nat_eq f.number m) false other refl
any-between (g ∷ frames) (suc n) m f h other =
    let p = or_parts (is_numbered m g) (list_any (is_numbered m) frames) h in
    or_from (is_numbered m g) (list_any (is_numbered m) (take n frames ++ f ∷ drop n frames)) p.0 (any-between frames n m f p.1 other)

pub fresh : (frames : List Frame) (k next : ℕ) → next ≤ k → IsTrue (list_all (is_before next) frames) → list_any (is_numbered k) frames ≡ false
fresh [] k next le before = refl
fresh (g ∷ frames) k next le before =
    let q = and_parts (is_before next g) (list_all (is_before next) frames) before in
    let less = ltb-true g.number next q.0 in
    or_from (is_numbered k g) (list_any (is_numbered k) frames) (ne_eqb g.number k (λ (same : g.number ≡ k). omega arith)) (fresh frames k next le q.1)

pub distinct-insert : (frames : List Frame) (n next : ℕ) (f : Frame) → IsTrue (are_distinct frames) → IsTrue (list_all (is_before next) frames) → next ≤ f.number → IsTrue (are_distinct (take n frames ++ f ∷ drop n frames))
distinct-insert frames zero next f h before le =
    and_from (not (list_any (is_numbered f.number) frames)) (are_distinct frames) (ap not (fresh frames f.number next le before)) h
distinct-insert [] (suc n) next f h before le = refl
distinct-insert (g ∷ frames) (suc n) next f h before le =
    let p = and_parts (not (list_any (is_numbered g.number) frames)) (are_distinct frames) h in
    let q = and_parts (is_before next g) (list_all (is_before next) frames) before in
    let less = ltb-true g.number next q.0 in
    and_from (not (list_any (is_numbered g.number) (take n frames ++ f ∷ drop n frames))) (are_distinct (take n frames ++ f ∷ drop n frames))
    (ap not (any-between frames n g.number f (not-true (list_any (is_numbered g.number) frames) p.0) (ne_eqb f.number g.number (λ (same : f.number ≡ g.number). omega arith))))
    (distinct-insert frames n next f p.1 q.1 le)

pub all-insert : {A : Type 0} (test : A → Bool) (n : ℕ) (xs : List A) (x : A) → IsTrue (list_all test xs) → IsTrue (test x) → IsTrue (list_all test (take n xs ++ x ∷ drop n xs))
all-insert test zero xs x all one = and_from (test x) (list_all test xs) one all
all-insert test (suc n) [] x all one = and_from (test x) true one refl
all-insert test (suc n) (y ∷ xs) x all one =
    let p = and_parts (test y) (list_all test xs) all in
    and_from (test y) (list_all test (take n xs ++ x ∷ drop n xs)) p.0 (all-insert test n xs x p.1 one)

insert-length : {A : Type 0} (n : ℕ) (xs : List A) (x : A) → length (take n xs ++ x ∷ drop n xs) ≡ suc (length xs)
insert-length zero xs x = refl
insert-length (suc n) [] x = refl
insert-length (suc n) (y ∷ xs) x = ap suc (insert-length n xs x)

pub insert-longer : {A : Type 0} (n : ℕ) (xs : List A) (x : A) → length xs ≤ length (take n xs ++ x ∷ drop n xs)
insert-longer n xs x = omega (arith, insert-length n xs x)

pub all-append : {A : Type 0} (test : A → Bool) (xs ys : List A) → IsTrue (list_all test xs) → IsTrue (list_all test ys) → IsTrue (list_all test (xs ++ ys))
all-append test xs ys p q = list_all-append test xs ys ∙ and_from (list_all test xs) (list_all test ys) p q

-- What holds of both is so of what was done, or not

pub either : {A : Type 0} (P : A → Type 0) (r : Bool) (x y z : A) → z ≡ cond r x y → P x → P y → P z
either P r x y z e p q =
    subst P (sym e) (elim r as (λ b. P (cond b x y)) [ true ↦ p | false ↦ q ])

pub either-front : {T E V A : Type 0} (P : List A → Type 0) (items : V → List A) (r : Result T E) (n : ℕ) (old new : V) → OnOk r (items new ≡ take n (items old)) → OnErr r (new ≡ old) → P (take n (items old)) → P (items old) → P (items new)
either-front P items (Ok x) n old new front same p q = subst P (sym front) p
either-front P items (Err e) n old new front same p q = subst P (sym (ap items same)) q
