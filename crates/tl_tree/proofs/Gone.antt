-- Paths from which frames are gone.
use Rattle.std.proofs.Common.{ap, arith, sym, ◌∙◌, ◌≡◌, ◌≤◌, ◌<◌, ◌+◌, ◌&&◌, ◌++◌, ◌∷◌, [], Bool, IsTrue, List, cond, false, get_or, length, map, not, refl, reverse, set, suc, take, true, zero, ℕ}
use Rattle.std.proofs.Math.Seq.{take-suc}
use Rattle.std.proofs.lemmas.Bool.{and_from, and_parts, false≢true}
use Rattle.std.proofs.lemmas.List.{append-nil, reverse-append, take_all}
use Rattle.std.proofs.lemmas.List.Elements.{filter-append}
use Rattle.tl_dom_spec.specs.Path as dom
use Rattle.tl_tree.specs.Inner.Frames.{changed, frame_of, frames_of, path_of, seen}
use Rattle.tl_tree.specs.Inner.Gone.{are_shut, gone_in, there}
use Rattle.tl_tree.specs.declared.frame.Frame.{Frame}
use Rattle.tl_tree.specs.declared.gaps.Gaps.{Gaps}
use Rattle.tl_tree.specs.declared.path.FramePath.{FramePath}
use Rattle.tl_tree.specs.declared.store.Store.{Store}

pub there-map : {A B : Type 0} (f : A → B) (marks : List Bool) (xs : List A) → there marks (map f xs) ≡ map f (there marks xs)
there-map f [] xs = refl
there-map f (gone ∷ marks) [] = refl
there-map f (gone ∷ marks) (x ∷ xs) =
    elim gone as (λ b. cond b (there marks (map f xs)) (f x ∷ there marks (map f xs)) ≡ map f (cond b (there marks xs) (x ∷ there marks xs))) [
      | true ↦ there-map f marks xs
      | false ↦ ap (λ rest. f x ∷ rest) (there-map f marks xs)
    ]

pub there-none : {A : Type 0} (marks : List Bool) → ◌≡◌ {A = List A} (there marks []) []
there-none [] = refl
there-none (gone ∷ marks) = refl

-- The innermost one, which is there

last-parted : {A : Type 0} (xs : List A) (n : ℕ) (d : A) → length xs ≡ suc n → xs ≡ take n xs ++ get_or xs n d ∷ []
last-parted xs n d long =
    sym (take_all (suc n) xs (omega arith)) ∙ take-suc xs n d (omega arith)

there-last : {A : Type 0} (marks : List Bool) (xs : List A) (n : ℕ) (d : A) → length xs ≡ suc n → length marks ≤ n → there marks xs ≡ there marks (take n xs) ++ get_or xs n d ∷ []
there-last [] xs n d long h = last-parted xs n d long
there-last (gone ∷ marks) xs zero d long h = absurd (omega arith)
there-last (gone ∷ marks) [] (suc n) d long h = absurd (omega arith)
there-last (gone ∷ marks) (x ∷ xs) (suc n) d long h =
    let rest = there-last marks xs n d (omega arith) (omega arith) in
    elim gone as (λ b. cond b (there marks xs) (x ∷ there marks xs) ≡ cond b (there marks (take n xs)) (x ∷ there marks (take n xs)) ++ get_or xs n d ∷ []) [
      | true ↦ rest
      | false ↦ ap (λ own. x ∷ own) rest
    ]

pub seen-last : (marks : List Bool) (xs : List dom.Frame) (n : ℕ) (d : dom.Frame) → length xs ≡ suc n → length marks ≤ n → seen marks xs ≡ get_or xs n d ∷ seen marks (take n xs)
seen-last marks xs n d long h =
    ap reverse (there-last marks xs n d long h)
    ∙ reverse-append (there marks (take n xs)) (get_or xs n d ∷ [])

pub changed-front : (n : ℕ) (change : dom.Frame → dom.Frame) (xs : List dom.Frame) → take n (changed n change xs) ≡ take n xs
changed-front n change [] = refl
changed-front zero change (x ∷ xs) = refl
changed-front (suc n) change (x ∷ xs) = ap (λ rest. x ∷ rest) (changed-front n change xs)

pub changed-own : (n : ℕ) (change : dom.Frame → dom.Frame) (xs : List dom.Frame) (d : dom.Frame) → n < length xs → get_or (changed n change xs) n d ≡ change (get_or xs n d)
changed-own n change [] d h = absurd (omega arith)
changed-own zero change (x ∷ xs) d h = refl
changed-own (suc n) change (x ∷ xs) d h = changed-own n change xs d (omega arith)

changed-many : (n : ℕ) (change : dom.Frame → dom.Frame) (xs : List dom.Frame) → length (changed n change xs) ≡ length xs
changed-many n change [] = refl
changed-many zero change (x ∷ xs) = refl
changed-many (suc n) change (x ∷ xs) = ap suc (changed-many n change xs)

-- it is changed
pub seen-changed : (marks : List Bool) (change : dom.Frame → dom.Frame) (xs : List dom.Frame) (n : ℕ) → length xs ≡ suc n → length marks ≤ n → seen marks (changed n change xs) ≡ dom.on_top change (seen marks xs)
seen-changed marks change xs n long h =
    let d = dom.document in
    let ys = changed n change xs in
    let many = changed-many n change xs in
    seen-last marks ys n d (omega arith) h
    ∙ (ap (λ own. own ∷ seen marks (take n ys)) (changed-own n change xs d (omega arith))
    ∙ (ap (λ rest. change (get_or xs n d) ∷ seen marks rest) (changed-front n change xs)
    ∙ sym (ap (dom.on_top change) (seen-last marks xs n d long h))))

on-top-twice : (first second : dom.Frame → dom.Frame) (path : List dom.Frame) → dom.on_top second (dom.on_top first path) ≡ dom.on_top (λ f. second (first f)) path
on-top-twice first second [] = refl
on-top-twice first second (f ∷ path) = refl

-- and changed again
pub seen-twice : (marks : List Bool) (first second : dom.Frame → dom.Frame) (xs mid last : List dom.Frame) (n : ℕ) → length xs ≡ suc n → length marks ≤ n → mid ≡ changed n first xs → last ≡ changed n second mid → seen marks last ≡ dom.on_top (λ f. second (first f)) (seen marks xs)
seen-twice marks first second xs mid last n long h p q =
    let many = ap length p ∙ changed-many n first xs in
    ap (seen marks) q
    ∙ (seen-changed marks second mid n (omega arith) h
    ∙ (ap (dom.on_top second) (ap (seen marks) p ∙ seen-changed marks first xs n long h)
    ∙ on-top-twice first second (seen marks xs)))

-- A frame further in

pub there-next : {A : Type 0} (marks : List Bool) (xs : List A) (n : ℕ) (d : A) → n < length xs → there marks (take (suc n) xs) ≡ there marks (take n xs) ++ cond (get_or marks n false) [] (get_or xs n d ∷ [])
there-next marks [] n d h = absurd (omega arith)
there-next [] (x ∷ xs) n d h = take-suc (x ∷ xs) n d h
there-next (gone ∷ marks) (x ∷ xs) zero d h =
    elim gone as (λ b. cond b (there marks []) (x ∷ there marks []) ≡ cond b [] (x ∷ [])) [
      | true ↦ there-none marks
      | false ↦ ap (λ rest. x ∷ rest) (there-none marks)
    ]
there-next (gone ∷ marks) (x ∷ xs) (suc n) d h =
    let rest = there-next marks xs n d (omega arith) in
    let own = cond (get_or marks n false) [] (get_or xs n d ∷ []) in
    elim gone as (λ b. cond b (there marks (take (suc n) xs)) (x ∷ there marks (take (suc n) xs)) ≡ cond b (there marks (take n xs)) (x ∷ there marks (take n xs)) ++ own) [
      | true ↦ rest
      | false ↦ ap (λ all. x ∷ all) rest
    ]

pub seen-next : (marks : List Bool) (xs : List dom.Frame) (n : ℕ) (d : dom.Frame) → n < length xs → (gone : Bool) → get_or marks n false ≡ gone → seen marks (take (suc n) xs) ≡ cond gone (seen marks (take n xs)) (get_or xs n d ∷ seen marks (take n xs))
seen-next marks xs n d h gone e =
    ap reverse (there-next marks xs n d h ∙ ap (λ b. there marks (take n xs) ++ cond b [] (get_or xs n d ∷ [])) e)
    ∙ by-gone gone
  where
    by-gone : (b : Bool) → reverse (there marks (take n xs) ++ cond b [] (get_or xs n d ∷ [])) ≡ cond b (seen marks (take n xs)) (get_or xs n d ∷ seen marks (take n xs))
    by-gone true = ap reverse (append-nil (there marks (take n xs)))
    by-gone false = reverse-append (there marks (take n xs)) (get_or xs n d ∷ [])

-- Those that are gone are no elements

pub filter-reverse : (xs : List dom.Frame) → dom.elements (reverse xs) ≡ reverse (dom.elements xs)
filter-reverse [] = refl
filter-reverse (x ∷ xs) =
    ap dom.elements (reverse-append (x ∷ []) xs)
    ∙ (filter-append (λ (f : dom.Frame). f.is_open) (reverse xs) (x ∷ [])
    ∙ (ap (λ (own : List dom.Frame). own ++ dom.elements (x ∷ [])) (filter-reverse xs) ∙ one x.is_open))
  where
    one : (b : Bool) → reverse (dom.elements xs) ++ cond b (x ∷ []) [] ≡ reverse (cond b (x ∷ dom.elements xs) (dom.elements xs))
    one true = sym (reverse-append (x ∷ []) (dom.elements xs))
    one false = append-nil (reverse (dom.elements xs))

pub elements-there : (s : Store) (marks : List Bool) (frames : List Frame) → IsTrue (are_shut marks frames) → dom.elements (there marks (map (frame_of s) frames)) ≡ dom.elements (map (frame_of s) frames)
elements-there s [] frames h = refl
elements-there s (gone ∷ marks) [] h = refl
elements-there s (gone ∷ marks) (f ∷ frames) h =
    let p = and_parts (not (gone && f.is_open)) (are_shut marks frames) h in
    by-gone gone ∙ by-both gone f.is_open p.0 (elements-there s marks frames p.1)
  where
    own : dom.Frame
    own = frame_of s f

    some : List dom.Frame
    some = there marks (map (frame_of s) frames)

    all : List dom.Frame
    all = map (frame_of s) frames

    by-gone : (b : Bool) → dom.elements (cond b some (own ∷ some)) ≡ cond b (dom.elements some) (cond f.is_open (own ∷ dom.elements some) (dom.elements some))
    by-gone true = refl
    by-gone false = refl

    by-both : (b o : Bool) → IsTrue (not (b && o)) → dom.elements some ≡ dom.elements all → cond b (dom.elements some) (cond o (own ∷ dom.elements some) (dom.elements some)) ≡ cond o (own ∷ dom.elements all) (dom.elements all)
    by-both true true k e = absurd (false≢true k)
    by-both true false k e = e
    by-both false true k e = ap (λ rest. own ∷ rest) e
    by-both false false k e = e

pub elements-seen : (p : FramePath) → dom.elements (path_of p) ≡ dom.elements (reverse (frames_of p))
unfolding frames_of
elements-seen p =
    filter-reverse (there p.gaps.marks.items (frames_of p))
    ∙ (ap reverse (elements-there p.store p.gaps.marks.items p.frames.items p.shut)
    ∙ sym (filter-reverse (frames_of p)))

pub shut-at : (marks : List Bool) (frames : List Frame) (n : ℕ) (f : Frame) → IsTrue (are_shut marks frames) → f ≡ get_or frames n f → n < length frames → f.is_open ≡ true → get_or marks n false ≡ false
shut-at [] frames n f h is less opened = refl
shut-at (gone ∷ marks) [] n f h is less opened = absurd (omega arith)
shut-at (gone ∷ marks) (g ∷ frames) zero f h is less opened =
    let p = and_parts (not (gone && g.is_open)) (are_shut marks frames) h in
    by-gone gone (ap (λ b. not (gone && b)) (sym opened ∙ ap (λ (o : Frame). o.is_open) is) ∙ p.0)
  where
    by-gone : (b : Bool) → IsTrue (not (b && true)) → b ≡ false
    by-gone true k = absurd (false≢true k)
    by-gone false k = refl
shut-at (gone ∷ marks) (g ∷ frames) (suc n) f h is less opened =
    shut-at marks frames n f (and_parts (not (gone && g.is_open)) (are_shut marks frames) h).1 is (omega arith) opened

-- What keeps them shut

shut-kept : (gone : Bool) (new old : Bool) → (new ≡ true → old ≡ true) → IsTrue (not (gone && old)) → IsTrue (not (gone && new))
shut-kept false new old h k = refl
shut-kept true false old h k = refl
shut-kept true true old h k = ap (λ b. not b) (sym (h refl)) ∙ k

pub shut-set : (marks : List Bool) (frames : List Frame) (i : ℕ) (f : Frame) → (f.is_open ≡ true → (get_or frames i f).is_open ≡ true) → IsTrue (are_shut marks frames) → IsTrue (are_shut marks (set frames i f))
shut-set [] frames i f h all = refl
shut-set (gone ∷ marks) [] i f h all = refl
shut-set (gone ∷ marks) (g ∷ frames) zero f h all =
    let p = and_parts (not (gone && g.is_open)) (are_shut marks frames) all in
    and_from (not (gone && f.is_open)) (are_shut marks frames) (shut-kept gone f.is_open g.is_open h p.0) p.1
shut-set (gone ∷ marks) (g ∷ frames) (suc i) f h all =
    let p = and_parts (not (gone && g.is_open)) (are_shut marks frames) all in
    and_from (not (gone && g.is_open)) (are_shut marks (set frames i f)) p.0 (shut-set marks frames i f h p.1)

pub shut-take : (marks : List Bool) (frames : List Frame) (m n : ℕ) → IsTrue (are_shut marks frames) → IsTrue (are_shut (take m marks) (take n frames))
shut-take [] frames zero n all = refl
shut-take [] frames (suc m) n all = refl
shut-take (gone ∷ marks) frames zero n all = refl
shut-take (gone ∷ marks) frames (suc m) zero all = refl
shut-take (gone ∷ marks) [] (suc m) (suc n) all = refl
shut-take (gone ∷ marks) (f ∷ frames) (suc m) (suc n) all =
    let p = and_parts (not (gone && f.is_open)) (are_shut marks frames) all in
    and_from (not (gone && f.is_open)) (are_shut (take m marks) (take n frames)) p.0 (shut-take marks frames m n p.1)

pub shut-push : (marks : List Bool) (frames new : List Frame) → length marks ≤ length frames → IsTrue (are_shut marks frames) → IsTrue (are_shut marks (frames ++ new))
shut-push [] frames new h all = refl
shut-push (gone ∷ marks) [] new h all = absurd (omega arith)
shut-push (gone ∷ marks) (f ∷ frames) new h all =
    let p = and_parts (not (gone && f.is_open)) (are_shut marks frames) all in
    and_from (not (gone && f.is_open)) (are_shut marks (frames ++ new)) p.0 (shut-push marks frames new (omega arith) p.1)

pub there-push : {A : Type 0} (marks : List Bool) (xs ys : List A) → length marks ≤ length xs → there marks (xs ++ ys) ≡ there marks xs ++ ys
there-push [] xs ys h = refl
there-push (gone ∷ marks) [] ys h = absurd (omega arith)
there-push (gone ∷ marks) (x ∷ xs) ys h =
    let rest = there-push marks xs ys (omega arith) in
    elim gone as (λ b. cond b (there marks (xs ++ ys)) (x ∷ there marks (xs ++ ys)) ≡ cond b (there marks xs) (x ∷ there marks xs) ++ ys) [
      | true ↦ rest
      | false ↦ ap (λ own. x ∷ own) rest
    ]

pub take-nil : {A : Type 0} (n : ℕ) → ◌≡◌ {A = List A} (take n []) []
take-nil zero = refl
take-nil (suc n) = refl

-- How many are left

pub there-length : {A : Type 0} (marks : List Bool) (xs : List A) → length marks ≤ length xs → length (there marks xs) + gone_in marks ≡ length xs
there-length [] xs h = omega arith
there-length (gone ∷ marks) [] h = absurd (omega arith)
there-length (gone ∷ marks) (x ∷ xs) h =
    let rest = there-length marks xs (omega arith) in
    elim gone as (λ b. length (cond b (there marks xs) (x ∷ there marks xs)) + cond b (suc (gone_in marks)) (gone_in marks) ≡ suc (length xs)) [
      | true ↦ omega arith
      | false ↦ omega arith
    ]

-- Frames whose gaps are the same

pub path-kept : (p q : FramePath) → frames_of q ≡ frames_of p → q.gaps ≡ p.gaps → path_of q ≡ path_of p
path-kept p q frames same =
    ap (λ (g : Gaps). seen g.marks.items (frames_of q)) same ∙ ap (seen p.gaps.marks.items) frames

-- where none is gone
pub path-whole : (p : FramePath) → p.gaps.marks.items ≡ [] → path_of p ≡ reverse (frames_of p)
path-whole p whole =
    ap (λ (marks : List Bool). seen marks (frames_of p)) whole

pub whole-by : (p q : FramePath) → q.gaps ≡ p.gaps → p.gaps.marks.items ≡ [] → q.gaps.marks.items ≡ []
whole-by p q same whole = ap (λ (g : Gaps). g.marks.items) same ∙ whole

pub path-by : (p q : FramePath) → q.gaps ≡ p.gaps → path_of q ≡ seen p.gaps.marks.items (frames_of q)
path-by p q same = ap (λ (g : Gaps). seen g.marks.items (frames_of q)) same
