-- Clones come to stand where frames were.
use Rattle.std.proofs.Common.{ap, arith, inl, inr, sym, subst, ◌∙◌, ◌≡◌, ◌≢◌, ◌+◌, ◌≤◌, ◌<◌, ◌++◌, ◌||◌, ◌∷◌, [], Bool, IsTrue, List, cond, drop, false, get_or, length, map, nat_eq, nat_lt, not, refl, reverse, set, suc, take, true, zero, ℕ}
use Rattle.std.proofs.Math.ListN.{get_or-map}
use Rattle.std.proofs.Math.Seq.{drop-cons}
use Rattle.std.proofs.lemmas.Bool.{and_from, and_parts, eqb-false, ltb-true, ne_eqb, not-true, or_from, or_parts}
use Rattle.std.proofs.lemmas.List.{drop_all, get_or-set_other, get_or_default, length-map, take_all}
use Rattle.std.specs.List.{list_all, list_any}
use Rattle.tl_dom_spec.specs.Path as dom
use Rattle.tl_dom_spec.specs.Tags.{Tag}
use Rattle.tl_tree.proofs.Entering.{Opens, opens-trans, same-entered}
use Rattle.tl_tree.proofs.Fostered.{around-there}
use Rattle.tl_tree.proofs.Furthest.{frame-there}
use Rattle.tl_tree.proofs.Gone.{changed-front, changed-own, there-none}
use Rattle.tl_tree.proofs.Grown.{nodes-none}
use Rattle.tl_tree.proofs.Over.{around-same}
use Rattle.tl_tree.proofs.Readopted.{rewritten, some-frame}
use Rattle.tl_tree.proofs.Written.{children-none, frames-length, same-frame}
use Rattle.tl_tree.specs.Inner.Adopted.{AreInward, anew, clones_at, frame_at, numbers_in}
use Rattle.tl_tree.specs.Inner.Entered.{entered, entered_of, replaced, replaced_before, role_at}
use Rattle.tl_tree.specs.Inner.Framed.{are_distinct, is_numbered}
use Rattle.tl_tree.specs.Inner.Frames.{around, changed, frame_of, frames_of}
use Rattle.tl_tree.specs.Inner.Gone.{there}
use Rattle.tl_tree.specs.Inner.Store.{nodes_of, tag_at}
use Rattle.tl_tree.specs.declared.frame.Frame.{Frame}
use Rattle.tl_tree.specs.declared.frame.Place.TheVariants.{Here}
use Rattle.tl_tree.specs.declared.path.FramePath.{FramePath}
use Rattle.tl_tree.specs.declared.role.Entered.{Entered}

-- Numbers that differ

pub any-set : (frames : List Frame) (i m : ℕ) (f : Frame) → list_any (is_numbered m) frames ≡ false → nat_eq f.number m ≡ false → list_any (is_numbered m) (set frames i f) ≡ false
any-set [] i m f none other = none
any-set (x ∷ frames) zero m f none other =
    let p = or_parts (is_numbered m x) (list_any (is_numbered m) frames) none in
    or_from (is_numbered m f) (list_any (is_numbered m) frames) other p.1
any-set (x ∷ frames) (suc i) m f none other =
    let p = or_parts (is_numbered m x) (list_any (is_numbered m) frames) none in
    or_from (is_numbered m x) (list_any (is_numbered m) (set frames i f)) p.0 (any-set frames i m f p.1 other)

pub distinct-new : (frames : List Frame) (i : ℕ) (f : Frame) → list_any (is_numbered f.number) frames ≡ false → IsTrue (are_distinct frames) → IsTrue (are_distinct (set frames i f))
distinct-new [] i f none apart = apart
distinct-new (x ∷ frames) zero f none apart =
    let p = and_parts (not (list_any (is_numbered x.number) frames)) (are_distinct frames) apart in
    let q = or_parts (is_numbered f.number x) (list_any (is_numbered f.number) frames) none in
    and_from (not (list_any (is_numbered f.number) frames)) (are_distinct frames) (ap not q.1) p.1
distinct-new (x ∷ frames) (suc i) f none apart =
    let p = and_parts (not (list_any (is_numbered x.number) frames)) (are_distinct frames) apart in
    let q = or_parts (is_numbered f.number x) (list_any (is_numbered f.number) frames) none in
    let other : nat_eq f.number x.number ≡ false = ne_eqb f.number x.number (λ (same : f.number ≡ x.number). eqb-false x.number f.number q.0 (sym same)) in
    and_from (not (list_any (is_numbered x.number) (set frames i f))) (are_distinct (set frames i f))
    (ap not (any-set frames i x.number f (not-true (list_any (is_numbered x.number) frames) p.0) other))
    (distinct-new frames i f q.1 p.1)

-- What was entered

after-cons : (e : Entered) (number : ℕ) (outer inner : List Entered) → replaced_before (e ∷ outer) number inner ≡ e ∷ replaced_before outer number inner
after-cons e number outer [] = refl
after-cons e number outer (i ∷ inner) = refl

-- where the one inside isn't known
pub replaced-short : (n number : ℕ) (known cut : List Entered) → length known ≤ suc n → cut ≡ take n known → cut ≡ take (length cut) (replaced n number known)
unfolding replaced
replaced-short n number known cut h e =
    sym (take_all (length cut) cut (omega arith))
    ∙ ap (take (length cut)) (e ∙ sym (ap (replaced_before (take n known) number) (drop_all (suc n) known h)))

opens-replaced : (n number : ℕ) (known all : List Entered) → Opens known all → Opens (replaced n number known) (replaced n number all)
unfolding replaced
opens-replaced zero number [] all h = refl
opens-replaced zero number (e ∷ []) all h = refl
opens-replaced zero number (e ∷ e' ∷ known) [] h = absurd (cc)
opens-replaced zero number (e ∷ e' ∷ known) (a ∷ []) h = absurd (cc)
opens-replaced zero number (e ∷ e' ∷ known) (a ∷ a' ∷ all) h =
    let head : e' ≡ a' = cc in
    let tail : known ≡ take (length known) all = cc in
    ap (λ (own : Entered). record { number = number; role = own.role } ∷ own ∷ known) head
    ∙ ap (λ rest. record { number = number; role = a'.role } ∷ a' ∷ rest) tail
opens-replaced (suc n) number [] all h = refl
opens-replaced (suc n) number (e ∷ known) [] h = absurd (cc)
opens-replaced (suc n) number (e ∷ known) (a ∷ all) h =
    let head : e ≡ a = cc in
    let tail : known ≡ take (length known) all = cc in
    let inner : Opens (replaced n number known) (replaced n number all) = opens-replaced n number known all tail in
    subst (λ (xs : List Entered). Opens xs (replaced_before (a ∷ take n all) number (drop (suc n) all))) (sym (after-cons e number (take n known) (drop (suc n) known)))
    (subst (λ (ys : List Entered). Opens (e ∷ replaced n number known) ys) (sym (after-cons a number (take n all) (drop (suc n) all)))
    (ap (λ (own : Entered). own ∷ replaced n number known) head ∙ ap (λ rest. a ∷ rest) inner))

replaced-one : (n number : ℕ) (inside : Entered) (all : List Entered) → suc n < length all → inside ≡ get_or all (suc n) inside → replaced n number all ≡ set all n (record { number = number; role = inside.role })
unfolding replaced
replaced-one n number inside [] h is = absurd (omega arith)
replaced-one zero number inside (a ∷ []) h is = absurd (omega arith)
replaced-one zero number inside (a ∷ b ∷ all) h is =
    ap (λ (own : Entered). record { number = number; role = own.role } ∷ b ∷ all) (sym is)
replaced-one (suc n) number inside (a ∷ all) h is =
    after-cons a number (take n all) (drop (suc n) all)
    ∙ ap (λ rest. a ∷ rest) (replaced-one n number inside all (omega arith) is)

map-set : {A B : Type 0} (f : A → B) (xs : List A) (n : ℕ) (x : A) → map f (set xs n x) ≡ set (map f xs) n (f x)
map-set f [] n x = refl
map-set f (y ∷ xs) zero x = refl
map-set f (y ∷ xs) (suc n) x = ap (λ rest. f y ∷ rest) (map-set f xs n x)

-- what is known is so of the frame that was written
pub known-one : (p : FramePath) (n number : ℕ) (x b : Frame) (new : List Entered) → suc n < length p.frames.items → b ≡ get_or p.frames.items (suc n) b → x.number ≡ number → x.tag ≡ b.tag → new ≡ take (length new) (replaced n number (entered p.scopes)) → Opens new (map (entered_of p.store) (set p.frames.items n x))
known-one p n number x b new h is own tag cut =
    let s = p.store in
    let all = map (entered_of s) p.frames.items in
    let many = length-map p.frames.items (entered_of s) in
    let inside : entered_of s b ≡ get_or all (suc n) (entered_of s b) =
    ap (entered_of s) is ∙ sym (get_or-map (entered_of s) p.frames.items (suc n) b) in
    let at : replaced n number all ≡ map (entered_of s) (set p.frames.items n x) =
    replaced-one n number (entered_of s b) all (omega arith) inside
    ∙ (ap (set all n) (same-entered number x.number (role_at s b.tag) (role_at s x.tag) (sym own) (ap (λ k. role_at s k) (sym tag)))
    ∙ sym (map-set (entered_of s) p.frames.items n x)) in
    subst (λ (ys : List Entered). Opens new ys) at
    (opens-trans new (replaced n number (entered p.scopes)) (replaced n number all) cut (opens-replaced n number (entered p.scopes) all p.known))

-- no one that was entered has a number that no frame has
pub none-entered : (p : FramePath) (number : ℕ) → list_any (is_numbered number) p.frames.items ≡ false → list_any (λ (e : Entered). nat_eq e.number number) (entered p.scopes) ≡ false
none-entered p number none =
    ap (list_any (λ (e : Entered). nat_eq e.number number)) p.known
    ∙ free p.frames.items (length (entered p.scopes)) none
  where
    free : (frames : List Frame) (n : ℕ) → list_any (is_numbered number) frames ≡ false → list_any (λ (e : Entered). nat_eq e.number number) (take n (map (entered_of p.store) frames)) ≡ false
    free frames zero h = refl
    free [] (suc n) h = refl
    free (f ∷ frames) (suc n) h =
        let q = or_parts (is_numbered number f) (list_any (is_numbered number) frames) h in
        or_from (nat_eq f.number number) (list_any (λ (e : Entered). nat_eq e.number number) (take n (map (entered_of p.store) frames))) q.0 (free frames n q.1)

-- What the frame stands for

pub stood-anew : (p q : FramePath) (n number : ℕ) (x b : Frame) → q.store ≡ p.store → q.frames.items ≡ set p.frames.items n x → suc n < length p.frames.items → b ≡ get_or p.frames.items (suc n) b → x ≡ record { number = number; tag = b.tag; children = 0; late = 0; waiting = 0; place = Here; is_open = true } → frames_of q ≡ changed n (anew number (frame_at p (suc n)).tag) (frames_of p)
stood-anew p q n number x b store items h is own =
    let s = p.store in
    let f = get_or p.frames.items n (some-frame p) in
    let at : f ≡ get_or p.frames.items n f = get_or_default p.frames.items n (some-frame p) f (omega arith) in
    let there : frame_at p (suc n) ≡ frame_of s b = frame-there p (suc n) b is h in
    rewritten p q n f x (anew number (frame_at p (suc n)).tag) store items at (omega arith)
    (ap (frame_of s) own
    ∙ same-frame number dom.here true (tag_at s b.tag) (frame_at p (suc n)).tag (dom.at_head (nodes_of s 0) (nodes_of s 0)) dom.no_nodes (nodes_of s 0) dom.no_nodes (ap (λ (g : dom.Frame). g.tag) (sym there)) (children-none s) (nodes-none s))

-- Places

pub inward-most : (least most : ℕ) (places : List ℕ) (i d : ℕ) → AreInward least most places → i < length places → get_or places i d < most
inward-most least most [] i d inward h = absurd (omega arith)
inward-most least most (n ∷ places) zero d inward h = inward.1
inward-most least most (n ∷ places) (suc i) d inward h =
    let rest = inward-most least n places i d inward.2 (omega arith) in
    let less = inward.1 in
    omega arith

pub inward-least : (least most : ℕ) (places : List ℕ) (i d : ℕ) → AreInward least most places → i < length places → least ≤ get_or places i d
inward-least least most [] i d inward h = absurd (omega arith)
inward-least least most (n ∷ places) zero d inward h = inward.0
inward-least least most (n ∷ places) (suc i) d inward h =
    inward-least least n places i d inward.2 (omega arith)

-- each is outside of the one before it, and a place outside of all is outside of the last
pub inward-next : (least most : ℕ) (places : List ℕ) (i d : ℕ) → d < least → AreInward least most places → i < length places → get_or places (suc i) d < get_or places i d
inward-next least most [] i d low inward h = absurd (omega arith)
inward-next least most (n ∷ []) zero d low inward h =
    let first = inward.0 in
    omega arith
inward-next least most (n ∷ m ∷ places) zero d low inward h = inward.2.1
inward-next least most (n ∷ places) (suc i) d low inward h =
    inward-next least n places i d low inward.2 (omega arith)

-- the outermost of them, or a place outside of all
pub inward-edge : (least most outside : ℕ) (places : List ℕ) → outside < most → AreInward least most places → get_or places 0 outside < most
inward-edge least most outside [] h inward = h
inward-edge least most outside (n ∷ places) h inward = inward.1

pub get-last : (places : List ℕ) (d : ℕ) → get_or places (length places) d ≡ d
get-last [] d = refl
get-last (n ∷ places) d = get-last places d

-- What is around a place

there-set : {A : Type 0} (marks : List Bool) (n : ℕ) (mark : Bool) (xs : List A) → there (set marks n mark) (take n xs) ≡ there marks (take n xs)
there-set [] n mark xs = refl
there-set (gone ∷ marks) zero mark xs = refl
there-set (gone ∷ marks) (suc n) mark [] = refl
there-set (gone ∷ marks) (suc n) mark (x ∷ xs) =
    ap (λ rest. cond gone rest (x ∷ rest)) (there-set marks n mark xs)

pub stands-set : (marks : List Bool) (n : ℕ) → get_or (set marks n false) n false ≡ false
stands-set [] n = refl
stands-set (gone ∷ marks) zero = refl
stands-set (gone ∷ marks) (suc n) = stands-set marks n

pub drop-set : {A : Type 0} (xs : List A) (n m : ℕ) (x : A) → n < m → drop m (set xs n x) ≡ drop m xs
drop-set [] n m x h = refl
drop-set (y ∷ xs) n zero x h = absurd (omega arith)
drop-set (y ∷ xs) zero (suc m) x h = refl
drop-set (y ∷ xs) (suc n) (suc m) x h = drop-set xs n m x (omega arith)

-- those further in stay
pub changed-inner : (n m : ℕ) (change : dom.Frame → dom.Frame) (frames : List dom.Frame) (d : dom.Frame) → n < m → get_or (changed n change frames) m d ≡ get_or frames m d
changed-inner n m change [] d h = refl
changed-inner n zero change (f ∷ frames) d h = absurd (omega arith)
changed-inner zero (suc m) change (f ∷ frames) d h = refl
changed-inner (suc n) (suc m) change (f ∷ frames) d h = changed-inner n m change frames d (omega arith)

-- one clone more stands around those that are there
pub around-anew : (q r : FramePath) (edge n number : ℕ) (tag : Tag) → edge ≤ n → n < length q.frames.items → length r.frames.items ≡ length q.frames.items → ((i : ℕ) → edge ≤ i → i < n → get_or q.gaps.marks.items i false ≡ true) → frames_of r ≡ changed n (anew number tag) (frames_of q) → r.gaps.marks.items ≡ set q.gaps.marks.items n false → around r (n + 1) ≡ dom.new_frame number tag dom.here ∷ around q edge
around-anew q r edge n number tag le h size gone frames marks =
    let many = frames-length q in
    let stands : get_or r.gaps.marks.items n false ≡ false = ap (λ ms. get_or ms n false) marks ∙ stands-set q.gaps.marks.items n in
    let own : frame_at r n ≡ dom.new_frame number tag dom.here =
    ap (λ fs. get_or fs n dom.document) frames ∙ changed-own n (anew number tag) (frames_of q) dom.document (omega arith) in
    let outer : around r n ≡ around q n =
    ap (λ ms. reverse (there ms (take n (frames_of r)))) marks
    ∙ (ap (λ fs. reverse (there (set q.gaps.marks.items n false) (take n fs))) frames
    ∙ (ap (λ fs. reverse (there (set q.gaps.marks.items n false) fs)) (changed-front n (anew number tag) (frames_of q))
    ∙ ap reverse (there-set q.gaps.marks.items n false (frames_of q)))) in
    around-there r n (omega arith) stands
    ∙ (ap (λ f. f ∷ around r n) own
    ∙ ap (λ rest. dom.new_frame number tag dom.here ∷ rest) (outer ∙ around-same q edge n le (omega arith) gone))

-- the clones from a place of the list on
pub clones-from : (frames : List dom.Frame) (number next : ℕ) (places : List ℕ) (i : ℕ) → i < length places → next ≡ suc number → clones_at frames number (drop i places) ≡ dom.new_frame number (get_or frames (get_or places i 0) dom.document).tag dom.here ∷ clones_at frames next (drop (suc i) places)
clones-from frames number next places i h is =
    ap (clones_at frames number) (drop-cons places i 0 h)
    ∙ ap (λ k. dom.new_frame number (get_or frames (get_or places i 0) dom.document).tag dom.here ∷ clones_at frames k (drop (suc i) places)) (sym is)

-- Numbers that no frame has

pub free-from : (p : FramePath) (first n : ℕ) → IsTrue (list_all (λ (k : ℕ). nat_lt k first) (numbers_in p)) → first ≤ n → list_any (is_numbered n) p.frames.items ≡ false
unfolding frames_of
free-from p first n before le = each p.frames.items before
  where
    each : (frames : List Frame) → IsTrue (list_all (λ (k : ℕ). nat_lt k first) (map (λ (f : dom.Frame). f.number) (map (frame_of p.store) frames))) → list_any (is_numbered n) frames ≡ false
    each [] all = refl
    each (f ∷ frames) all =
        let q = and_parts (nat_lt f.number first) (list_all (λ (k : ℕ). nat_lt k first) (map (λ (g : dom.Frame). g.number) (map (frame_of p.store) frames))) all in
        let less = ltb-true f.number first q.0 in
        or_from (nat_eq f.number n) (list_any (is_numbered n) frames) (ne_eqb f.number n (λ (same : f.number ≡ n). omega arith)) (each frames q.1)

pub numbers-before : (p : FramePath) (first : ℕ) → IsTrue (list_all (λ (f : Frame). nat_lt f.number first) p.frames.items) → IsTrue (list_all (λ (k : ℕ). nat_lt k first) (numbers_in p))
unfolding frames_of
numbers-before p first before = each p.frames.items before
  where
    each : (frames : List Frame) → IsTrue (list_all (λ (f : Frame). nat_lt f.number first) frames) → IsTrue (list_all (λ (k : ℕ). nat_lt k first) (map (λ (f : dom.Frame). f.number) (map (frame_of p.store) frames)))
    each [] all = refl
    each (f ∷ frames) all =
        let q = and_parts (nat_lt f.number first) (list_all (λ (g : Frame). nat_lt g.number first) frames) all in
        and_from (nat_lt f.number first) (list_all (λ (k : ℕ). nat_lt k first) (map (λ (g : dom.Frame). g.number) (map (frame_of p.store) frames))) q.0 (each frames q.1)

-- where tags are the same clones are
pub clones-same : (xs ys : List dom.Frame) (next : ℕ) (places : List ℕ) → map (λ (f : dom.Frame). f.tag) xs ≡ map (λ (f : dom.Frame). f.tag) ys → clones_at xs next places ≡ clones_at ys next places
clones-same xs ys next [] same = refl
clones-same xs ys next (n ∷ places) same =
    ap (λ (tag : Tag). dom.new_frame next tag dom.here ∷ clones_at xs (suc next) places)
    (sym (get_or-map (λ (f : dom.Frame). f.tag) xs n dom.document) ∙ (ap (λ tags. get_or tags n dom.document.tag) same ∙ get_or-map (λ (f : dom.Frame). f.tag) ys n dom.document))
    ∙ ap (λ rest. dom.new_frame next (get_or ys n dom.document).tag dom.here ∷ rest) (clones-same xs ys (suc next) places same)
