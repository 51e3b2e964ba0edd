-- A frame gives its place to the one inside of it, and a new one stands inside of that.
use Rattle.std.proofs.Common.{ap, arith, sym, subst, ◌∙◌, ◌≡◌, ◌+◌, ◌≤◌, ◌<◌, ◌++◌, ◌||◌, ◌∷◌, [], Bool, IsTrue, List, drop, false, get_or, length, map, nat_eq, not, refl, set, suc, take, zero, ℕ}
use Rattle.std.proofs.Math.ListN.{get_or-map}
use Rattle.std.proofs.Math.Seq.{drop-cons}
use Rattle.std.proofs.lemmas.Bool.{and_from, and_parts, ltb-true, ne_eqb, not-true, or_from, or_parts}
use Rattle.std.proofs.lemmas.List.{drop-map, drop_all, length-map, map-append, take_all}
use Rattle.std.specs.List.{list_all, list_any}
use Rattle.tl_dom_spec.specs.Path as dom
use Rattle.tl_dom_spec.specs.Tags as tags
use Rattle.tl_tree.proofs.Entering.{Opens, opens-trans, same-entered}
use Rattle.tl_tree.proofs.Listed.{all-drop, all-take, map-take}
use Rattle.tl_tree.proofs.Numbers.{all-append, fresh}
use Rattle.tl_tree.specs.Inner.Adopted.{emptied, filled, moved, renewed}
use Rattle.tl_tree.specs.Inner.Entered.{entered, entered_of, role_at, turned, turned_after}
use Rattle.tl_tree.specs.Inner.Framed.{are_distinct, is_before, is_numbered}
use Rattle.tl_tree.specs.Inner.Frames.{changed, frame_of, frames_of}
use Rattle.tl_tree.specs.Inner.Roles as roles
use Rattle.tl_tree.specs.Inner.Store.{tag_at}
use Rattle.tl_tree.specs.declared.frame.Frame.{Frame}
use Rattle.tl_tree.specs.declared.path.FramePath.{FramePath}
use Rattle.tl_tree.specs.declared.role.Entered.{Entered}
use Rattle.tl_tree.specs.declared.role.Role.{Role}
use Rattle.tl_tree.specs.declared.store.Store.{Store}

-- Two that are written

-- with two others in the place of those at a place and right behind it
abbrev pub with_two : {A : Type 0} → ℕ → A → A → List A → List A
with_two n x y xs = take n xs ++ x ∷ y ∷ drop (suc (suc n)) xs

pub set-two : {A : Type 0} (xs : List A) (n m : ℕ) (x y : A) → m ≡ suc n → suc n < length xs → set (set xs m y) n x ≡ with_two n x y xs
set-two {A = A} xs n m x y is h = ap (λ k. set (set xs k y) n x) is ∙ both xs n h
  where
    both : (xs : List A) (n : ℕ) → suc n < length xs → set (set xs (suc n) y) n x ≡ with_two n x y xs
    both [] n h = absurd (omega arith)
    both (a ∷ []) n h = absurd (omega arith)
    both (a ∷ b ∷ xs) zero h = refl
    both (a ∷ b ∷ xs) (suc n) h = ap (λ rest. a ∷ rest) (both (b ∷ xs) n (omega arith))

pub all-two : {A : Type 0} (test : A → Bool) (n : ℕ) (x y : A) (xs : List A) → IsTrue (list_all test xs) → IsTrue (test x) → IsTrue (test y) → IsTrue (list_all test (with_two n x y xs))
all-two test n x y xs all p q =
    all-append test (take n xs) (x ∷ y ∷ drop (suc (suc n)) xs) (all-take test n xs all)
    (and_from (test x) (list_all test (y ∷ drop (suc (suc n)) xs)) p
    (and_from (test y) (list_all test (drop (suc (suc n)) xs)) q (all-drop test (suc (suc n)) xs all)))

map-two : {A B : Type 0} (f : A → B) (n : ℕ) (x y : A) (xs : List A) → map f (with_two n x y xs) ≡ with_two n (f x) (f y) (map f xs)
map-two f n x y xs =
    map-append f (take n xs) (x ∷ y ∷ drop (suc (suc n)) xs)
    ∙ (ap (λ front. front ++ f x ∷ f y ∷ map f (drop (suc (suc n)) xs)) (map-take f n xs)
    ∙ ap (λ back. take n (map f xs) ++ f x ∷ f y ∷ back) (sym (drop-map f (suc (suc n)) xs)))

-- Numbers that differ

any-two : (frames : List Frame) (n m : ℕ) (x y d : Frame) → list_any (is_numbered m) frames ≡ false → x.number ≡ (get_or frames (suc n) d).number → nat_eq y.number m ≡ false → suc n < length frames → list_any (is_numbered m) (with_two n x y frames) ≡ false
any-two [] n m x y d none is other h = absurd (omega arith)
any-two (a ∷ []) n m x y d none is other h = absurd (omega arith)
any-two (a ∷ b ∷ frames) zero m x y d none is other h =
    let p = or_parts (is_numbered m a) (list_any (is_numbered m) (b ∷ frames)) none in
    let q = or_parts (is_numbered m b) (list_any (is_numbered m) frames) p.1 in
    or_from (nat_eq x.number m) (is_numbered m y || list_any (is_numbered m) frames) (ap (λ k. nat_eq k m) is ∙ q.0)
    (or_from (nat_eq y.number m) (list_any (is_numbered m) frames) other q.1)
any-two (a ∷ b ∷ frames) (suc n) m x y d none is other h =
    let p = or_parts (is_numbered m a) (list_any (is_numbered m) (b ∷ frames)) none in
    or_from (is_numbered m a) (list_any (is_numbered m) (with_two n x y (b ∷ frames))) p.0
    (any-two (b ∷ frames) n m x y d p.1 is other (omega arith))

pub distinct-two : (frames : List Frame) (n next : ℕ) (x y d : Frame) → IsTrue (are_distinct frames) → IsTrue (list_all (is_before next) frames) → x.number ≡ (get_or frames (suc n) d).number → next ≤ y.number → suc n < length frames → IsTrue (are_distinct (with_two n x y frames))
distinct-two [] n next x y d apart before is le h = absurd (omega arith)
distinct-two (a ∷ []) n next x y d apart before is le h = absurd (omega arith)
distinct-two (a ∷ b ∷ frames) zero next x y d apart before is le h =
    let p = and_parts (not (list_any (is_numbered a.number) (b ∷ frames))) (are_distinct (b ∷ frames)) apart in
    let q = and_parts (not (list_any (is_numbered b.number) frames)) (are_distinct frames) p.1 in
    let r = and_parts (is_before next a) (list_all (is_before next) (b ∷ frames)) before in
    let s = and_parts (is_before next b) (list_all (is_before next) frames) r.1 in
    let less = ltb-true b.number next s.0 in
    and_from (not (list_any (is_numbered x.number) (y ∷ frames))) (are_distinct (y ∷ frames))
    (ap not (or_from (nat_eq y.number x.number) (list_any (is_numbered x.number) frames) (ne_eqb y.number x.number (λ (same : y.number ≡ x.number). omega arith))
    (ap (λ k. list_any (is_numbered k) frames) is ∙ not-true (list_any (is_numbered b.number) frames) q.0)))
    (and_from (not (list_any (is_numbered y.number) frames)) (are_distinct frames) (ap not (fresh frames y.number next le s.1)) q.1)
distinct-two (a ∷ b ∷ frames) (suc n) next x y d apart before is le h =
    let p = and_parts (not (list_any (is_numbered a.number) (b ∷ frames))) (are_distinct (b ∷ frames)) apart in
    let r = and_parts (is_before next a) (list_all (is_before next) (b ∷ frames)) before in
    let less = ltb-true a.number next r.0 in
    and_from (not (list_any (is_numbered a.number) (with_two n x y (b ∷ frames)))) (are_distinct (with_two n x y (b ∷ frames)))
    (ap not (any-two (b ∷ frames) n a.number x y d (not-true (list_any (is_numbered a.number) (b ∷ frames)) p.0) is (ne_eqb y.number a.number (λ (same : y.number ≡ a.number). omega arith)) (omega arith)))
    (distinct-two (b ∷ frames) n next x y d p.1 r.1 is le (omega arith))

-- What was entered

after-cons : (e new : Entered) (outer inner : List Entered) → turned_after (e ∷ outer) new inner ≡ e ∷ turned_after outer new inner
after-cons e new outer [] = refl
after-cons e new outer (i ∷ inner) = refl

-- where the one inside isn't known
pub turned-short : (n : ℕ) (new : Entered) (known cut : List Entered) → length known ≤ suc n → cut ≡ take n known → cut ≡ take (length cut) (turned n new known)
unfolding turned
turned-short n new known cut h e =
    sym (take_all (length cut) cut (omega arith))
    ∙ ap (take (length cut)) (e ∙ sym (ap (turned_after (take n known) new) (drop_all (suc n) known h)))

opens-turned : (n : ℕ) (new : Entered) (known all : List Entered) → Opens known all → Opens (turned n new known) (turned n new all)
unfolding turned
opens-turned zero new [] all h = refl
opens-turned zero new (e ∷ []) all h = refl
opens-turned zero new (e ∷ e' ∷ known) [] h = absurd (cc)
opens-turned zero new (e ∷ e' ∷ known) (a ∷ []) h = absurd (cc)
opens-turned zero new (e ∷ e' ∷ known) (a ∷ a' ∷ all) h =
    let head : e' ≡ a' = cc in
    let tail : known ≡ take (length known) all = cc in
    cc
opens-turned (suc n) new [] all h = refl
opens-turned (suc n) new (e ∷ known) [] h = absurd (cc)
opens-turned (suc n) new (e ∷ known) (a ∷ all) h =
    let head : e ≡ a = cc in
    let tail : known ≡ take (length known) all = cc in
    let inner : Opens (turned n new known) (turned n new all) = opens-turned n new known all tail in
    subst (λ (xs : List Entered). Opens xs (turned_after (a ∷ take n all) new (drop (suc n) all))) (sym (after-cons e new (take n known) (drop (suc n) known)))
    (subst (λ (ys : List Entered). Opens (e ∷ turned n new known) ys) (sym (after-cons a new (take n all) (drop (suc n) all)))
    (ap (λ (own : Entered). own ∷ turned n new known) head ∙ ap (λ rest. a ∷ rest) inner))

turned-two : (n : ℕ) (inside new : Entered) (all : List Entered) → suc n < length all → inside ≡ get_or all (suc n) inside → with_two n inside new all ≡ turned n new all
unfolding turned
turned-two n inside new all h is =
    ap (λ own. take n all ++ own ∷ new ∷ drop (suc (suc n)) all) is
    ∙ sym (ap (turned_after (take n all) new) (drop-cons all (suc n) inside h))

-- what is known is so of the frames that were written
pub known-two : (p : FramePath) (n : ℕ) (x y b : Frame) (role : Role) (new : List Entered) → suc n < length p.frames.items → b ≡ get_or p.frames.items (suc n) b → x.number ≡ b.number → x.tag ≡ b.tag → role ≡ role_at p.store y.tag → new ≡ take (length new) (turned n (record { number = y.number; role = role }) (entered p.scopes)) → Opens new (map (entered_of p.store) (with_two n x y p.frames.items))
known-two p n x y b role new h is number tag is-role cut =
    let s = p.store in
    let all = map (entered_of s) p.frames.items in
    let many = length-map p.frames.items (entered_of s) in
    let own : Entered = record { number = y.number; role = role } in
    let inside : entered_of s b ≡ get_or all (suc n) (entered_of s b) =
    ap (entered_of s) is ∙ sym (get_or-map (entered_of s) p.frames.items (suc n) b) in
    let at : turned n own all ≡ map (entered_of s) (with_two n x y p.frames.items) =
    sym (turned-two n (entered_of s b) own all (omega arith) inside)
    ∙ (ap (λ (e : Entered). with_two n e own all) (same-entered b.number x.number (role_at s b.tag) (role_at s x.tag) (sym number) (ap (λ k. role_at s k) (sym tag)))
    ∙ (ap (λ (e : Entered). with_two n (entered_of s x) e all) (same-entered y.number y.number role (role_at s y.tag) refl is-role)
    ∙ sym (map-two (entered_of s) n x y p.frames.items))) in
    subst (λ (ys : List Entered). Opens new ys) at
    (opens-trans new (turned n own (entered p.scopes)) (turned n own all) cut (opens-turned n own (entered p.scopes) all p.known))

-- no one that was entered has the next number
pub next-free : (p : FramePath) → list_any (roles.is_numbered p.next) (entered p.scopes) ≡ false
next-free p =
    ap (list_any (roles.is_numbered p.next)) p.known
    ∙ free p.frames.items (length (entered p.scopes)) p.numbered
  where
    free : (frames : List Frame) (n : ℕ) → IsTrue (list_all (is_before p.next) frames) → list_any (roles.is_numbered p.next) (take n (map (entered_of p.store) frames)) ≡ false
    free frames zero before = refl
    free [] (suc n) before = refl
    free (f ∷ frames) (suc n) before =
        let q = and_parts (is_before p.next f) (list_all (is_before p.next) frames) before in
        let less = ltb-true f.number p.next q.0 in
        or_from (nat_eq f.number p.next) (list_any (roles.is_numbered p.next) (take n (map (entered_of p.store) frames))) (ne_eqb f.number p.next (λ (same : f.number ≡ p.next). omega arith)) (free frames n q.1)

-- What the frames stand for

-- the frames that were written, and those inside moved
pub turned-frames : (p q : FramePath) (n m k j : ℕ) (tag : ℕ) (x y b : Frame) (new : List dom.Frame) → new ≡ take k (frames_of q) ++ map (moved b.number j) (drop k (frames_of q)) → q.store ≡ p.store → q.frames.items ≡ set (set p.frames.items m y) n x → m ≡ suc n → k ≡ suc (suc n) → suc n < length p.frames.items → b ≡ get_or p.frames.items (suc n) b → frame_of p.store x ≡ emptied (frame_of p.store b) → frame_of p.store y ≡ filled j (tag_at p.store tag) (frame_of p.store b) → new ≡ take n (frames_of p) ++ renewed j (tag_at p.store tag) (drop m (frames_of p))
unfolding frames_of
turned-frames p q n m k j tag x y b new e same at is-m is-k h is is-x is-y =
    let s = p.store in
    let frames = map (frame_of s) p.frames.items in
    let many = length-map p.frames.items (frame_of s) in
    let block = frame_of s b in
    let change = moved b.number j in
    let inner = filled j (tag_at s tag) block in
    let done : List dom.Frame → List dom.Frame = λ fs. take (suc (suc n)) fs ++ map change (drop (suc (suc n)) fs) in
    let there : block ≡ get_or frames (suc n) block = ap (frame_of s) is ∙ sym (get_or-map (frame_of s) p.frames.items (suc n) b) in
    let back : drop (suc n) frames ≡ block ∷ drop (suc (suc n)) frames =
    drop-cons frames (suc n) block (omega arith) ∙ ap (λ f. f ∷ drop (suc (suc n)) frames) (sym there) in
    let now : map (frame_of q.store) q.frames.items ≡ with_two n (emptied block) inner frames =
    ap (λ (t : Store). map (frame_of t) q.frames.items) same
    ∙ (ap (map (frame_of s)) (at ∙ set-two p.frames.items n m x y is-m h)
    ∙ (map-two (frame_of s) n x y p.frames.items
    ∙ (ap (λ f. with_two n f (frame_of s y) frames) is-x ∙ ap (λ f. with_two n (emptied block) f frames) is-y))) in
    e
    ∙ (ap (λ i. take i (map (frame_of q.store) q.frames.items) ++ map change (drop i (map (frame_of q.store) q.frames.items))) is-k
    ∙ (ap done now
    ∙ (two-done n (emptied block) inner change frames (omega arith)
    ∙ (ap (λ fs. take n frames ++ renewed j (tag_at s tag) fs) (sym back)
    ∙ ap (λ i. take n frames ++ renewed j (tag_at s tag) (drop i frames)) (sym is-m)))))
  where
    two-done : (n : ℕ) (f g : dom.Frame) (change : dom.Frame → dom.Frame) (frames : List dom.Frame) → suc n < length frames → take (suc (suc n)) (with_two n f g frames) ++ map change (drop (suc (suc n)) (with_two n f g frames)) ≡ take n frames ++ (f ∷ g ∷ map change (drop (suc (suc n)) frames))
    two-done n f g change [] h = absurd (omega arith)
    two-done zero f g change (a ∷ frames) h = refl
    two-done (suc n) f g change (a ∷ frames) h =
        ap (λ rest. a ∷ rest) (two-done n f g change frames (omega arith))
