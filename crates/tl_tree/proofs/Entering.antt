-- What was entered of a path is what its outermost frames are.
use Rattle.std.proofs.Common.{ap, arith, sym, subst, ◌∙◌, ◌≡◌, ◌<◌, ◌++◌, ◌==◌, ◌∷◌, [], Bool, Err, IsErr, IsTrue, Ok, OnErr, OnOk, Result, List, Some, cond, drop, false, get_or, length, map, not, refl, reverse, set, slice_get, suc, take, zero, ℕ}
use Rattle.std.proofs.lemmas.Bool.{and_parts, not-true, or_from, or_parts}
use Rattle.std.proofs.lemmas.List.{map-append, take-append-drop}
use Rattle.std.proofs.lemmas.Option.{same_Some, slice_get-map, slice_get_read}
use Rattle.std.specs.List.{insert, list_any}
use Rattle.std.specs.Option.{option_map}
use Rattle.tl_dom_spec.specs.Tags as tags
use Rattle.tl_tree.proofs.Grown.{number-at-grown, tag-at-grown}
use Rattle.tl_tree.proofs.Listed.{map-same, map-take}
use Rattle.tl_tree.proofs.Gone.{path-by}
use Rattle.tl_tree.proofs.Numbered.{found-any}
use Rattle.tl_tree.proofs.Numbers.{either, either-front}
use Rattle.tl_tree.proofs.Written.{parts-of}
use Rattle.tl_tree.specs.Inner.Entered.{entered, entered_of, role_at}
use Rattle.tl_tree.specs.Inner.Framed.{are_distinct, frame_is_within, numbers}
use Rattle.tl_tree.specs.Inner.Framed as framed
use Rattle.tl_tree.specs.Inner.Frames.{frame_of, frames_of, is_frame, path_of, seen}
use Rattle.tl_tree.specs.Inner.NameNumbers.{number_at}
use Rattle.tl_tree.specs.Inner.Roles.{is_numbered, role_of}
use Rattle.tl_tree.specs.Inner.Store.{Grows, tag_at}
use Rattle.tl_tree.specs.declared.frame.Frame.{Frame}
use Rattle.tl_tree.specs.declared.path.FramePath.{FramePath}
use Rattle.tl_tree.specs.declared.role.Entered.{Entered}
use Rattle.tl_tree.specs.declared.role.Role.{Role}
use Rattle.tl_tree.specs.declared.store.Store.{Store}

-- Lists that others begin with

-- it begins with this one
abbrev pub Opens : {A : Type 0} → List A → List A → Type 0
Opens xs ys = xs ≡ take (length xs) ys

-- the first ones of both
pub opens-take : {A : Type 0} (n : ℕ) (xs ys : List A) → Opens xs ys → Opens (take n xs) (take n ys)
opens-take zero xs ys h = refl
opens-take (suc n) [] ys h = refl
opens-take (suc n) (x ∷ xs) [] h = absurd (cc)
opens-take (suc n) (x ∷ xs) (y ∷ ys) h =
    let tail : xs ≡ take (length xs) ys = cc in
    let head : x ≡ y = cc in
    let inner = opens-take n xs ys tail in
    cc

-- more behind the other one
opens-more : {A : Type 0} (xs ys zs : List A) → Opens xs ys → Opens xs (ys ++ zs)
opens-more [] ys zs h = refl
opens-more (x ∷ xs) [] zs h = absurd (cc)
opens-more (x ∷ xs) (y ∷ ys) zs h =
    let tail : xs ≡ take (length xs) ys = cc in
    let head : x ≡ y = cc in
    let inner = opens-more xs ys zs tail in
    cc

-- the next one too
opens-next : {A : Type 0} (xs ys : List A) (x : A) → Opens xs ys → slice_get ys (length xs) ≡ Some x → Opens (xs ++ x ∷ []) ys
opens-next [] [] x h e = absurd (cc)
opens-next [] (y ∷ ys) x h e = ap (λ own. own ∷ []) (sym (same_Some y x e))
opens-next (x ∷ xs) [] z h e = absurd (cc)
opens-next (x ∷ xs) (y ∷ ys) z h e =
    let tail : xs ≡ take (length xs) ys = cc in
    let head : x ≡ y = cc in
    let inner = opens-next xs ys z tail e in
    cc

-- what begins with the beginning
pub opens-trans : {A : Type 0} (xs ys zs : List A) → Opens xs ys → Opens ys zs → Opens xs zs
opens-trans [] ys zs h k = refl
opens-trans (x ∷ xs) [] zs h k = absurd (cc)
opens-trans (x ∷ xs) (y ∷ ys) [] h k = absurd (cc)
opens-trans (x ∷ xs) (y ∷ ys) (z ∷ zs) h k =
    let tail : xs ≡ take (length xs) ys = cc in
    let head : x ≡ y = cc in
    let tail2 : ys ≡ take (length ys) zs = cc in
    let head2 : y ≡ z = cc in
    let inner = opens-trans xs ys zs tail tail2 in
    cc

-- What frames are, mapped

-- so many of both stay
pub opens-cut : {A B : Type 0} (f : A → B) (n : ℕ) (frames new : List A) (known cut : List B) → cut ≡ take n known → new ≡ take n frames → Opens known (map f frames) → Opens cut (map f new)
opens-cut {A = A} {B = B} f n frames new known cut e at h =
    subst (λ (ys : List B). Opens ys (map f new)) (sym e)
    (subst (λ (xs : List A). Opens (take n known) (map f xs)) (sym at)
    (subst (λ (ys : List B). Opens (take n known) ys) (sym (map-take f n frames)) (opens-take n known (map f frames) h)))

-- one more comes behind them, or none
pub opens-pushed : {A B : Type 0} (f : A → B) (r : Bool) (frames new : List A) (x : A) (known : List B) → new ≡ cond r (frames ++ x ∷ []) frames → Opens known (map f frames) → Opens known (map f new)
opens-pushed {A = A} {B = B} f r frames new x known e h =
    either (λ (xs : List A). Opens known (map f xs)) r (frames ++ x ∷ []) frames new e
    (subst (λ (ys : List B). Opens known ys) (sym (map-append f frames (x ∷ []))) (opens-more known (map f frames) (f x ∷ []) h))
    h

-- others come behind them, or none
pub opens-appended : {A B : Type 0} (f : A → B) (r : Bool) (frames new more : List A) (known : List B) → new ≡ cond r (frames ++ more) frames → Opens known (map f frames) → Opens known (map f new)
opens-appended {A = A} {B = B} f r frames new more known e h =
    either (λ (xs : List A). Opens known (map f xs)) r (frames ++ more) frames new e
    (subst (λ (ys : List B). Opens known ys) (sym (map-append f frames more)) (opens-more known (map f frames) (map f more) h))
    h

-- one comes between them, or none, and those before it stay
pub opens-inserted : {A B : Type 0} (f : A → B) (r : Bool) (n : ℕ) (frames new : List A) (x : A) (known cut : List B) → cut ≡ take n known → new ≡ cond r (insert frames n x) frames → Opens known (map f frames) → Opens cut (map f new)
opens-inserted {A = A} {B = B} f r n frames new x known cut e at h =
    either (λ (xs : List A). Opens cut (map f xs)) r (insert frames n x) frames new at
    (before (x ∷ drop n frames))
    (subst (λ (xs : List A). Opens cut (map f xs)) (take-append-drop n frames) (before (drop n frames)))
  where
    before : (rest : List A) → Opens cut (map f (take n frames ++ rest))
    before rest =
        subst (λ (ys : List B). Opens cut ys) (sym (map-append f (take n frames) rest))
        (opens-more cut (map f (take n frames)) (map f rest) (opens-cut f n frames (take n frames) known cut e refl h))

-- those from a place on go, or none
pub opens-parted : {T E V A B : Type 0} (f : A → B) (items : V → List A) (r : Result T E) (n : ℕ) (old new : V) (known cut : List B) → cut ≡ take n known → OnOk r (items new ≡ take n (items old)) → OnErr r (new ≡ old) → Opens known (map f (items old)) → Opens cut (map f (items new))
opens-parted {A = A} {B = B} f items r n old new known cut e front same h =
    either-front (λ (xs : List A). Opens cut (map f xs)) items r n old new front same
    (opens-cut f n (items old) (take n (items old)) known cut e refl h)
    (subst (λ (xs : List A). Opens cut (map f xs)) (take-append-drop n (items old))
    (subst (λ (ys : List B). Opens cut ys) (sym (map-append f (take n (items old)) (drop n (items old))))
    (opens-more cut (map f (take n (items old))) (map f (drop n (items old))) (opens-cut f n (items old) (take n (items old)) known cut e refl h))))

-- What is entered of frames

pub role-grown : (s t : Store) → Grows s t → (n : ℕ) → n < length s.tags.items → role_at t n ≡ role_at s n
role-grown s t g n h =
    ap (λ (tag : tags.Tag). role_of tag (number_at t n)) (tag-at-grown s t g n h)
    ∙ ap (role_of (tag_at s n)) (number-at-grown s t g n h)

entered-grown : (s t : Store) → Grows s t → (f : Frame) → IsTrue (frame_is_within (length s.tags.items) (length s.cells.items) f) → entered_of t f ≡ entered_of s f
entered-grown s t g f h =
    ap (λ (role : Role). record { number = f.number; role = role }) (role-grown s t g f.tag (parts-of s f h).tag)

-- the store grows
pub known-grown : (p : FramePath) (t : Store) → Grows p.store t → Opens (entered p.scopes) (map (entered_of t) p.frames.items)
known-grown p t g =
    subst (λ (ys : List Entered). Opens (entered p.scopes) ys)
    (sym (map-same (is_frame p) (entered_of t) (entered_of p.store) (entered-grown p.store t g) p.frames.items p.within))
    p.known

pub same-entered : (number number' : ℕ) (role role' : Role) → number ≡ number' → role ≡ role' → ◌≡◌ {A = Entered} (record { number = number; role = role }) (record { number = number'; role = role' })
same-entered number number' role role' p q =
    ap (λ (own : ℕ). record { number = own; role = role }) p
    ∙ ap (λ (own : Role). record { number = number'; role = own }) q

written : (s : Store) (frames : List Frame) (i : ℕ) (f : Frame) → f.number ≡ (get_or frames i f).number → role_at s f.tag ≡ role_at s (get_or frames i f).tag → map (entered_of s) (set frames i f) ≡ map (entered_of s) frames
written s [] i f number role = refl
written s (g ∷ frames) zero f number role =
    ap (λ own. own ∷ map (entered_of s) frames)
    (same-entered f.number g.number (role_at s f.tag) (role_at s g.tag) number role)
written s (g ∷ frames) (suc i) f number role =
    ap (λ rest. entered_of s g ∷ rest) (written s frames i f number role)

-- a frame is written
pub known-written : (p : FramePath) (i : ℕ) (f : Frame) → f.number ≡ (get_or p.frames.items i f).number → role_at p.store f.tag ≡ role_at p.store (get_or p.frames.items i f).tag → Opens (entered p.scopes) (map (entered_of p.store) (set p.frames.items i f))
known-written p i f number role =
    subst (λ (ys : List Entered). Opens (entered p.scopes) ys) (sym (written p.store p.frames.items i f number role)) p.known

pub same-there : (frames : List Frame) (i : ℕ) (f d : Frame) → f ≡ get_or frames i f → i < length frames → f ≡ get_or frames i d
same-there [] i f d is h = absurd (omega arith)
same-there (g ∷ frames) zero f d is h = is
same-there (g ∷ frames) (suc i) f d is h = same-there frames i f d is (omega arith)

-- the one that is written has the tag of the one that was there
pub role-kept : (s : Store) (frames now : List Frame) (i : ℕ) (f own d : Frame) → now ≡ frames → f ≡ get_or frames i f → i < length frames → own.tag ≡ f.tag → role_at s own.tag ≡ role_at s (get_or now i d).tag
role-kept s frames now i f own d same is h tag =
    let there : f ≡ get_or now i d = same-there frames i f d is h ∙ ap (λ (xs : List Frame). get_or xs i d) (sym same) in
    ap (λ (n : ℕ). role_at s n) (tag ∙ ap (λ (it : Frame). it.tag) there)

-- none of the frames before one has its number

number-at : (s : Store) (frames : List Frame) (n : ℕ) (own : Entered) → slice_get (map (entered_of s) frames) n ≡ Some own → slice_get (numbers frames) n ≡ Some own.number
number-at s [] n own e = absurd (cc)
number-at s (f ∷ frames) zero own e =
    ap Some (ap (λ (it : Entered). it.number) (same_Some (entered_of s f) own e))
number-at s (f ∷ frames) (suc n) own e = number-at s frames n own e

none-before : (s : Store) (frames : List Frame) (n : ℕ) (own : Entered) → IsTrue (are_distinct frames) → slice_get (map (entered_of s) frames) n ≡ Some own → list_any (is_numbered own.number) (take n (map (entered_of s) frames)) ≡ false
none-before s [] n own h e = absurd (cc)
none-before s (f ∷ frames) zero own h e = refl
none-before s (f ∷ frames) (suc n) own h e =
    let p = and_parts (not (list_any (framed.is_numbered f.number) frames)) (are_distinct frames) h in
    or_from (f.number == own.number) (list_any (is_numbered own.number) (take n (map (entered_of s) frames)))
    (found-any frames n own.number (number-at s frames n own e) f.number (not-true (list_any (framed.is_numbered f.number) frames) p.0))
    (none-before s frames n own p.1 e)

-- the next frame isn't entered yet
pub next-new : (p : FramePath) (n : ℕ) (own : Entered) → n ≡ length (entered p.scopes) → slice_get (map (entered_of p.store) p.frames.items) n ≡ Some own → list_any (is_numbered own.number) (entered p.scopes) ≡ false
next-new p n own is e =
    ap (list_any (is_numbered own.number)) p.known
    ∙ none-before p.store p.frames.items (length (entered p.scopes)) own p.distinct
    (subst (λ (k : ℕ). slice_get (map (entered_of p.store) p.frames.items) k ≡ Some own) is e)

-- the next frame is entered, or isn't
pub known-entered : {T E : Type 0} (p : FramePath) (r : Result T E) (n : ℕ) (own : Entered) (new : List Entered) → n ≡ length (entered p.scopes) → slice_get (map (entered_of p.store) p.frames.items) n ≡ Some own → OnOk r (new ≡ entered p.scopes ++ own ∷ []) → (IsErr r → new ≡ entered p.scopes) → Opens new (map (entered_of p.store) p.frames.items)
known-entered p (Ok x) n own new is e ok err =
    let all = map (entered_of p.store) p.frames.items in
    subst (λ (ys : List Entered). Opens ys all) (sym ok)
    (opens-next (entered p.scopes) all own p.known (subst (λ (k : ℕ). slice_get all k ≡ Some own) is e))
known-entered p (Err x) n own new is e ok err =
    subst (λ (ys : List Entered). Opens ys (map (entered_of p.store) p.frames.items)) (sym (err refl)) p.known

-- The frame of a number, where it is known

pub known-number : (s : Store) (frames : List Frame) (known : List Entered) (k number : ℕ) → Opens known (map (entered_of s) frames) → slice_get (map (λ (it : Entered). it.number) known) k ≡ Some number → slice_get (numbers frames) k ≡ Some number
known-number s frames [] k number h e = absurd (cc)
known-number s [] (own ∷ known) k number h e = absurd (cc)
known-number s (f ∷ frames) (own ∷ known) zero number h e =
    let head : own ≡ entered_of s f = cc in
    ap (λ (it : Entered). Some it.number) (sym head) ∙ e
known-number s (f ∷ frames) (own ∷ known) (suc k) number h e =
    let tail : known ≡ take (length known) (map (entered_of s) frames) = cc in
    known-number s frames known k number tail e

-- where none of those that are known has it
pub none-known : (s : Store) (frames : List Frame) (known : List Entered) (number : ℕ) → Opens known (map (entered_of s) frames) → list_any (is_numbered number) known ≡ false → list_any (framed.is_numbered number) (take (length known) frames) ≡ false
none-known s frames [] number h none = refl
none-known s [] (own ∷ known) number h none = absurd (cc)
none-known s (f ∷ frames) (own ∷ known) number h none =
    let head : own ≡ entered_of s f = cc in
    let tail : known ≡ take (length known) (map (entered_of s) frames) = cc in
    let p = or_parts (own.number == number) (list_any (is_numbered number) known) none in
    or_from (f.number == number) (list_any (framed.is_numbered number) (take (length known) frames))
    (ap (λ (it : Entered). it.number == number) (sym head) ∙ p.0)
    (none-known s frames known number tail p.1)

-- where it is one of the others
pub number-read : (frames : List Frame) (i number : ℕ) (f : Frame) → f ≡ get_or frames i f → i < length frames → f.number ≡ number → slice_get (numbers frames) i ≡ Some number
number-read frames i number f is h same =
    slice_get-map (λ (it : Frame). it.number) frames i
    ∙ (ap (option_map (λ (it : Frame). it.number)) (slice_get_read frames (length frames) i f refl h is) ∙ ap Some same)

-- a path of the same frames, over the same store
pub same-path : (p q : FramePath) → q.frames.items ≡ p.frames.items → q.store ≡ p.store → q.gaps ≡ p.gaps → path_of q ≡ path_of p
unfolding frames_of
same-path p q frames store same =
    path-by p q same
    ∙ (ap (λ (s : Store). seen p.gaps.marks.items (map (frame_of s) q.frames.items)) store
    ∙ ap (λ (xs : List Frame). seen p.gaps.marks.items (map (frame_of p.store) xs)) frames)

-- What a frame is to searches

pub frame-entered : (s : Store) (frames : List Frame) (i : ℕ) (f : Frame) (role : Role) → f ≡ get_or frames i f → i < length frames → role ≡ role_at s f.tag → slice_get (map (entered_of s) frames) i ≡ Some (record { number = f.number; role = role })
frame-entered s [] i f role is h e = absurd (omega arith)
frame-entered s (g ∷ frames) zero f role is h e =
    ap Some (same-entered g.number f.number (role_at s g.tag) role (sym (ap (λ (it : Frame). it.number) is)) (sym (e ∙ ap (λ (it : Frame). role_at s it.tag) is)))
frame-entered s (g ∷ frames) (suc i) f role is h e = frame-entered s frames i f role is (omega arith) e
