-- A frame is settled in the one around it, and its place is kept.
use Rattle.std.proofs.Common.{ap, arith, sym, subst, ◌∙◌, ◌≡◌, ◌≤◌, ◌<◌, ◌+◌, ◌++◌, ◌∷◌, [], Bool, IsTrue, List, cond, drop, false, get_or, length, map, refl, reverse, set, suc, take, true, zero, ℕ}
use Rattle.std.proofs.Math.Seq.{drop-cons}
use Rattle.std.proofs.lemmas.Bool.{eq-eqb}
use Rattle.std.proofs.lemmas.List.{append_assoc, get_or_default, reverse-append}
use Rattle.tl_dom_spec.specs.Path as dom
use Rattle.tl_dom_spec.specs.Tags.{Tag}
use Rattle.tl_tree.proofs.Actives.{parted}
use Rattle.tl_tree.proofs.Begun.{same-from}
use Rattle.tl_tree.proofs.Changed.{map-reverse}
use Rattle.tl_tree.proofs.Fostered.{around-gone, around-there}
use Rattle.tl_tree.proofs.Furthest.{frame-there}
use Rattle.tl_tree.proofs.Gone.{changed-front, changed-own, seen-next, shut-at, there-map, there-none}
use Rattle.tl_tree.proofs.Marks.{shut-without}
use Rattle.tl_tree.proofs.Readopted.{some-frame}
use Rattle.tl_tree.proofs.Written.{frames-length}
use Rattle.tl_tree.specs.Inner.Adopted.{emptied, filled, frame_at, moved, renewed, shape}
use Rattle.tl_tree.specs.Inner.Frames.{around, changed, closed, frames_of, path_of, seen}
use Rattle.tl_tree.specs.Inner.Gone.{are_shut, there, without}
use Rattle.tl_tree.specs.declared.path.FramePath.{FramePath}

-- an element is there
pub stands-open : (p : FramePath) (n : ℕ) → (frame_at p n).is_open ≡ true → n < length p.frames.items → get_or p.gaps.marks.items n false ≡ false
stands-open p n opened h =
    let f = get_or p.frames.items n (some-frame p) in
    let is : f ≡ get_or p.frames.items n f = get_or_default p.frames.items n (some-frame p) f h in
    shut-at p.gaps.marks.items p.frames.items n f p.shut is h
    (sym (ap (λ (g : dom.Frame). g.is_open) (frame-there p n f is h)) ∙ opened)

-- What a change leaves

pub changed-twice : (n : ℕ) (first second : dom.Frame → dom.Frame) (frames : List dom.Frame) → changed n second (changed n first frames) ≡ changed n (λ (f : dom.Frame). second (first f)) frames
changed-twice n first second [] = refl
changed-twice zero first second (f ∷ frames) = refl
changed-twice (suc n) first second (f ∷ frames) =
    ap (λ rest. f ∷ rest) (changed-twice n first second frames)

-- those further in
pub drop-changed : (n m : ℕ) (change : dom.Frame → dom.Frame) (frames : List dom.Frame) → n < m → drop m (changed n change frames) ≡ drop m frames
drop-changed n m change [] h = refl
drop-changed n zero change (f ∷ frames) h = absurd (omega arith)
drop-changed zero (suc m) change (f ∷ frames) h = refl
drop-changed (suc n) (suc m) change (f ∷ frames) h = drop-changed n m change frames (omega arith)

-- those further out
pub changed-outer : (n m : ℕ) (change : dom.Frame → dom.Frame) (frames : List dom.Frame) (d : dom.Frame) → m < n → get_or (changed n change frames) m d ≡ get_or frames m d
changed-outer n m change [] d h = refl
changed-outer zero m change (f ∷ frames) d h = absurd (omega arith)
changed-outer (suc n) zero change (f ∷ frames) d h = refl
changed-outer (suc n) (suc m) change (f ∷ frames) d h = changed-outer n m change frames d (omega arith)

-- and what each one is but for what is in it
pub shape-changed : (n m : ℕ) (change : dom.Frame → dom.Frame) (frames : List dom.Frame) (d : dom.Frame) → ((f : dom.Frame) → shape (change f) ≡ shape f) → shape (get_or (changed n change frames) m d) ≡ shape (get_or frames m d)
shape-changed n m change [] d same = refl
shape-changed zero zero change (f ∷ frames) d same = same f
shape-changed zero (suc m) change (f ∷ frames) d same = refl
shape-changed (suc n) zero change (f ∷ frames) d same = refl
shape-changed (suc n) (suc m) change (f ∷ frames) d same = shape-changed n m change frames d same

-- Outside of a frame that goes

there-without : {A : Type 0} (marks : List Bool) (n : ℕ) (xs : List A) → there (without n marks) (take n xs) ≡ there marks (take n xs)
there-without marks zero xs =
    there-none (without zero marks) ∙ sym (there-none marks)
there-without marks (suc n) [] =
    there-none (without (suc n) marks) ∙ sym (there-none marks)
there-without [] (suc n) (x ∷ xs) = ap (λ rest. x ∷ rest) (there-without [] n xs)
there-without (gone ∷ marks) (suc n) (x ∷ xs) =
    ap (λ rest. cond gone rest (x ∷ rest)) (there-without marks n xs)

seen-gone : (marks : List Bool) (xs : List dom.Frame) (a n : ℕ) → a ≤ n → n ≤ length xs → ((i : ℕ) → a ≤ i → i < n → get_or marks i false ≡ true) → seen marks (take n xs) ≡ seen marks (take a xs)
seen-gone marks xs a n le within gone =
    same-from (λ i. seen marks (take i xs)) a n le
    (λ i least below. one i least below (omega arith))
  where
    one : (i : ℕ) → a ≤ i → i < n → i + 1 ≡ suc i → seen marks (take (i + 1) xs) ≡ seen marks (take i xs)
    one i least below e =
        ap (λ k. seen marks (take k xs)) e
        ∙ seen-next marks xs i dom.document (omega arith) true (gone i least below)

-- what is around a place where the frame right around it is changed
seen-inner : (marks : List Bool) (xs : List dom.Frame) (a n : ℕ) (change : dom.Frame → dom.Frame) → a < n → n ≤ length xs → get_or marks a false ≡ false → ((i : ℕ) → a < i → i < n → get_or marks i false ≡ true) → length (changed a change xs) ≡ length xs → seen marks (take n (changed a change xs)) ≡ change (get_or xs a dom.document) ∷ seen marks (take a xs)
seen-inner marks xs a n change less within stands gone many =
    let ys = changed a change xs in
    let d = dom.document in
    seen-gone marks ys (suc a) n (omega arith) (omega arith) (λ i least below. gone i (omega arith) below)
    ∙ (seen-next marks ys a d (omega arith) false stands
    ∙ (ap (λ own. own ∷ seen marks (take a ys)) (changed-own a change xs d (omega arith))
    ∙ ap (λ rest. change (get_or xs a d) ∷ seen marks rest) (changed-front a change xs)))

changed-many : (n : ℕ) (change : dom.Frame → dom.Frame) (xs : List dom.Frame) → length (changed n change xs) ≡ length xs
changed-many n change [] = refl
changed-many zero change (x ∷ xs) = refl
changed-many (suc n) change (x ∷ xs) = ap suc (changed-many n change xs)

settled-inner : (f a : dom.Frame) (rest : dom.Path) → f.place ≡ dom.here → dom.top_settled (f ∷ a ∷ rest) ≡ dom.caught_up (dom.with_nodes (dom.node_of f) a) ∷ rest
settled-inner f a rest goes =
    ap (λ (place : dom.Place). dom.settled_at place (dom.node_of f) (a ∷ rest)) goes

-- the frame at a place is settled in the one around it
pub settled-in-place : (p : FramePath) (new : List dom.Frame) (left : List Bool) (a n : ℕ) (nodes : dom.Nodes) → a < n → n < length p.frames.items → get_or p.gaps.marks.items n false ≡ false → (frame_at p n).place ≡ dom.here → get_or p.gaps.marks.items a false ≡ false → ((i : ℕ) → a < i → i < n → get_or p.gaps.marks.items i false ≡ true) → around p n ≡ frame_at p a ∷ around p a → nodes ≡ dom.node_of (frame_at p n) → new ≡ changed n closed (changed a dom.caught_up (changed a (dom.with_nodes nodes) (frames_of p))) → left ≡ without n p.gaps.marks.items → seen left (take n new) ≡ dom.top_settled (around p (n + 1))
settled-in-place p new left a n nodes less within own goes stands gone outer is frames marks =
    let fs = frames_of p in
    let ms = p.gaps.marks.items in
    let many = frames-length p in
    let change = λ (f : dom.Frame). dom.caught_up (dom.with_nodes nodes f) in
    let ys = changed a change fs in
    let size = changed-many a change fs in
    ap (λ all. seen all (take n new)) marks
    ∙ (ap (λ all. seen (without n ms) (take n all)) frames
    ∙ (ap (seen (without n ms)) (changed-front n closed (changed a dom.caught_up (changed a (dom.with_nodes nodes) fs)))
    ∙ (ap (λ all. seen (without n ms) (take n all)) (changed-twice a (dom.with_nodes nodes) dom.caught_up fs)
    ∙ (ap reverse (there-without ms n ys)
    ∙ (seen-inner ms fs a n change less (omega arith) stands gone size
    ∙ (ap (λ own. dom.caught_up (dom.with_nodes own (frame_at p a)) ∷ around p a) is
    ∙ sym (ap dom.top_settled (around-there p n within own ∙ ap (λ rest. frame_at p n ∷ rest) outer)
    ∙ settled-inner (frame_at p n) (frame_at p a) (around p a) goes)))))))

-- what else is so then
pub settled-behind : (p : FramePath) (new : List dom.Frame) (a n : ℕ) (nodes : dom.Nodes) → a < n → new ≡ changed n closed (changed a dom.caught_up (changed a (dom.with_nodes nodes) (frames_of p))) → drop (n + 1) new ≡ drop (n + 1) (frames_of p)
settled-behind p new a n nodes less frames =
    let fs = frames_of p in
    let one = changed a (dom.with_nodes nodes) fs in
    ap (drop (n + 1)) frames
    ∙ (drop-changed n (n + 1) closed (changed a dom.caught_up one) (omega arith)
    ∙ (drop-changed a (n + 1) dom.caught_up one (omega arith)
    ∙ drop-changed a (n + 1) (dom.with_nodes nodes) fs (omega arith)))

pub settled-shapes : (p : FramePath) (new : List dom.Frame) (a n : ℕ) (nodes : dom.Nodes) → new ≡ changed n closed (changed a dom.caught_up (changed a (dom.with_nodes nodes) (frames_of p))) → (m : ℕ) → m < n → shape (get_or new m dom.document) ≡ shape (frame_at p m)
settled-shapes p new a n nodes frames m less =
    let fs = frames_of p in
    let one = changed a (dom.with_nodes nodes) fs in
    ap (λ all. shape (get_or all m dom.document)) frames
    ∙ (ap shape (changed-outer n m closed (changed a dom.caught_up one) dom.document less)
    ∙ (shape-changed a m dom.caught_up one dom.document (λ f. refl)
    ∙ shape-changed a m (dom.with_nodes nodes) fs dom.document (λ f. refl)))

map-changed : {B : Type 0} (say : dom.Frame → B) (n : ℕ) (change : dom.Frame → dom.Frame) (frames : List dom.Frame) → ((f : dom.Frame) → say (change f) ≡ say f) → map say (changed n change frames) ≡ map say frames
map-changed say n change [] same = refl
map-changed say zero change (f ∷ frames) same =
    ap (λ own. own ∷ map say frames) (same f)
map-changed say (suc n) change (f ∷ frames) same =
    ap (λ rest. say f ∷ rest) (map-changed say n change frames same)

-- what is said of frames that isn't of what is in them, and not whether they are open
pub settled-said : {B : Type 0} (say : dom.Frame → B) (p : FramePath) (new : List dom.Frame) (a n : ℕ) (nodes : dom.Nodes) → ((f : dom.Frame) → say (closed f) ≡ say f) → ((f : dom.Frame) → say (dom.caught_up f) ≡ say f) → ((f : dom.Frame) → say (dom.with_nodes nodes f) ≡ say f) → new ≡ changed n closed (changed a dom.caught_up (changed a (dom.with_nodes nodes) (frames_of p))) → map say new ≡ map say (frames_of p)
settled-said say p new a n nodes shut caught filled frames =
    let fs = frames_of p in
    let one = changed a (dom.with_nodes nodes) fs in
    ap (map say) frames
    ∙ (map-changed say n closed (changed a dom.caught_up one) shut
    ∙ (map-changed say a dom.caught_up one caught
    ∙ map-changed say a (dom.with_nodes nodes) fs filled))

-- a frame that was closed may be gone
pub shut-left : (r q : FramePath) (n : ℕ) → n < length r.frames.items → length q.frames.items ≡ length r.frames.items → frames_of q ≡ changed n closed (frames_of r) → IsTrue (are_shut (without n q.gaps.marks.items) q.frames.items)
shut-left r q n h size frames =
    let f = get_or q.frames.items n (some-frame q) in
    let many = frames-length r in
    let is : f ≡ get_or q.frames.items n f = get_or_default q.frames.items n (some-frame q) f (omega arith) in
    let there = frame-there q n f is (omega arith) in
    shut-without q.gaps.marks.items n q.frames.items f is (omega arith)
    (ap (λ (g : dom.Frame). g.is_open) (sym there)
    ∙ (ap (λ all. (get_or all n dom.document).is_open) frames
    ∙ ap (λ (g : dom.Frame). g.is_open) (changed-own n closed (frames_of r) dom.document (omega arith))))
    q.shut

pub length-changed : (r q : FramePath) (n : ℕ) (change : dom.Frame → dom.Frame) → frames_of q ≡ changed n change (frames_of r) → length q.frames.items ≡ length r.frames.items
length-changed r q n change frames =
    let own = frames-length q in
    let old = frames-length r in
    let same = ap length frames in
    let kept = changed-many n change (frames_of r) in
    omega arith

-- all between two places is gone
pub around-same : (p : FramePath) (a n : ℕ) → a ≤ n → n ≤ length p.frames.items → ((i : ℕ) → a ≤ i → i < n → get_or p.gaps.marks.items i false ≡ true) → around p n ≡ around p a
around-same p a n le within gone =
    let many = frames-length p in
    seen-gone p.gaps.marks.items (frames_of p) a n le (omega arith) gone

-- A new element right inside of the block

there-turned : {A : Type 0} (marks : List Bool) (n : ℕ) (xs : List A) (b new : A) (zs : List A) → n ≤ length xs → there (set (set marks (suc n) false) n false) (take n xs ++ (b ∷ new ∷ zs)) ≡ there marks (take n xs) ++ (b ∷ new ∷ there (drop (suc (suc n)) marks) zs)
there-turned [] n xs b new zs h = refl
there-turned (gone ∷ []) zero xs b new zs h = refl
there-turned (gone ∷ other ∷ marks) zero xs b new zs h = refl
there-turned (gone ∷ marks) (suc n) [] b new zs h = absurd (omega arith)
there-turned (gone ∷ marks) (suc n) (x ∷ xs) b new zs h =
    let rest = there-turned marks n xs b new zs (omega arith) in
    let behind = b ∷ new ∷ there (drop (suc (suc n)) marks) zs in
    let some = there marks (take n xs) in
    elim gone as (λ g. cond g (there (set (set marks (suc n) false) n false) (take n xs ++ (b ∷ new ∷ zs))) (x ∷ there (set (set marks (suc n) false) n false) (take n xs ++ (b ∷ new ∷ zs))) ≡ cond g some (x ∷ some) ++ behind) [
      | true ↦ rest
      | false ↦ ap (λ all. x ∷ all) rest
    ]

pub seen-turned : (marks : List Bool) (n : ℕ) (xs zs : List dom.Frame) (b new : dom.Frame) → n ≤ length xs → seen (set (set marks (suc n) false) n false) (take n xs ++ (b ∷ new ∷ zs)) ≡ seen (drop (suc (suc n)) marks) zs ++ (new ∷ b ∷ seen marks (take n xs))
seen-turned marks n xs zs b new h =
    let some = there marks (take n xs) in
    let inner = there (drop (suc (suc n)) marks) zs in
    ap reverse (there-turned marks n xs b new zs h)
    ∙ (reverse-append some (b ∷ new ∷ inner)
    ∙ (ap (λ all. all ++ reverse some) (reverse-append (b ∷ new ∷ []) inner)
    ∙ append_assoc (reverse inner) (new ∷ b ∷ []) (reverse some)))

-- The path on both sides of a frame

there-parted : {A : Type 0} (marks : List Bool) (xs : List A) (n : ℕ) (d : A) → n < length xs → get_or marks n false ≡ false → there marks xs ≡ there marks (take n xs) ++ get_or xs n d ∷ there (drop (suc n) marks) (drop (suc n) xs)
there-parted marks [] n d h e = absurd (omega arith)
there-parted [] (x ∷ xs) n d h e = parted (x ∷ xs) n d h
there-parted (gone ∷ marks) (x ∷ xs) zero d h e =
    ap (λ b. cond b (there marks xs) (x ∷ there marks xs)) e
there-parted (gone ∷ marks) (x ∷ xs) (suc n) d h e =
    let rest = there-parted marks xs n d (omega arith) e in
    let behind = get_or xs n d ∷ there (drop (suc n) marks) (drop (suc n) xs) in
    let some = there marks (take n xs) in
    elim gone as (λ b. cond b (there marks xs) (x ∷ there marks xs) ≡ cond b some (x ∷ some) ++ behind) [
      | true ↦ rest
      | false ↦ ap (λ all. x ∷ all) rest
    ]

pub path-there : (p : FramePath) (n : ℕ) → n < length p.frames.items → get_or p.gaps.marks.items n false ≡ false → path_of p ≡ seen (drop (suc n) p.gaps.marks.items) (drop (suc n) (frames_of p)) ++ (frame_at p n ∷ around p n)
path-there p n h stands =
    let ms = p.gaps.marks.items in
    let fs = frames_of p in
    let many = frames-length p in
    let outer = there ms (take n fs) in
    let inner = there (drop (suc n) ms) (drop (suc n) fs) in
    let own = frame_at p n in
    ap reverse (there-parted ms fs n dom.document (omega arith) stands)
    ∙ (reverse-append outer (own ∷ inner)
    ∙ (ap (λ all. all ++ reverse outer) (reverse-append (own ∷ []) inner)
    ∙ append_assoc (reverse inner) (own ∷ []) (reverse outer)))
