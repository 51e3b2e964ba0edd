-- Frames as the store grows, and one of them written.
use Rattle.std.proofs.Common.{ap, arith, sym, subst, ◌∙◌, ◌≡◌, ◌≤◌, ◌<◌, ◌+◌, ◌-◌, ◌&&◌, ◌++◌, ◌∷◌, [], Bool, Err, IfOk, IsTrue, List, Ok, Result, false, get_or, length, map, nat_le, nat_lt, refl, reverse, set, suc, take, zero, ℕ}
use Rattle.std.proofs.lemmas.Bool.{and_from, and_parts, leb-true, le-leb, ltb-true, lt-ltb}
use Rattle.std.proofs.Math.ListN.{get_or-map}
use Rattle.std.proofs.lemmas.List.{length-map, length-reverse, length-take-le}
use Rattle.std.specs.List.{list_all}
use Rattle.tl_dom_spec.specs.Path as dom
use Rattle.tl_dom_spec.specs.Tags as tags
use Rattle.tl_names.specs.declared.element_name.TheConstants.ElementName.{OTHER}
use Rattle.tl_tree.proofs.Grown.{grows_trans, node-element, node-grown, node-joined, nodes-grown, nodes-none, tag-at-grown}
use Rattle.tl_tree.proofs.Heads.{at-head-none, at-head-twice}
use Rattle.tl_tree.proofs.Listed.{begins-longer, map-same, map-take}
use Rattle.tl_tree.proofs.Changed.{changed-same}
use Rattle.tl_tree.proofs.Gone.{path-by, seen-changed, seen-last, seen-twice, there-length, there-none}
use Rattle.tl_tree.specs.Inner.Framed.{frame_is_within}
use Rattle.tl_tree.specs.Inner.Frames.{changed, children_of, frame_of, frames_of, is_frame, path_of, place_of, seen, with_late}
use Rattle.tl_tree.specs.Inner.Gone.{there}
use Rattle.tl_tree.specs.Inner.Store.{Grows, bytes_of, is_node, is_row, node_of, nodes_of, tag_at, tag_of}
use Rattle.tl_tree.specs.declared.cell.Node.{Node}
use Rattle.tl_tree.specs.declared.cell.Node.TheVariants.{Element, Joined}
use Rattle.tl_tree.specs.declared.entries.AttributeList.TheVariants.{Tags}
use Rattle.tl_tree.specs.declared.entries.Namespace.TheVariants.{Html}
use Rattle.tl_tree.specs.declared.frame.Frame.{Frame}
use Rattle.tl_tree.specs.declared.frame.Place.TheVariants.{Here}
use Rattle.tl_tree.specs.declared.path.FramePath.{FramePath}
use Rattle.tl_tree.specs.declared.store.Store.{Store}

pub all-at : {A : Type 0} (test : A → Bool) (xs : List A) (i : ℕ) (x d : A) → x ≡ get_or xs i d → i < length xs → IsTrue (list_all test xs) → IsTrue (test x)
all-at test [] i x d e h all = absurd (omega arith)
all-at test (y ∷ xs) zero x d e h all = rw e (and_parts (test y) (list_all test xs) all).0
all-at test (y ∷ xs) (suc i) x d e h all =
    all-at test xs i x d e (omega arith) (and_parts (test y) (list_all test xs) all).1

pub all-set : {A : Type 0} (test : A → Bool) (xs : List A) (i : ℕ) (x : A) → IsTrue (list_all test xs) → IsTrue (test x) → IsTrue (list_all test (set xs i x))
all-set test [] i x all one = refl
all-set test (y ∷ xs) zero x all one =
    and_from (test x) (list_all test xs) one (and_parts (test y) (list_all test xs) all).1
all-set test (y ∷ xs) (suc i) x all one =
    let p = and_parts (test y) (list_all test xs) all in
    and_from (test y) (list_all test (set xs i x)) p.0 (all-set test xs i x p.1 one)

-- what a frame has
pub record Parts (s : Store) (f : Frame) : Type 0 where
  pub tag : f.tag < length s.tags.items
  pub children : f.children ≤ length s.cells.items
  pub late : f.late ≤ length s.cells.items
  pub waiting : f.waiting ≤ length s.cells.items

pub parts-of : (s : Store) (f : Frame) → IsTrue (frame_is_within (length s.tags.items) (length s.cells.items) f) → Parts s f
parts-of s f h =
    let tags = length s.tags.items in
    let rows = length s.cells.items in
    let p = and_parts (nat_lt f.tag tags) (nat_le f.children rows && (nat_le f.late rows && nat_le f.waiting rows)) h in
    let q = and_parts (nat_le f.children rows) (nat_le f.late rows && nat_le f.waiting rows) p.1 in
    let r = and_parts (nat_le f.late rows) (nat_le f.waiting rows) q.1 in
    record {
      tag = ltb-true f.tag tags p.0;
      children = leb-true f.children rows q.0;
      late = leb-true f.late rows r.0;
      waiting = leb-true f.waiting rows r.1;
    }

pub of-parts : (s : Store) (f : Frame) → f.tag < length s.tags.items → f.children ≤ length s.cells.items → f.late ≤ length s.cells.items → f.waiting ≤ length s.cells.items → IsTrue (frame_is_within (length s.tags.items) (length s.cells.items) f)
of-parts s f a b c d =
    let tags = length s.tags.items in
    let rows = length s.cells.items in
    and_from (nat_lt f.tag tags) (nat_le f.children rows && (nat_le f.late rows && nat_le f.waiting rows)) (lt-ltb f.tag tags a)
    (and_from (nat_le f.children rows) (nat_le f.late rows && nat_le f.waiting rows) (le-leb f.children rows b)
    (and_from (nat_le f.late rows) (nat_le f.waiting rows) (le-leb f.late rows c) (le-leb f.waiting rows d)))

pub frame-more : (s t : Store) → Grows s t → (f : Frame) → IsTrue (frame_is_within (length s.tags.items) (length s.cells.items) f) → IsTrue (frame_is_within (length t.tags.items) (length t.cells.items) f)
frame-more s t g f h =
    let p = parts-of s f h in
    let tags = begins-longer s.tags.items t.tags.items g.tags in
    let cells = begins-longer s.cells.items t.cells.items g.cells in
    of-parts t f (omega arith) (omega arith) (omega arith) (omega arith)

-- frames that have the same
pub same-frame : (number : ℕ) (place : dom.Place) (is_open : Bool) (tag tag' : tags.Tag) (children children' waiting waiting' : dom.Nodes) → tag ≡ tag' → children ≡ children' → waiting ≡ waiting' → ◌≡◌ {A = dom.Frame} (record { number = number; tag = tag; children = children; waiting = waiting; place = place; is_open = is_open }) (record { number = number; tag = tag'; children = children'; waiting = waiting'; place = place; is_open = is_open })
same-frame number place is_open tag tag' children children' waiting waiting' p q r =
    ap (λ (own : tags.Tag). record { number = number; tag = own; children = children; waiting = waiting; place = place; is_open = is_open }) p
    ∙ (ap (λ (own : dom.Nodes). record { number = number; tag = tag'; children = own; waiting = waiting; place = place; is_open = is_open }) q
    ∙ ap (λ (own : dom.Nodes). record { number = number; tag = tag'; children = children'; waiting = own; place = place; is_open = is_open }) r)

-- the children of a frame, with what goes to the end of the `head` among them
children-grown : (s t : Store) → Grows s t → (f : Frame) → Parts s f → children_of t f ≡ children_of s f
children-grown s t g f p =
    ap (λ (nodes : dom.Nodes). dom.at_head nodes (nodes_of t f.late)) (nodes-grown s t g f.children p.children)
    ∙ ap (dom.at_head (nodes_of s f.children)) (nodes-grown s t g f.late p.late)

late-none : (s : Store) (nodes : dom.Nodes) (late : ℕ) → late ≡ 0 → dom.at_head nodes (nodes_of s late) ≡ nodes
late-none s nodes late e =
    ap (λ (row : ℕ). dom.at_head nodes (nodes_of s row)) e
    ∙ (ap (dom.at_head nodes) (nodes-none s) ∙ at-head-none nodes)

pub children-none : (s : Store) → dom.at_head (nodes_of s 0) (nodes_of s 0) ≡ dom.no_nodes
children-none s = late-none s (nodes_of s 0) 0 refl ∙ nodes-none s

pub frame-grown : (s t : Store) → Grows s t → (f : Frame) → IsTrue (frame_is_within (length s.tags.items) (length s.cells.items) f) → frame_of t f ≡ frame_of s f
frame-grown s t g f h =
    let p = parts-of s f h in
    same-frame f.number (place_of f.place) f.is_open (tag_at t f.tag) (tag_at s f.tag) (children_of t f) (children_of s f) (nodes_of t f.waiting) (nodes_of s f.waiting)
    (tag-at-grown s t g f.tag p.tag) (children-grown s t g f p) (nodes-grown s t g f.waiting p.waiting)

pub frames-grown : (p q : FramePath) → Grows p.store q.store → q.frames.items ≡ p.frames.items → frames_of q ≡ frames_of p
unfolding frames_of
frames-grown p q g e =
    ap (map (frame_of q.store)) e
    ∙ map-same (is_frame p) (frame_of q.store) (frame_of p.store) (frame-grown p.store q.store g) p.frames.items p.within

written : (s t : Store) → Grows s t → (frames : List Frame) (i : ℕ) (f new : Frame) (change : dom.Frame → dom.Frame) → IsTrue (list_all (frame_is_within (length s.tags.items) (length s.cells.items)) frames) → f ≡ get_or frames i f → i < length frames → frame_of t new ≡ change (frame_of s f) → map (frame_of t) (set frames i new) ≡ changed i change (map (frame_of s) frames)
written s t g [] i f new change all is h e = refl
written s t g (o ∷ frames) zero f new change all is h e =
    let p = and_parts (frame_is_within (length s.tags.items) (length s.cells.items) o) (list_all (frame_is_within (length s.tags.items) (length s.cells.items)) frames) all in
    ap (λ own. own ∷ map (frame_of t) frames) (e ∙ ap (λ (own : Frame). change (frame_of s own)) is)
    ∙ ap (λ rest. change (frame_of s o) ∷ rest)
    (map-same (frame_is_within (length s.tags.items) (length s.cells.items)) (frame_of t) (frame_of s) (frame-grown s t g) frames p.1)
written s t g (o ∷ frames) (suc i) f new change all is h e =
    let p = and_parts (frame_is_within (length s.tags.items) (length s.cells.items) o) (list_all (frame_is_within (length s.tags.items) (length s.cells.items)) frames) all in
    ap (λ own. own ∷ map (frame_of t) (set frames i new)) (frame-grown s t g o p.0)
    ∙ ap (λ rest. frame_of s o ∷ rest) (written s t g frames i f new change p.1 is (omega arith) e)

-- a frame is written, and the others stand for what they stood for
pub frame-written : (p q : FramePath) → Grows p.store q.store → (i : ℕ) (f new : Frame) (change : dom.Frame → dom.Frame) → q.frames.items ≡ set p.frames.items i new → f ≡ get_or p.frames.items i f → i < length p.frames.items → frame_of q.store new ≡ change (frame_of p.store f) → frames_of q ≡ changed i change (frames_of p)
unfolding frames_of
frame-written p q g i f new change at is h e =
    ap (map (frame_of q.store)) at ∙ written p.store q.store g p.frames.items i f new change p.within is h e

-- A row goes to the end of a frame, waits in it, or has what waited there

-- with the late nodes where they go, or as they are
pub folded : (s t : Store) → Grows s t → (f : Frame) (row : ℕ) → IsTrue (frame_is_within (length s.tags.items) (length s.cells.items) f) → nodes_of t row ≡ dom.at_head (nodes_of s f.children) (nodes_of s f.late) → frame_of t (record f { children = row; late = 0 }) ≡ frame_of s f
folded s t g f row h stands =
    let p = parts-of s f h in
    same-frame f.number (place_of f.place) f.is_open (tag_at t f.tag) (tag_at s f.tag) (dom.at_head (nodes_of t row) (nodes_of t 0)) (children_of s f) (nodes_of t f.waiting) (nodes_of s f.waiting)
    (tag-at-grown s t g f.tag p.tag)
    (late-none t (nodes_of t row) 0 refl ∙ stands)
    (nodes-grown s t g f.waiting p.waiting)

pub folded-within : (s t : Store) → Grows s t → (f : Frame) (row : ℕ) → IsTrue (frame_is_within (length s.tags.items) (length s.cells.items) f) → IsTrue (is_row t row) → IsTrue (frame_is_within (length t.tags.items) (length t.cells.items) (record f { children = row; late = 0 }))
folded-within s t g f row h k =
    let p = parts-of s f h in
    let tags = begins-longer s.tags.items t.tags.items g.tags in
    let cells = begins-longer s.cells.items t.cells.items g.cells in
    of-parts t (record f { children = row; late = 0 }) (omega arith) (leb-true row (length t.cells.items) k) (omega arith) (omega arith)

pub ready-folded : (s : Store) (f : Frame) (nodes : dom.Nodes) → f.late ≡ 0 → dom.at_head (dom.joined (nodes_of s f.children) nodes) (nodes_of s f.late) ≡ dom.joined (children_of s f) nodes
ready-folded s f nodes e =
    late-none s (dom.joined (nodes_of s f.children) nodes) f.late e
    ∙ ap (λ (own : dom.Nodes). dom.joined own nodes) (sym (late-none s (nodes_of s f.children) f.late e))

pub ready-folded-ok : {E : Type 0} (s : Store) (nodes : dom.Nodes) (r : Result Frame E) → IfOk r (λ f. f.late ≡ 0) → IfOk r (λ f. dom.at_head (dom.joined (nodes_of s f.children) nodes) (nodes_of s f.late) ≡ dom.joined (children_of s f) nodes)
ready-folded-ok s nodes (Ok f) h = ready-folded s f nodes h
ready-folded-ok s nodes (Err e) h = tt

pub put-inside : (p r m q : FramePath) (i : ℕ) (f own : Frame) (row : ℕ) (node : Node) → Grows p.store r.store → Grows r.store m.store → m.frames.items ≡ p.frames.items → q.store ≡ m.store → q.frames.items ≡ set m.frames.items i (record own { children = row }) → f ≡ get_or p.frames.items i f → i < length p.frames.items → IsTrue (is_node p.store node) → IsTrue (is_frame r own) → frame_of r.store own ≡ frame_of p.store f → dom.at_head (dom.joined (nodes_of r.store own.children) (node_of p.store node)) (nodes_of r.store own.late) ≡ dom.joined (children_of r.store own) (node_of p.store node) → nodes_of m.store row ≡ dom.joined (nodes_of r.store own.children) (node_of r.store node) → frames_of q ≡ changed i (dom.with_nodes (node_of p.store node)) (frames_of p)
put-inside p r m q i f own row node g k kept same at is h within own-within own-is behind stands =
    let new : Frame = record own { children = row } in
    let nodes = node_of p.store node in
    let last = subst (λ (s : Store). Grows r.store s) (sym same) k in
    let parts = parts-of r.store own own-within in
    frame-written p q (grows_trans p.store r.store q.store g last) i f new (dom.with_nodes nodes) (at ∙ ap (λ frames. set frames i new) kept) is h
    (same-frame own.number (place_of own.place) own.is_open (tag_at q.store own.tag) (tag_at r.store own.tag) (dom.at_head (nodes_of q.store row) (nodes_of q.store own.late)) (dom.joined (children_of r.store own) nodes) (nodes_of q.store own.waiting) (nodes_of r.store own.waiting)
    (tag-at-grown r.store q.store last own.tag parts.tag)
    (ap (λ (x : dom.Nodes). dom.at_head x (nodes_of q.store own.late))
    (ap (λ (s : Store). nodes_of s row) same ∙ (stands ∙ ap (dom.joined (nodes_of r.store own.children)) (node-grown p.store r.store g node within)))
    ∙ (ap (dom.at_head (dom.joined (nodes_of r.store own.children) nodes)) (nodes-grown r.store q.store last own.late parts.late) ∙ behind))
    (nodes-grown r.store q.store last own.waiting parts.waiting)
    ∙ ap (dom.with_nodes nodes) own-is)

pub put-waiting : (p m q : FramePath) (i : ℕ) (f : Frame) (row : ℕ) (nodes : dom.Nodes) → Grows p.store m.store → m.frames.items ≡ p.frames.items → q.store ≡ m.store → q.frames.items ≡ set m.frames.items i (record f { waiting = row }) → f ≡ get_or p.frames.items i f → i < length p.frames.items → nodes_of m.store row ≡ dom.joined (nodes_of p.store f.waiting) nodes → frames_of q ≡ changed i (dom.with_waiting nodes) (frames_of p)
put-waiting p m q i f row nodes g kept same at is h stands =
    let new : Frame = record f { waiting = row } in
    let grows = subst (λ (s : Store). Grows p.store s) (sym same) g in
    let parts = parts-of p.store f (all-at (is_frame p) p.frames.items i f f is h p.within) in
    frame-written p q grows i f new (dom.with_waiting nodes) (at ∙ ap (λ frames. set frames i new) kept) is h
    (same-frame f.number (place_of f.place) f.is_open (tag_at q.store f.tag) (tag_at p.store f.tag) (children_of q.store f) (children_of p.store f) (nodes_of q.store row) (dom.joined (nodes_of p.store f.waiting) nodes)
    (tag-at-grown p.store q.store grows f.tag parts.tag)
    (children-grown p.store q.store grows f parts)
    (ap (λ (s : Store). nodes_of s row) same ∙ stands))

pub put-at-head : (p m q : FramePath) (i : ℕ) (f : Frame) (row : ℕ) (nodes : dom.Nodes) → Grows p.store m.store → m.frames.items ≡ p.frames.items → q.store ≡ m.store → q.frames.items ≡ set m.frames.items i (record f { late = row }) → f ≡ get_or p.frames.items i f → i < length p.frames.items → nodes_of m.store row ≡ dom.joined (nodes_of p.store f.late) nodes → frames_of q ≡ changed i (with_late nodes) (frames_of p)
put-at-head p m q i f row nodes g kept same at is h stands =
    let new : Frame = record f { late = row } in
    let grows = subst (λ (s : Store). Grows p.store s) (sym same) g in
    let parts = parts-of p.store f (all-at (is_frame p) p.frames.items i f f is h p.within) in
    frame-written p q grows i f new (with_late nodes) (at ∙ ap (λ frames. set frames i new) kept) is h
    (same-frame f.number (place_of f.place) f.is_open (tag_at q.store f.tag) (tag_at p.store f.tag) (children_of q.store new) (dom.at_head (children_of p.store f) nodes) (nodes_of q.store f.waiting) (nodes_of p.store f.waiting)
    (tag-at-grown p.store q.store grows f.tag parts.tag)
    (ap (λ (x : dom.Nodes). dom.at_head x (nodes_of q.store row)) (nodes-grown p.store q.store grows f.children parts.children)
    ∙ (ap (dom.at_head (nodes_of p.store f.children)) (ap (λ (s : Store). nodes_of s row) same ∙ stands)
    ∙ sym (at-head-twice (nodes_of p.store f.children) (nodes_of p.store f.late) nodes)))
    (nodes-grown p.store q.store grows f.waiting parts.waiting))

pub caught-up : (p r m q : FramePath) (i : ℕ) (f own : Frame) (row : ℕ) → Grows p.store r.store → Grows r.store m.store → m.frames.items ≡ p.frames.items → q.store ≡ m.store → q.frames.items ≡ set m.frames.items i (record own { children = row; waiting = 0 }) → f ≡ get_or p.frames.items i f → i < length p.frames.items → IsTrue (is_frame r own) → frame_of r.store own ≡ frame_of p.store f → own.late ≡ 0 → nodes_of m.store row ≡ dom.joined (nodes_of r.store own.children) (node_of r.store (Joined own.waiting)) → frames_of q ≡ changed i dom.caught_up (frames_of p)
caught-up p r m q i f own row g k kept same at is h own-within own-is late stands =
    let new : Frame = record own { children = row; waiting = 0 } in
    let last = subst (λ (s : Store). Grows r.store s) (sym same) k in
    let parts = parts-of r.store own own-within in
    frame-written p q (grows_trans p.store r.store q.store g last) i f new dom.caught_up (at ∙ ap (λ frames. set frames i new) kept) is h
    (same-frame own.number (place_of own.place) own.is_open (tag_at q.store own.tag) (tag_at r.store own.tag) (children_of q.store new) (dom.joined (children_of r.store own) (nodes_of r.store own.waiting)) (nodes_of q.store 0) dom.no_nodes
    (tag-at-grown r.store q.store last own.tag parts.tag)
    (late-none q.store (nodes_of q.store row) own.late late
    ∙ (ap (λ (s : Store). nodes_of s row) same
    ∙ (stands
    ∙ (ap (λ (x : dom.Nodes). dom.joined x (node_of r.store (Joined own.waiting))) (sym (late-none r.store (nodes_of r.store own.children) own.late late))
    ∙ ap (dom.joined (children_of r.store own)) (node-joined r.store own.waiting)))))
    (nodes-none q.store)
    ∙ ap dom.caught_up own-is)

nothing-waits : (f : dom.Frame) → f.waiting ≡ dom.no_nodes → dom.caught_up f ≡ f
nothing-waits f e =
    same-frame f.number f.place f.is_open f.tag f.tag (dom.joined f.children f.waiting) f.children dom.no_nodes f.waiting refl (ap (dom.joined f.children) e) (sym e)

-- the frame at a place
pub frame-at : (p : FramePath) (i : ℕ) (f : Frame) → f ≡ get_or p.frames.items i f → get_or (frames_of p) i (frame_of p.store f) ≡ frame_of p.store f
unfolding frames_of
frame-at p i f is = get_or-map (frame_of p.store) p.frames.items i f ∙ ap (frame_of p.store) (sym is)

pub frames-length : (p : FramePath) → length (frames_of p) ≡ length p.frames.items
unfolding frames_of
frames-length p = length-map p.frames.items (frame_of p.store)

pub path-length : (p : FramePath) → length (path_of p) + p.gaps.count ≡ length p.frames.items
path-length p =
    let marks = p.gaps.marks.items in
    let some = p.some in
    let many = frames-length p in
    let own = length-reverse (there marks (frames_of p)) in
    let all = there-length marks (frames_of p) (omega arith) in
    let gone = p.gaps.counted in
    omega arith

-- the innermost one is there
pub path-some : (p : FramePath) → 0 < length (path_of p)
path-some p =
    let some = p.some in
    let n = length p.frames.items - 1 in
    let long : length (frames_of p) ≡ suc n = frames-length p ∙ omega arith in
    let many = ap length (seen-last p.gaps.marks.items (frames_of p) n dom.document long (omega arith)) in
    omega arith

-- frames as the store grows, where the same are gone
pub path-grown : (p q : FramePath) → Grows p.store q.store → q.frames.items ≡ p.frames.items → q.gaps ≡ p.gaps → path_of q ≡ path_of p
path-grown p q g e same =
    path-by p q same ∙ ap (seen p.gaps.marks.items) (frames-grown p q g e)

pub caught-up-none : (p : FramePath) (i : ℕ) (f : Frame) → f ≡ get_or p.frames.items i f → i < length p.frames.items → f.waiting ≡ 0 → frames_of p ≡ changed i dom.caught_up (frames_of p)
caught-up-none p i f is h e =
    let many = frames-length p in
    sym (changed-same i dom.caught_up (frames_of p) (frame_of p.store f) (omega arith) (frame-at p i f is)
    (nothing-waits (frame_of p.store f) (ap (nodes_of p.store) e ∙ nodes-none p.store)))

-- The document alone
pub path-new : (p : FramePath) (s : Store) (tag : ℕ) (none : List Frame) → p.gaps.marks.items ≡ [] → none ≡ [] → p.frames.items ≡ none ++ record { number = 0; tag = tag; children = 0; late = 0; waiting = 0; place = Here; is_open = false } ∷ [] → tag_at p.store tag ≡ tag_of s (record { space = Html; name = record { start = 0; len = 0 }; known = OTHER; number = 0; list = Tags; first_attribute = 0; attribute_count = 0; start = 0 }) → path_of p ≡ dom.document ∷ []
unfolding frames_of tag_of bytes_of
path-new p s tag none whole is e t =
    ap (λ (marks : List Bool). seen marks (frames_of p)) whole
    ∙ (ap (λ frames. reverse (map (frame_of p.store) frames)) (e ∙ ap (λ (frames : List Frame). frames ++ record { number = 0; tag = tag; children = 0; late = 0; waiting = 0; place = Here; is_open = false } ∷ []) is)
    ∙ ap (λ (f : dom.Frame). f ∷ []) (same-frame 0 dom.here false (tag_at p.store tag) (tags.bare_tag []) (dom.at_head (nodes_of p.store 0) (nodes_of p.store 0)) dom.no_nodes (nodes_of p.store 0) dom.no_nodes t (children-none p.store) (nodes-none p.store)))

-- What goes to the innermost frame

pub put-on-top : (p m q : FramePath) (n : ℕ) (node : Node) → Grows p.store m.store → IsTrue (is_node p.store node) → length p.frames.items ≡ suc n → q.gaps ≡ p.gaps → frames_of m ≡ changed n dom.caught_up (frames_of p) → frames_of q ≡ changed n (dom.with_nodes (node_of m.store node)) (frames_of m) → path_of q ≡ dom.put dom.here (node_of p.store node) (path_of p)
put-on-top p m q n node g h long same first second =
    let some = p.some in
    path-by p q same
    ∙ seen-twice p.gaps.marks.items dom.caught_up (dom.with_nodes (node_of m.store node)) (frames_of p) (frames_of m) (frames_of q) n (frames-length p ∙ long) (omega arith) first second
    ∙ ap (λ (nodes : dom.Nodes). dom.on_top (λ f. dom.with_nodes nodes (dom.caught_up f)) (path_of p)) (node-grown p.store m.store g node h)

pub settle-on-top : (p m q : FramePath) (n : ℕ) (node : Node) → length p.frames.items ≡ suc n → q.gaps ≡ p.gaps → frames_of m ≡ changed n (dom.with_nodes (node_of p.store node)) (frames_of p) → frames_of q ≡ changed n dom.caught_up (frames_of m) → path_of q ≡ dom.settled_at dom.here (node_of p.store node) (path_of p)
settle-on-top p m q n node long same first second =
    let some = p.some in
    path-by p q same
    ∙ seen-twice p.gaps.marks.items (dom.with_nodes (node_of p.store node)) dom.caught_up (frames_of p) (frames_of m) (frames_of q) n (frames-length p ∙ long) (omega arith) first second

-- nodes at the end of the `head` in the innermost frame
pub put-late : (p q : FramePath) (n : ℕ) (nodes : dom.Nodes) → length p.frames.items ≡ suc n → q.gaps ≡ p.gaps → frames_of q ≡ changed n (with_late nodes) (frames_of p) → path_of q ≡ dom.put dom.into_head nodes (path_of p)
put-late p q n nodes long same e =
    let some = p.some in
    path-by p q same
    ∙ (ap (seen p.gaps.marks.items) e
    ∙ seen-changed p.gaps.marks.items (with_late nodes) (frames_of p) n (frames-length p ∙ long) (omega arith))

-- The innermost frame goes

take-less : {A : Type 0} (m n : ℕ) (xs : List A) → m ≤ n → take m (take n xs) ≡ take m xs
take-less zero n xs h = refl
take-less (suc m) zero xs h = absurd (omega arith)
take-less (suc m) (suc n) [] h = refl
take-less (suc m) (suc n) (x ∷ xs) h = ap (λ rest. x ∷ rest) (take-less m n xs (omega arith))

pub taken-top : (p q : FramePath) (n left : ℕ) (f : Frame) → length p.frames.items ≡ suc n → f ≡ get_or p.frames.items n f → ((frames : List dom.Frame) → length frames ≡ n → there p.gaps.marks.items frames ≡ there q.gaps.marks.items (take left frames)) → q.frames.items ≡ take left p.frames.items → left ≤ n → q.store ≡ p.store → path_of p ≡ frame_of p.store f ∷ path_of q
unfolding frames_of
taken-top p q n left f long is cut frames less store =
    let own = frame_of p.store f in
    let all = map (frame_of p.store) p.frames.items in
    let marks = p.gaps.marks.items in
    let some = p.some in
    let many = length-map p.frames.items (frame_of p.store) in
    let front = length-take-le n all (omega arith) in
    let left-of : take left (take n all) ≡ map (frame_of q.store) q.frames.items =
    take-less left n all less
    ∙ (sym (map-take (frame_of p.store) left p.frames.items)
    ∙ (ap (map (frame_of p.store)) (sym frames) ∙ ap (λ (s : Store). map (frame_of s) q.frames.items) (sym store))) in
    seen-last marks all n own (omega arith) (omega arith)
    ∙ (ap (λ x. x ∷ seen marks (take n all)) (get_or-map (frame_of p.store) p.frames.items n f ∙ ap (frame_of p.store) (sym is))
    ∙ ap (λ rest. own ∷ rest) (ap reverse (cut (take n all) front) ∙ ap (seen q.gaps.marks.items) left-of))

-- where nothing goes to the end of the `head` any more
pub element-none : (s t : Store) (f own : Frame) → frame_of t own ≡ frame_of s f → own.late ≡ 0 → own.waiting ≡ 0 → node_of t (Element own.tag own.children) ≡ dom.node_of (frame_of s f)
element-none s t f own is late e =
    node-element t own.tag own.children
    ∙ (ap (λ (children : dom.Nodes). dom.and_element dom.no_nodes (tag_at t own.tag) children) (sym (late-none t (nodes_of t own.children) own.late late))
    ∙ (ap (λ (waiting : dom.Nodes). dom.and_element dom.no_nodes (tag_at t own.tag) (dom.joined (children_of t own) waiting)) (sym (ap (nodes_of t) e ∙ nodes-none t))
    ∙ ap dom.node_of is))

pub element-some : (s t u : Store) (f own : Frame) (row : ℕ) → Grows t u → IsTrue (frame_is_within (length t.tags.items) (length t.cells.items) own) → frame_of t own ≡ frame_of s f → own.late ≡ 0 → nodes_of u row ≡ dom.joined (nodes_of t own.children) (node_of t (Joined own.waiting)) → node_of u (Element own.tag row) ≡ dom.node_of (frame_of s f)
element-some s t u f own row g h is late stands =
    let parts = parts-of t own h in
    node-element u own.tag row
    ∙ (ap (λ (tag : tags.Tag). dom.and_element dom.no_nodes tag (nodes_of u row)) (tag-at-grown t u g own.tag parts.tag)
    ∙ (ap (dom.and_element dom.no_nodes (tag_at t own.tag))
    (stands
    ∙ (ap (λ (x : dom.Nodes). dom.joined x (node_of t (Joined own.waiting))) (sym (late-none t (nodes_of t own.children) own.late late))
    ∙ ap (dom.joined (children_of t own)) (node-joined t own.waiting)))
    ∙ ap dom.node_of is))

pub element-within : (s t : Store) (f : Frame) (row : ℕ) → Grows s t → IsTrue (frame_is_within (length s.tags.items) (length s.cells.items) f) → IsTrue (is_row t row) → IsTrue (is_node t (Element f.tag row))
element-within s t f row g h k =
    let parts = parts-of s f h in
    let more = begins-longer s.tags.items t.tags.items g.tags in
    and_from (nat_lt f.tag (length t.tags.items)) (nat_le row (length t.cells.items)) (lt-ltb f.tag (length t.tags.items) (omega arith)) k

settled-outer : (f : dom.Frame) (path : dom.Path) → 0 < length path → dom.top_settled (f ∷ path) ≡ dom.settled_at f.place (dom.node_of f) path
settled-outer f [] h = absurd (omega arith)
settled-outer f (g ∷ path) h = refl

pub settle-top : (p m n q : FramePath) (f : Frame) (node : Node) → path_of p ≡ frame_of p.store f ∷ path_of m → m.store ≡ p.store → frames_of n ≡ frames_of m → n.gaps ≡ m.gaps → node_of n.store node ≡ dom.node_of (frame_of m.store f) → path_of q ≡ dom.settled_at (place_of f.place) (node_of n.store node) (path_of n) → path_of q ≡ dom.top_settled (path_of p)
settle-top p m n q f node path store frames same stands settled =
    let many = path-some m in
    let place = place_of f.place in
    settled
    ∙ (ap (λ (nodes : dom.Nodes). dom.settled_at place nodes (path_of n)) (stands ∙ ap (λ (s : Store). dom.node_of (frame_of s f)) store)
    ∙ (ap (dom.settled_at place (dom.node_of (frame_of p.store f))) (path-by m n same ∙ ap (seen m.gaps.marks.items) frames)
    ∙ (sym (settled-outer (frame_of p.store f) (path_of m) (omega arith)) ∙ sym (ap dom.top_settled path))))

-- the document stays
pub settle-alone : (p : FramePath) → length p.frames.items < 2 → path_of p ≡ dom.top_settled (path_of p)
settle-alone p h =
    let some = p.some in
    let long : length (frames_of p) ≡ suc 0 = frames-length p ∙ omega arith in
    let is = seen-last p.gaps.marks.items (frames_of p) 0 dom.document long (omega arith) in
    let alone = is ∙ ap (λ rest. get_or (frames_of p) 0 dom.document ∷ reverse rest) (there-none p.gaps.marks.items) in
    alone ∙ sym (ap dom.top_settled alone)

-- what stands in a frame, as a row
pub content-none : (s t : Store) (f own : Frame) → frame_of t own ≡ frame_of s f → own.late ≡ 0 → own.waiting ≡ 0 → nodes_of t own.children ≡ dom.joined (frame_of s f).children (frame_of s f).waiting
content-none s t f own is late e =
    sym (late-none t (nodes_of t own.children) own.late late)
    ∙ (ap (dom.joined (children_of t own)) (sym (ap (nodes_of t) e ∙ nodes-none t))
    ∙ ap (λ (g : dom.Frame). dom.joined g.children g.waiting) is)

pub content-some : (s t u : Store) (f own : Frame) (row : ℕ) → frame_of t own ≡ frame_of s f → own.late ≡ 0 → nodes_of u row ≡ dom.joined (nodes_of t own.children) (node_of t (Joined own.waiting)) → nodes_of u row ≡ dom.joined (frame_of s f).children (frame_of s f).waiting
content-some s t u f own row is late stands =
    stands
    ∙ (ap (λ (x : dom.Nodes). dom.joined x (node_of t (Joined own.waiting))) (sym (late-none t (nodes_of t own.children) own.late late))
    ∙ (ap (dom.joined (children_of t own)) (node-joined t own.waiting)
    ∙ ap (λ (g : dom.Frame). dom.joined g.children g.waiting) is))
