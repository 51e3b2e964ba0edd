-- From where on no frame of a path passes a test: what the entered elements say of the frames, and
-- which tests pass less than others.
use Rattle.std.proofs.Common.{IsTrue, List, None, Some, [], ap, arith, drop, false, get_or, inl, inr, length, map, not, refl, subst, suc, sym, take, true, zero, ℕ, Bool, ◌==◌, ◌+◌, ◌++◌, ◌-◌, ◌<◌, ◌≤◌, ◌||◌, ◌∙◌, ◌∷◌, ◌≡◌}
use Rattle.std.proofs.lemmas.Bool.{and_from, and_parts, cases_Bool, eq-eqb, false≢true, or_parts}
use Rattle.std.proofs.lemmas.List.{drop-map, drop_all, get_or-drop, length-drop, length-map, take_all}
use Rattle.std.proofs.lemmas.List.Folds.{list_all-map, list_any-append}
use Rattle.std.proofs.lemmas.Option.{same_Some}
use Rattle.std.proofs.lemmas.Slice.Eq.{bytes_eq-Decides}
use Rattle.std.proofs.lemmas.Str.Ascii.{lowercase-lowercase}
use Rattle.std.specs.Char.{to_ascii_lowercase}
use Rattle.std.specs.List.{list_all, list_any}
use Rattle.std.specs.Prelude.{codes, slice_get}
use Rattle.std.specs.Str.{bytes_eq}
use Rattle.tl_dom_spec.specs.Path as dom
use Rattle.tl_dom_spec.specs.Tags.{Namespace, Tag, by_space, html_space, is_any, is_html, is_item_bound, is_math_mark, is_named, is_special, is_special_name, is_svg_mark, math_space, svg_space}
use Rattle.tl_html_spec.specs.Balanced.{is_one_of, words}
use Rattle.tl_names.specs.Elements.{is_among, special_names}
use Rattle.tl_tree.proofs.KnownNames.{cased-number}
use Rattle.tl_tree.proofs.Listed.{map-take}
use Rattle.tl_tree.proofs.Numbered.{found-any, found-within}
use Rattle.tl_tree.proofs.Written.{all-at, frames-length, parts-of}
use Rattle.tl_tree.specs.Inner.Adopted.{frame_at}
use Rattle.tl_tree.specs.Inner.Entered.{entered, entered_of}
use Rattle.tl_tree.specs.Inner.Framed.{are_distinct, numbers}
use Rattle.tl_tree.specs.Inner.Framed as framed
use Rattle.tl_tree.specs.Inner.Frames.{frame_of, frames_of, is_frame}
use Rattle.tl_tree.specs.Inner.Limits.{is_lowered, is_of_kind, none_from}
use Rattle.tl_tree.specs.Inner.MetNames.{in_lower_case, number_in}
use Rattle.tl_tree.specs.Inner.NameNumbers.{number_at}
use Rattle.tl_tree.specs.Inner.Roles.{is_elsewhere, is_not_of, is_of, role_of}
use Rattle.tl_tree.specs.Inner.Store.{tag_at}
use Rattle.tl_tree.specs.declared.frame.Frame.{Frame}
use Rattle.tl_tree.specs.declared.path.FramePath.{FramePath}
use Rattle.tl_tree.specs.declared.role.Entered.{Entered}
use Rattle.tl_tree.specs.declared.role.Kind.{Kind}
use Rattle.tl_tree.specs.declared.role.Kind.TheVariants.{Decisive, Html, ItemBound, Scope, Special}
use Rattle.tl_tree.specs.declared.store.Store.{Store}

-- Lists

not-true : (b : Bool) → not b ≡ true → b ≡ false
not-true true h = absurd (false≢true h)
not-true false h = refl

pub all-weaker : {A : Type 0} (p q : A → Bool) → ((x : A) → p x ≡ true → q x ≡ true) → (xs : List A) → list_all p xs ≡ true → list_all q xs ≡ true
all-weaker p q w [] h = refl
all-weaker p q w (x ∷ xs) h =
    let r = and_parts (p x) (list_all p xs) h in
    and_from (q x) (list_all q xs) (w x r.0) (all-weaker p q w xs r.1)

all-both : {A : Type 0} (p q r : A → Bool) → ((x : A) → p x ≡ true → q x ≡ true → r x ≡ true) → (xs : List A) → list_all p xs ≡ true → list_all q xs ≡ true → list_all r xs ≡ true
all-both p q r w [] h k = refl
all-both p q r w (x ∷ xs) h k =
    let a = and_parts (p x) (list_all p xs) h in
    let b = and_parts (q x) (list_all q xs) k in
    and_from (r x) (list_all r xs) (w x a.0 b.0) (all-both p q r w xs a.1 b.1)

all-further : {A : Type 0} (p : A → Bool) (a b : ℕ) (xs : List A) → a ≤ b → list_all p (drop a xs) ≡ true → list_all p (drop b xs) ≡ true
all-further p zero zero xs le h = h
all-further p zero (suc b) [] le h = refl
all-further p zero (suc b) (x ∷ xs) le h =
    all-further p zero b xs (omega arith) (and_parts (p x) (list_all p xs) h).1
all-further p (suc a) zero xs le h = absurd (omega arith)
all-further p (suc a) (suc b) [] le h = refl
all-further p (suc a) (suc b) (x ∷ xs) le h = all-further p a b xs (omega arith) h

all-none : {A : Type 0} (p : A → Bool) (xs : List A) → list_any p xs ≡ false → list_all (λ x. not (p x)) xs ≡ true
all-none p [] h = refl
all-none p (x ∷ xs) h =
    let r = or_parts (p x) (list_any p xs) h in
    and_from (not (p x)) (list_all (λ y. not (p y)) xs) (ap not r.0) (all-none p xs r.1)

mapped : {A B : Type 0} (test : B → Bool) (h : A → B) (n : ℕ) (xs : List A) → list_all test (drop n (map h xs)) ≡ list_all (λ x. test (h x)) (drop n xs)
mapped test h n xs = ap (list_all test) (drop-map h n xs) ∙ list_all-map test h (drop n xs)

-- Tests of frames

weaker-not : (a b : Bool) → (b ≡ true → a ≡ true) → not a ≡ true → not b ≡ true
weaker-not true b w h = absurd (false≢true h)
weaker-not false true w h = absurd (false≢true (w refl))
weaker-not false false w h = refl

-- what passes less
pub none-weaker : (p q : dom.Frame → Bool) → ((f : dom.Frame) → q f ≡ true → p f ≡ true) → (path : FramePath) (n : ℕ) → IsTrue (none_from p path n) → IsTrue (none_from q path n)
unfolding none_from
none-weaker p q w path n h =
    all-weaker (λ f. not (p f)) (λ f. not (q f)) (λ f k. weaker-not (p f) (q f) (w f) k) (drop n (frames_of path)) h

either-not : (a b : Bool) → not a ≡ true → not b ≡ true → not (a || b) ≡ true
either-not true b h k = absurd (false≢true h)
either-not false b h k = k

pub none-either : (p q : dom.Frame → Bool) (path : FramePath) (n : ℕ) → IsTrue (none_from p path n) → IsTrue (none_from q path n) → IsTrue (none_from (λ f. p f || q f) path n)
unfolding none_from
none-either p q path n h k =
    all-both (λ f. not (p f)) (λ f. not (q f)) (λ f. not (p f || q f)) (λ f. either-not (p f) (q f)) (drop n (frames_of path)) h k

pub none-further : (test : dom.Frame → Bool) (path : FramePath) (a b : ℕ) → a ≤ b → IsTrue (none_from test path a) → IsTrue (none_from test path b)
unfolding none_from
none-further test path a b le h = all-further (λ f. not (test f)) a b (frames_of path) le h

pub none-end : (test : dom.Frame → Bool) (path : FramePath) (n : ℕ) → length path.frames.items ≤ n → IsTrue (none_from test path n)
unfolding none_from
none-end test path n le =
    let many = frames-length path in
    ap (list_all (λ f. not (test f))) (drop_all n (frames_of path) (omega arith))

pub none-nothing : (path : FramePath) (n : ℕ) → IsTrue (none_from dom.no_frame path n)
unfolding none_from
none-nothing path n = all-same (drop n (frames_of path))
  where
    all-same : (xs : List dom.Frame) → list_all (λ (f : dom.Frame). true) xs ≡ true
    all-same [] = refl
    all-same (x ∷ xs) = all-same xs

-- one from there on
pub none-at : (test : dom.Frame → Bool) (path : FramePath) (n i : ℕ) → IsTrue (none_from test path n) → n ≤ i → i < length path.frames.items → test (frame_at path i) ≡ false
unfolding none_from
none-at test path n i h le less =
    let frames = frames_of path in
    let many = frames-length path in
    let long = length-drop n frames in
    let there : frame_at path i ≡ get_or (drop n frames) (i - n) dom.document =
    ap (λ k. get_or frames k dom.document) (omega arith) ∙ sym (get_or-drop n frames (i - n) dom.document) in
    not-true (test (frame_at path i))
    (all-at (λ f. not (test f)) (drop n frames) (i - n) (frame_at path i) dom.document there (omega arith) h)

-- What the entered elements say

entered-none : (test : Entered → Bool) (own : dom.Frame → Bool) (p : FramePath) (n : ℕ) → ((f : Frame) → test (entered_of p.store f) ≡ true → not (own (frame_of p.store f)) ≡ true) → entered p.scopes ≡ map (entered_of p.store) p.frames.items → list_all test (drop n (entered p.scopes)) ≡ true → IsTrue (none_from own p n)
unfolding none_from frames_of
entered-none test own p n w known h =
    let s = p.store in
    let xs = p.frames.items in
    mapped (λ f. not (own f)) (frame_of s) n xs
    ∙ all-weaker (λ f. test (entered_of s f)) (λ f. not (own (frame_of s f))) w (drop n xs)
    (sym (mapped test (entered_of s) n xs) ∙ (ap (λ all. list_all test (drop n all)) (sym known) ∙ h))

pub kind-none : (kind : Kind) (p : FramePath) (n : ℕ) → entered p.scopes ≡ map (entered_of p.store) p.frames.items → IsTrue (list_all (is_not_of kind) (drop n (entered p.scopes))) → IsTrue (none_from (is_of_kind kind) p n)
kind-none kind p n known h =
    entered-none (is_not_of kind) (is_of_kind kind) p n
    (λ f k. ap not (kind-alone kind (tag_at p.store f.tag) 0 (number_at p.store f.tag)) ∙ k) known h
  where
    kind-alone : (kind : Kind) (t : Tag) (m n : ℕ) → is_of kind (role_of t m) ≡ is_of kind (role_of t n)
    kind-alone Scope t m n = refl
    kind-alone ItemBound t m n = refl
    kind-alone Special t m n = refl
    kind-alone Decisive t m n = refl
    kind-alone Html t m n = refl

-- the name of no frame is one that differs in case alone from one of another number
entered-other : (name : List ℕ) (p : FramePath) (f : Frame) → ((number : ℕ) → number_in p.store.names name ≡ Some number → not (number_at p.store f.tag == number) ≡ true) → IsTrue (is_frame p f) → not (is_lowered (in_lower_case name) (frame_of p.store f)) ≡ true
entered-other name p f other within =
    let s = p.store in
    let own = in_lower_case (tag_at s f.tag).name in
    elim (cases_Bool (bytes_eq own (in_lower_case name))) [
      | inl same ↦ (let number = cased-number s f.tag name (parts-of s f within).tag ((bytes_eq-Decides own (in_lower_case name)).0 same) in
          absurd (false≢true (ap not (sym (eq-eqb (number_at s f.tag) (number_at s f.tag) refl)) ∙ other (number_at s f.tag) number)))
      | inr differs ↦ ap not differs
    ]

pub name-none : (name : List ℕ) (number : ℕ) (p : FramePath) (n : ℕ) → number_in p.store.names name ≡ Some number → entered p.scopes ≡ map (entered_of p.store) p.frames.items → IsTrue (list_all (is_elsewhere number) (drop n (entered p.scopes))) → IsTrue (none_from (is_lowered (in_lower_case name)) p n)
unfolding none_from frames_of
name-none name number p n is known h =
    let s = p.store in
    let xs = p.frames.items in
    mapped (λ f. not (is_lowered (in_lower_case name) f)) (frame_of s) n xs
    ∙ all-both (λ f. is_elsewhere number (entered_of s f)) (is_frame p) (λ f. not (is_lowered (in_lower_case name) (frame_of s f)))
    (λ f elsewhere within. entered-other name p f (λ own e. subst (λ (k : ℕ). not (number_at s f.tag == k) ≡ true) (same_Some number own (sym is ∙ e)) elsewhere) within)
    (drop n xs)
    (sym (mapped (is_elsewhere number) (entered_of s) n xs) ∙ (ap (λ all. list_all (is_elsewhere number) (drop n all)) (sym known) ∙ h))
    (all-further (is_frame p) 0 n xs (omega arith) p.within)

-- of a name that was never met
pub unmet-none : (name : List ℕ) (p : FramePath) → number_in p.store.names name ≡ None → IsTrue (none_from (is_lowered (in_lower_case name)) p 0)
unfolding none_from frames_of
unmet-none name p is =
    mapped (λ f. not (is_lowered (in_lower_case name) f)) (frame_of p.store) 0 p.frames.items
    ∙ all-weaker (is_frame p) (λ f. not (is_lowered (in_lower_case name) (frame_of p.store f)))
    (λ f within. entered-other name p f (λ number e. absurd (cc)) within) p.frames.items p.within

-- one has it, and none behind that

distinct-behind : (frames : List Frame) (i k : ℕ) → slice_get (numbers frames) i ≡ Some k → IsTrue (are_distinct frames) → list_all (λ f. not (framed.is_numbered k f)) (drop (suc i) frames) ≡ true
distinct-behind [] i k e h = absurd (cc)
distinct-behind (f ∷ frames) zero k e h =
    let p = and_parts (not (list_any (framed.is_numbered f.number) frames)) (are_distinct frames) h in
    let is : f.number ≡ k = same_Some f.number k e in
    all-none (framed.is_numbered k) frames
    (subst (λ (m : ℕ). list_any (framed.is_numbered m) frames ≡ false) is (not-true (list_any (framed.is_numbered f.number) frames) p.0))
distinct-behind (f ∷ frames) (suc i) k e h =
    let p = and_parts (not (list_any (framed.is_numbered f.number) frames)) (are_distinct frames) h in
    distinct-behind frames i k e p.1

pub numbered-behind : (k i : ℕ) (p : FramePath) → slice_get (numbers p.frames.items) i ≡ Some k → IsTrue (none_from (dom.has_number k) p (i + 1))
unfolding none_from frames_of
numbered-behind k i p e =
    let next : i + 1 ≡ suc i = omega arith in
    mapped (λ (f : dom.Frame). not (dom.has_number k f)) (frame_of p.store) (i + 1) p.frames.items
    ∙ ap (λ n. list_all (λ (f : Frame). not (framed.is_numbered k f)) (drop n p.frames.items)) next
    ∙ distinct-behind p.frames.items i k e p.distinct

-- and none before it

distinct-before : (frames : List Frame) (n k : ℕ) → slice_get (numbers frames) n ≡ Some k → IsTrue (are_distinct frames) → list_any (framed.is_numbered k) (take n frames) ≡ false
distinct-before [] n k e h = absurd (cc)
distinct-before (f ∷ frames) zero k e h = refl
distinct-before (f ∷ frames) (suc n) k e h =
    let p = and_parts (not (list_any (framed.is_numbered f.number) frames)) (are_distinct frames) h in
    let other : framed.is_numbered k f ≡ false =
    found-any frames n k e f.number (not-true (list_any (framed.is_numbered f.number) frames) p.0) in
    ap (λ b. b || list_any (framed.is_numbered k) (take n frames)) other ∙ distinct-before frames n k e p.1

all-before : {A : Type 0} (test : A → Bool) (xs : List A) (n i : ℕ) (d : A) → list_any test (take n xs) ≡ false → i < n → i < length xs → test (get_or xs i d) ≡ false
all-before test [] n i d h less within = absurd (omega arith)
all-before test (x ∷ xs) zero i d h less within = absurd (omega arith)
all-before test (x ∷ xs) (suc n) zero d h less within = (or_parts (test x) (list_any test (take n xs)) h).0
all-before test (x ∷ xs) (suc n) (suc i) d h less within =
    all-before test xs n i d (or_parts (test x) (list_any test (take n xs)) h).1 (omega arith) (omega arith)

any-mapped : (k : ℕ) (s : Store) (xs : List Frame) → list_any (dom.has_number k) (map (frame_of s) xs) ≡ list_any (framed.is_numbered k) xs
any-mapped k s [] = refl
any-mapped k s (x ∷ xs) = ap (λ b. framed.is_numbered k x || b) (any-mapped k s xs)

pub numbered-before : (k n i : ℕ) (p : FramePath) → slice_get (numbers p.frames.items) n ≡ Some k → i < n → i < length p.frames.items → dom.has_number k (frame_at p i) ≡ false
unfolding frames_of
numbered-before k n i p e less within =
    let s = p.store in
    let xs = p.frames.items in
    let many = length-map xs (frame_of s) in
    all-before (dom.has_number k) (map (frame_of s) xs) n i dom.document
    (ap (list_any (dom.has_number k)) (sym (map-take (frame_of s) n xs)) ∙ (any-mapped k s (take n xs) ∙ distinct-before xs n k e p.distinct)) less (omega arith)

-- no frame has it

pub number-none : (k : ℕ) (p : FramePath) → list_any (framed.is_numbered k) p.frames.items ≡ false → IsTrue (none_from (dom.has_number k) p 0)
unfolding none_from frames_of
number-none k p h =
    mapped (λ (f : dom.Frame). not (dom.has_number k f)) (frame_of p.store) 0 p.frames.items
    ∙ all-none (framed.is_numbered k) p.frames.items h

pub number-absent : (k i : ℕ) (p : FramePath) → list_any (framed.is_numbered k) p.frames.items ≡ false → i < length p.frames.items → dom.has_number k (frame_at p i) ≡ false
number-absent k i p h within =
    none-at (dom.has_number k) p 0 i (number-none k p h) (omega arith) within

pub number-within : (k i : ℕ) (p : FramePath) → slice_get (numbers p.frames.items) i ≡ Some k → i + 1 ≤ length p.frames.items
number-within k i p e =
    let h = found-within p.frames.items i k e in
    omega arith

-- Names

lower-lower : (name : List ℕ) → in_lower_case (in_lower_case name) ≡ in_lower_case name
lower-lower [] = refl
lower-lower (b ∷ name) =
    ap (λ byte. byte ∷ in_lower_case (in_lower_case name)) (lowercase-lowercase b)
    ∙ ap (λ rest. to_ascii_lowercase b ∷ rest) (lower-lower name)

same-lowered : (own name : List ℕ) → own ≡ name → bytes_eq (in_lower_case own) (in_lower_case name) ≡ true
same-lowered own name e =
    (bytes_eq-Decides (in_lower_case own) (in_lower_case name)).1 (ap in_lower_case e)

-- a name that is this one in lower case
pub lowered-same : (own name : List ℕ) → bytes_eq (in_lower_case own) name ≡ true → bytes_eq (in_lower_case own) (in_lower_case name) ≡ true
lowered-same own name e =
    (bytes_eq-Decides (in_lower_case own) (in_lower_case name)).1
    (sym (lower-lower own) ∙ ap in_lower_case ((bytes_eq-Decides (in_lower_case own) name).0 e))

named-lowered : (name : List ℕ) (f : dom.Frame) → dom.has_tag (is_named name) f ≡ true → is_lowered (in_lower_case name) f ≡ true
named-lowered name f h =
    let p = and_parts (is_html f.tag) (bytes_eq name f.tag.name) h in
    same-lowered f.tag.name name (sym ((bytes_eq-Decides name f.tag.name).0 p.1))

pub none-named : (name : List ℕ) (p : FramePath) (n : ℕ) → IsTrue (none_from (is_lowered (in_lower_case name)) p n) → IsTrue (none_from (dom.has_tag (is_named name)) p n)
none-named name p n h =
    none-weaker (is_lowered (in_lower_case name)) (dom.has_tag (is_named name)) (named-lowered name) p n h

-- an element whose name is one of these
abbrev pub is_called : List (List ℕ) → dom.Frame → Bool
is_called names f = list_any (bytes_eq f.tag.name) names

-- none of no names
pub none-called-none : (p : FramePath) (n : ℕ) → IsTrue (none_from (is_called []) p n)
none-called-none p n = none-nothing p n

called-lowered : (name : List ℕ) (f : dom.Frame) → is_called (name ∷ []) f ≡ true → is_lowered (in_lower_case name) f ≡ true
called-lowered name f h = same-lowered f.tag.name name ((bytes_eq-Decides f.tag.name name).0 (alone (bytes_eq f.tag.name name) h))
  where
    alone : (b : Bool) → (b || false) ≡ true → b ≡ true
    alone true h = refl
    alone false h = h

called-more : (names : List (List ℕ)) (name : List ℕ) (f : dom.Frame) → is_called (names ++ name ∷ []) f ≡ true → (is_called names f || is_lowered (in_lower_case name) f) ≡ true
called-more names name f h =
    by-first (is_called names f) (sym (list_any-append (bytes_eq f.tag.name) names (name ∷ [])) ∙ h)
  where
    by-first : (b : Bool) → (b || is_called (name ∷ []) f) ≡ true → (b || is_lowered (in_lower_case name) f) ≡ true
    by-first true e = refl
    by-first false e = called-lowered name f e

pub none-more : (names : List (List ℕ)) (name : List ℕ) (p : FramePath) (a b n : ℕ) → a ≤ n → b ≤ n → IsTrue (none_from (is_called names) p a) → IsTrue (none_from (is_lowered (in_lower_case name)) p b) → IsTrue (none_from (is_called (names ++ name ∷ [])) p n)
none-more names name p a b n least more h k =
    let own = is_lowered (in_lower_case name) in
    none-weaker (λ f. is_called names f || own f) (is_called (names ++ name ∷ [])) (called-more names name) p n
    (none-either (is_called names) own p n (none-further (is_called names) p a n least h) (none-further own p b n more k))

any-called : (names : List ℕ) (f : dom.Frame) → dom.has_tag (is_any names) f ≡ true → is_called (words names) f ≡ true
any-called names f h = (and_parts (is_html f.tag) (is_one_of names f.tag.name) h).1

pub none-called : (names : List ℕ) (p : FramePath) (n : ℕ) → IsTrue (none_from (is_called (words names)) p n) → IsTrue (none_from (dom.has_tag (is_any names)) p n)
none-called names p n h =
    none-weaker (is_called (words names)) (dom.has_tag (is_any names)) (any-called names) p n h

-- Special elements: where `search` isn't counted as one, they are special where it is

special-name : (counts : Bool) (name : List ℕ) → is_special_name counts name ≡ true → is_special_name true name ≡ true
special-name counts name h =
    and_from (is_among special_names name) true
    (and_parts (is_among special_names name) (counts || not (is_one_of (codes "search") name)) h).0 refl

spaced : (space : Namespace) (a b math svg : Bool) → (a ≡ true → b ≡ true) → by_space space a math svg ≡ true → by_space space b math svg ≡ true
spaced html_space a b math svg w h = w h
spaced math_space a b math svg w h = h
spaced svg_space a b math svg w h = h

special-counted : (counts : Bool) (t : Tag) → is_special counts t ≡ true → is_special true t ≡ true
special-counted counts t h =
    spaced t.space (is_special_name counts t.name) (is_special_name true t.name) (is_math_mark t) (is_svg_mark t) (special-name counts t.name) h

item-bound-counted : (counts : Bool) (t : Tag) → is_item_bound counts t ≡ true → is_item_bound true t ≡ true
item-bound-counted counts t h =
    let own = not (is_any (codes "address div p") t) in
    let p = and_parts (is_special counts t) own h in
    and_from (is_special true t) own (special-counted counts t p.0) p.1

pub none-special : (counts : Bool) (p : FramePath) (n : ℕ) → IsTrue (none_from (dom.has_tag (is_special true)) p n) → IsTrue (none_from (dom.has_tag (is_special counts)) p n)
none-special counts p n h =
    none-weaker (dom.has_tag (is_special true)) (dom.has_tag (is_special counts)) (λ f. special-counted counts f.tag) p n h

pub none-item-bound : (counts : Bool) (p : FramePath) (n : ℕ) → IsTrue (none_from (dom.has_tag (is_item_bound true)) p n) → IsTrue (none_from (dom.has_tag (is_item_bound counts)) p n)
none-item-bound counts p n h =
    none-weaker (dom.has_tag (is_item_bound true)) (dom.has_tag (is_item_bound counts)) (λ f. item-bound-counted counts f.tag) p n h
