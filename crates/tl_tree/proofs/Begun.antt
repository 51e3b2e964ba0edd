-- Walks over the stack that begin further out: what they go past makes no difference.
use Rattle.std.proofs.Common.{IsTrue, List, None, Option, Some, [], ap, arith, false, get_or, inl, inr, length, map, min, nat_eq, not, refl, reverse, subst, suc, sym, take, true, zero, ℕ, Bool, ◌&&◌, ◌+◌, ◌-◌, ◌<◌, ◌≤◌, ◌||◌, ◌∙◌, ◌∷◌, ◌≡◌}
use Rattle.std.proofs.lemmas.Bool.{and_parts, and_right, cases_lt, eq-eqb, false≢true}
use Rattle.std.proofs.lemmas.Option.{same_Some, slice_get-map, slice_get_read}
use Rattle.std.specs.Char.{to_ascii_lowercase}
use Rattle.std.specs.Option.{option_map, unwrap_or}
use Rattle.std.specs.Prelude.{IfSome, slice_get}
use Rattle.std.specs.Str.{bytes_eq}
use Rattle.tl_dom_spec.specs.Adoption.{outermost}
use Rattle.tl_dom_spec.specs.Dispatcher.{found_in}
use Rattle.tl_dom_spec.specs.Path as dom
use Rattle.tl_dom_spec.specs.Tags.{Tag, is_html}
use Rattle.tl_tree.proofs.Furthest.{elements-closed, elements-open, furthest-all, furthest-closed, furthest-further, furthest-none, furthest-on, furthest-own}
use Rattle.tl_tree.proofs.Skipped.{lowered-same, none-at, numbered-before, numbered-behind}
use Rattle.tl_tree.proofs.Sought.{sought-all}
use Rattle.tl_tree.proofs.StackWalk.{found-on, found-other}
use Rattle.tl_tree.specs.Inner.Adopted.{frame_at, frame_found, furthest, is_block, is_element_of}
use Rattle.tl_tree.specs.Inner.Found.{framed, stack_to}
use Rattle.tl_tree.specs.Inner.Framed.{numbers}
use Rattle.tl_tree.specs.Inner.Frames.{frames_of, path_of, sought}
use Rattle.tl_tree.specs.Inner.Limits.{is_lowered, is_of_kind, none_from}
use Rattle.tl_tree.specs.Inner.MetNames.{in_lower_case}
use Rattle.tl_tree.specs.declared.frame.Frame.{Frame}
use Rattle.tl_tree.specs.declared.path.FramePath.{FramePath}
use Rattle.tl_tree.specs.declared.role.Kind.TheVariants.{Html}

-- what is the same at each place as at the next one further in
same-by : {A : Type 0} (at : ℕ → A) (n gap : ℕ) → ((i : ℕ) → n ≤ i → i < n + gap → at (i + 1) ≡ at i) → at (n + gap) ≡ at n
same-by at n zero step = ap at (omega arith)
same-by at n (suc gap) step =
    let next : n + suc gap ≡ n + gap + 1 = omega arith in
    ap at next ∙ step (n + gap) (omega arith) (omega arith) ∙ same-by at n gap (λ i least below. step i least (omega arith))

pub same-from : {A : Type 0} (at : ℕ → A) (n end : ℕ) → n ≤ end → ((i : ℕ) → n ≤ i → i < end → at (i + 1) ≡ at i) → at end ≡ at n
same-from at n end le step =
    let whole : end ≡ n + (end - n) = omega arith in
    ap at whole ∙ same-by at n (end - n) (λ i least below. step i least (omega arith))

-- Searches

-- the elements around a frame
abbrev around : FramePath → ℕ → List dom.Frame
around p n = dom.elements (reverse (take n (frames_of p)))

within-past : (test bounds : dom.Frame → Bool) (f : dom.Frame) (fs : List dom.Frame) → test f ≡ false → bounds f ≡ false → dom.within test bounds (f ∷ fs) ≡ dom.within test bounds fs
within-past test bounds f fs fails goes =
    ap (λ b. b || (not (bounds f) && dom.within test bounds fs)) fails
    ∙ ap (λ b. not b && dom.within test bounds fs) goes

-- a frame that neither passes the test nor bounds the search
sought-past : (test bounds : dom.Frame → Bool) (p : FramePath) (n : ℕ) → n < length p.frames.items → test (frame_at p n) ≡ false → bounds (frame_at p n) ≡ false → sought test bounds p (n + 1) ≡ sought test bounds p n
unfolding sought
sought-past test bounds p n h fails goes = by-open (frame_at p n).is_open refl
  where
    by-open : (b : Bool) → (frame_at p n).is_open ≡ b → dom.within test bounds (around p (n + 1)) ≡ dom.within test bounds (around p n)
    by-open false closed = ap (dom.within test bounds) (elements-closed p n h closed)
    by-open true opened =
        ap (dom.within test bounds) (elements-open p n h opened)
        ∙ within-past test bounds (frame_at p n) (around p n) fails goes

pub sought-begun : (test bounds : dom.Frame → Bool) (p : FramePath) (n : ℕ) → n ≤ length p.frames.items → IsTrue (none_from test p n) → IsTrue (none_from bounds p n) → dom.within test bounds (dom.elements (path_of p)) ≡ sought test bounds p n
sought-begun test bounds p n le h k =
    let end = length p.frames.items in
    sought-all test bounds p end refl
    ∙ same-from (sought test bounds p) n end le
    (λ i least below. sought-past test bounds p i below (none-at test p n i h least below) (none-at bounds p n i k least below))

-- no frame passes the test
within-missed : (test bounds : dom.Frame → Bool) (f : dom.Frame) (fs : List dom.Frame) → test f ≡ false → dom.within test bounds fs ≡ false → dom.within test bounds (f ∷ fs) ≡ false
within-missed test bounds f fs fails rest =
    ap (λ b. b || (not (bounds f) && dom.within test bounds fs)) fails
    ∙ and_right (not (bounds f)) (dom.within test bounds fs) rest

sought-missed : (test bounds : dom.Frame → Bool) (p : FramePath) (n : ℕ) → n ≤ length p.frames.items → IsTrue (none_from test p 0) → sought test bounds p n ≡ false
unfolding sought
sought-missed test bounds p zero le h = refl
sought-missed test bounds p (suc n) le h =
    let next : suc n ≡ n + 1 = omega arith in
    ap (λ k. dom.within test bounds (around p k)) next
    ∙ by-open (frame_at p n).is_open refl (sought-missed test bounds p n (omega arith) h)
  where
    below : n < length p.frames.items
    below = omega arith

    by-open : (b : Bool) → (frame_at p n).is_open ≡ b → dom.within test bounds (around p n) ≡ false → dom.within test bounds (around p (n + 1)) ≡ false
    by-open false closed rest = ap (dom.within test bounds) (elements-closed p n below closed) ∙ rest
    by-open true opened rest =
        ap (dom.within test bounds) (elements-open p n below opened)
        ∙ within-missed test bounds (frame_at p n) (around p n) (none-at test p 0 n h (omega arith) below) rest

pub sought-nowhere : (test bounds : dom.Frame → Bool) (p : FramePath) (first : ℕ) → first ≡ 0 → IsTrue (none_from test p first) → dom.within test bounds (dom.elements (path_of p)) ≡ false
sought-nowhere test bounds p first none h =
    let end = length p.frames.items in
    sought-all test bounds p end refl
    ∙ sought-missed test bounds p end (omega arith) (subst (λ (n : ℕ). IsTrue (none_from test p n)) none h)

-- The furthest block

not-own : (opened own : Bool) → own ≡ false → (opened && own) ≡ false
not-own true own h = h
not-own false own h = refl

not-second : (opened own : Bool) → opened ≡ true → (opened && own) ≡ false → own ≡ false
not-second opened own e h = sym (ap (λ b. b && own) e) ∙ h

-- what is of another number, or left the stack
pub other-element : (k : ℕ) (f : dom.Frame) → dom.has_number k f ≡ false → is_element_of k f ≡ false
other-element k f h = not-own f.is_open (nat_eq f.number k) h

closed-element : (k : ℕ) (f : dom.Frame) → f.is_open ≡ false → is_element_of k f ≡ false
closed-element k f h = ap (λ b. b && nat_eq f.number k) h

-- an element that is no block
furthest-past : (test : Tag → Bool) (k : ℕ) (p : FramePath) (found : Option ℕ) (n : ℕ) → n < length p.frames.items → is_element_of k (frame_at p n) ≡ false → is_block test (frame_at p n) ≡ false → furthest test k p found (n + 1) ≡ furthest test k p found n
furthest-past test k p found n h other none = by-open (frame_at p n).is_open refl
  where
    by-open : (b : Bool) → (frame_at p n).is_open ≡ b → furthest test k p found (n + 1) ≡ furthest test k p found n
    by-open false closed = furthest-closed test k p found n h closed
    by-open true opened =
        furthest-on test k p found n h opened other
        (not-second (frame_at p n).is_open (test (frame_at p n).tag) opened none)

-- any element of another number: with what was found then
furthest-any : (test : Tag → Bool) (k : ℕ) (p : FramePath) (found : Option ℕ) (n : ℕ) → n < length p.frames.items → is_element_of k (frame_at p n) ≡ false → (then : Option ℕ) × (furthest test k p found (n + 1) ≡ furthest test k p then n)
furthest-any test k p found n h other = by-open (frame_at p n).is_open (test (frame_at p n).tag) refl refl
  where
    by-open : (b passes : Bool) → (frame_at p n).is_open ≡ b → test (frame_at p n).tag ≡ passes → (then : Option ℕ) × (furthest test k p found (n + 1) ≡ furthest test k p then n)
    by-open false passes closed e = (found, furthest-closed test k p found n h closed)
    by-open true true opened e = (Some n, furthest-further test k p found n h opened other e)
    by-open true false opened e = (found, furthest-on test k p found n h opened other e)

furthest-by : (test : Tag → Bool) (k : ℕ) (p : FramePath) (found : Option ℕ) (n gap : ℕ) → n + gap ≤ length p.frames.items → ((i : ℕ) → n ≤ i → i < n + gap → is_element_of k (frame_at p i) ≡ false) → (then : Option ℕ) × (furthest test k p found (n + gap) ≡ furthest test k p then n)
furthest-by test k p found n zero le others = (found, ap (furthest test k p found) (omega arith))
furthest-by test k p found n (suc gap) le others =
    let next : n + suc gap ≡ n + gap + 1 = omega arith in
    let last = furthest-any test k p found (n + gap) (omega arith) (others (n + gap) (omega arith) (omega arith)) in
    let rest = furthest-by test k p last.0 n gap (omega arith) (λ i least below. others i least (omega arith)) in
    (rest.0, ap (furthest test k p found) next ∙ (last.1 ∙ rest.1))

furthest-down : (test : Tag → Bool) (k : ℕ) (p : FramePath) (n : ℕ) → n ≤ length p.frames.items → ((i : ℕ) → n ≤ i → i < length p.frames.items → is_element_of k (frame_at p i) ≡ false) → (then : Option ℕ) × (outermost test k None (dom.elements (path_of p)) ≡ furthest test k p then n)
furthest-down test k p n le others =
    let end = length p.frames.items in
    let whole : end ≡ n + (end - n) = omega arith in
    let down = furthest-by test k p None n (end - n) (omega arith) (λ i least below. others i least (omega arith)) in
    (down.0, furthest-all test k p end refl ∙ (ap (furthest test k p None) whole ∙ down.1))

-- no element has the number
pub furthest-absent : (test : Tag → Bool) (k : ℕ) (p : FramePath) → ((i : ℕ) → i < length p.frames.items → is_element_of k (frame_at p i) ≡ false) → frame_found p None ≡ outermost test k None (dom.elements (path_of p))
furthest-absent test k p others =
    let down = furthest-down test k p 0 (omega arith) (λ i least below. others i below) in
    sym (down.1 ∙ furthest-none test k p down.0)

-- the frame of the number left the stack
pub furthest-shut : (test : Tag → Bool) (k n : ℕ) (p : FramePath) → slice_get (numbers p.frames.items) n ≡ Some k → (frame_at p n).is_open ≡ false → frame_found p None ≡ outermost test k None (dom.elements (path_of p))
furthest-shut test k n p e closed = furthest-absent test k p each
  where
    each : (i : ℕ) → i < length p.frames.items → is_element_of k (frame_at p i) ≡ false
    each i below = elim (cases_lt i n) [
      | inl less ↦ other-element k (frame_at p i) (numbered-before k n i p e less below)
      | inr least ↦ elim (cases_lt n i) [
        | inl more ↦ other-element k (frame_at p i) (none-at (dom.has_number k) p (n + 1) i (numbered-behind k n p e) (omega arith) below)
        | inr most ↦ (let same : i ≡ n = omega arith in
            ap (λ at. is_element_of k (frame_at p at)) same ∙ closed-element k (frame_at p n) closed)
      ]
    ]

-- one has it, and none that is inside of it is a block
furthest-nothing : (test : Tag → Bool) (k n : ℕ) (p : FramePath) → n < length p.frames.items → is_element_of k (frame_at p n) ≡ true → ((i : ℕ) → n + 1 ≤ i → i < length p.frames.items → is_element_of k (frame_at p i) ≡ false) → ((i : ℕ) → n + 1 ≤ i → i < length p.frames.items → is_block test (frame_at p i) ≡ false) → frame_found p None ≡ outermost test k None (dom.elements (path_of p))
furthest-nothing test k n p h own others none =
    let end = length p.frames.items in
    sym (furthest-all test k p end refl
    ∙ (same-from (furthest test k p None) (n + 1) end (omega arith)
    (λ i least below. furthest-past test k p None i below (others i least below) (none i least below))
    ∙ furthest-own test k p None n h own))

-- or one is, and none between the two
furthest-block : (test : Tag → Bool) (k n j : ℕ) (p : FramePath) → n < j → j < length p.frames.items → is_element_of k (frame_at p n) ≡ true → ((i : ℕ) → n + 1 ≤ i → i < length p.frames.items → is_element_of k (frame_at p i) ≡ false) → is_block test (frame_at p j) ≡ true → ((i : ℕ) → n + 1 ≤ i → i < j → is_block test (frame_at p i) ≡ false) → frame_found p (Some j) ≡ outermost test k None (dom.elements (path_of p))
furthest-block test k n j p less h own others passes none =
    let f = frame_at p j in
    let parts = and_parts f.is_open (test f.tag) passes in
    let down = furthest-down test k p (j + 1) (omega arith) (λ i least below. others i (omega arith) below) in
    sym (down.1
    ∙ (furthest-further test k p down.0 j h parts.0 (others j (omega arith) h) parts.1
    ∙ (same-from (furthest test k p (Some j)) (n + 1) j (omega arith)
    (λ i least below. furthest-past test k p (Some j) i (omega arith) (others i least (omega arith)) (none i least below))
    ∙ furthest-own test k p (Some j) n (omega arith) own)))

pub furthest-from : (test : Tag → Bool) (k n : ℕ) (p : FramePath) (r : Option ℕ) → n < length p.frames.items → is_element_of k (frame_at p n) ≡ true → ((i : ℕ) → n + 1 ≤ i → i < length p.frames.items → is_element_of k (frame_at p i) ≡ false) → IfSome r (λ j. (n + 1 ≤ j) × (j < length p.frames.items)) → IfSome r (λ j. IsTrue (is_block test (frame_at p j))) → ((i : ℕ) → n + 1 ≤ i → i < unwrap_or r (length p.frames.items) → is_block test (frame_at p i) ≡ false) → frame_found p r ≡ outermost test k None (dom.elements (path_of p))
furthest-from test k n p None h own others within passes before =
    furthest-nothing test k n p h own others before
furthest-from test k n p (Some j) h own others within passes before =
    let least = within.0 in
    furthest-block test k n j p (omega arith) within.1 own others passes before

-- the number of the frame at a place
pub number-at : (k n : ℕ) (p : FramePath) (f : Frame) → slice_get (numbers p.frames.items) n ≡ Some k → f ≡ get_or p.frames.items n f → n < length p.frames.items → nat_eq f.number k ≡ true
number-at k n p f e is h =
    eq-eqb f.number k
    (same_Some f.number k
    (sym (slice_get-map (λ (own : Frame). own.number) p.frames.items n ∙ ap (option_map (λ (own : Frame). own.number)) (slice_get_read p.frames.items (length p.frames.items) n f refl h is))
    ∙ e))

-- What an end tag in foreign content finds

found-swapped : (name : List ℕ) (f g : dom.Frame) (fs : List dom.Frame) → bytes_eq (map to_ascii_lowercase f.tag.name) name ≡ false → bytes_eq (map to_ascii_lowercase g.tag.name) name ≡ false → found_in name (f ∷ fs) ≡ found_in name (g ∷ fs)
found-swapped name f g [] e k = refl
found-swapped name f g (h ∷ fs) e k = found-other name f h fs e ∙ sym (found-other name g h fs k)

elsewhere-named : (name : List ℕ) (f : dom.Frame) → is_lowered (in_lower_case name) f ≡ false → bytes_eq (map to_ascii_lowercase f.tag.name) name ≡ false
elsewhere-named name f h = by-name (bytes_eq (map to_ascii_lowercase f.tag.name) name) refl
  where
    by-name : (b : Bool) → bytes_eq (map to_ascii_lowercase f.tag.name) name ≡ b → b ≡ false
    by-name true e = absurd (false≢true (sym h ∙ lowered-same f.tag.name name e))
    by-name false e = refl

-- an element that the name isn't, around another one
found-past : (name : List ℕ) (p : FramePath) (n : ℕ) → n < length p.frames.items → bytes_eq (map to_ascii_lowercase (framed p (n + 1)).tag.name) name ≡ false → bytes_eq (map to_ascii_lowercase (framed p n).tag.name) name ≡ false → is_html (framed p n).tag ≡ false → found_in name (framed p (n + 1) ∷ stack_to p (n + 1)) ≡ found_in name (framed p n ∷ stack_to p n)
unfolding framed stack_to
found-past name p n h inner own foreign = by-open (frame_at p n).is_open refl
  where
    by-open : (b : Bool) → (frame_at p n).is_open ≡ b → found_in name (frame_at p (n + 1) ∷ around p (n + 1)) ≡ found_in name (frame_at p n ∷ around p n)
    by-open false closed =
        ap (λ fs. found_in name (frame_at p (n + 1) ∷ fs)) (elements-closed p n h closed)
        ∙ found-swapped name (frame_at p (n + 1)) (frame_at p n) (around p n) inner own
    by-open true opened =
        ap (λ fs. found_in name (frame_at p (n + 1) ∷ fs)) (elements-open p n h opened)
        ∙ found-on name (frame_at p (n + 1)) (frame_at p n) (around p n) inner foreign

pub found-begun : (name : List ℕ) (p : FramePath) (top limit n : ℕ) → n ≡ min top limit → top < length p.frames.items → IsTrue (none_from (is_of_kind Html) p limit) → IsTrue (none_from (is_lowered (in_lower_case name)) p limit) → found_in name (framed p top ∷ stack_to p top) ≡ found_in name (framed p n ∷ stack_to p n)
unfolding framed
found-begun name p top limit n e h html names =
    let other : (i : ℕ) → limit ≤ i → i < length p.frames.items → bytes_eq (map to_ascii_lowercase (frame_at p i).tag.name) name ≡ false =
    λ i least below. elsewhere-named name (frame_at p i) (none-at (is_lowered (in_lower_case name)) p limit i names least below) in
    same-from (λ i. found_in name (framed p i ∷ stack_to p i)) n top (omega arith)
    (λ i least below.
    found-past name p i (omega arith) (other (i + 1) (omega arith) (omega arith)) (other i (omega arith) (omega arith))
    (none-at (is_of_kind Html) p limit i html (omega arith) (omega arith)))
