-- The operations of the modes of tables leave both builders alike.
use Rattle.std.proofs.Common.{Bool, List, Option, [], ap, codes, false, inl, inr, map, not, refl, subst, suc, sym, true, true≢false, ℕ, ◌&&◌, ◌||◌, ◌∙◌, ◌∷◌, ◌≡◌, ◌⊎◌}
use Rattle.std.proofs.lemmas.Bool.{and_parts, cases_Bool, cond-false, cond-true}
use Rattle.tl_tree_spec.specs.Builder as P
use Rattle.tl_tree_spec.specs.HtmlTreeBuilder as R
use Rattle.tl_tree_spec.specs.HtmlForest.{HtmlTag}
use Rattle.tl_tree_spec.specs.Groups as G
use Rattle.tl_dom_spec.specs.Tags as T
use Rattle.tl_dom_spec.specs.Tags.{Tag, bare_tag}
use Rattle.tl_dom_spec.specs.Groups as D
use Rattle.tl_dom_spec.specs.Partial.{begins_in_flow}
use Rattle.tl_dom_spec.specs.Path as W
use Rattle.tl_dom_spec.specs.Builder as B
use Rattle.tl_dom_spec.specs.Reset as E
use Rattle.tl_dom_spec.specs.Tables as S
use Rattle.tl_dom_spec.proofs.PartNames.{facts, has_twin, twin}
use Rattle.tl_dom_spec.proofs.PartPaths.{IsStack, back_is, elements_are, frame_of, frames_of, has_in, has_within, name_of, path_of, same_all, tag_of, tag_with}
use Rattle.tl_dom_spec.proofs.PartActive.{marker_listed, without_last_marker_is}
use Rattle.tl_dom_spec.proofs.PartBuilders.{Alike, AreNumbered, IsFlow, Like, Sound, Stand, first_mode, in_caption, is_caption_group, is_flow_group, mode_is, stands_in}
use Rattle.tl_dom_spec.proofs.PartOps as O
use Rattle.tl_dom_spec.proofs.PartSound.{agrees_marker, group_of, names_in, numbers_by, numbers_same, pushed_sound, stack_same, stand_same}
use Rattle.tl_dom_spec.proofs.PartSources.{elements-bare, has_within-bare, mode_of-bare, popped-bare, popped_to-bare, seen, without_last_marker-bare}

-- The mode and the current element

abbrev pub mode_in : P.Frame → List P.Frame → P.Mode
mode_in f os = P.mode_of (names_in f os)

-- which element is the current one in a mode where not the rules of "in body" are used
abbrev pub is_at : P.Mode → G.Group → Bool
is_at P.in_table g = G.is_table_group g
is_at P.in_table_body g = G.is_table_body_group g
is_at P.in_row g = G.is_row_group g
is_at P.in_column_group g = G.is_column_group_group g
is_at _ g = true

flow_around : (g around : G.Group) → is_flow_group g ≡ true → stands_in g around ≡ true → (g ≡ G.a_cell) ⊎ ((g ≡ G.a_caption) ⊎ (is_flow_group around ≡ true))
flow_around G.a_table around h k = absurd (true≢false (sym h))
flow_around G.a_table_body around h k = absurd (true≢false (sym h))
flow_around G.a_row around h k = absurd (true≢false (sym h))
flow_around G.a_column_group around h k = absurd (true≢false (sym h))
flow_around G.a_column around h k = absurd (true≢false (sym k))
flow_around G.a_cell around h k = inl refl
flow_around G.a_caption around h k = inr (inl refl)
flow_around _ around h k = inr (inr k)

flow_mode_by : (g : G.Group) (m : P.Mode) → is_flow_group g ≡ true → P.is_flow m ≡ true → P.is_flow (P.mode_by g m) ≡ true
flow_mode_by G.a_table m h k = absurd (true≢false (sym h))
flow_mode_by G.a_table_body m h k = absurd (true≢false (sym h))
flow_mode_by G.a_row m h k = absurd (true≢false (sym h))
flow_mode_by G.a_column_group m h k = absurd (true≢false (sym h))
flow_mode_by G.a_cell m h k = refl
flow_mode_by G.a_caption m h k = refl
flow_mode_by _ m h k = k

flow_mode : (f : P.Frame) (os : List P.Frame) → IsStack f os → Stand f os → is_flow_group (group_of f) ≡ true → P.is_flow (mode_in f os) ≡ true
flow_mode f [] k l h = flow_mode_by (group_of f) P.in_body h refl
flow_mode f (o ∷ os) k l h = elim (flow_around (group_of f) (group_of o) h l.0) [
  | inl y ↦ ap (λ g. P.is_flow (P.mode_by g (mode_in o os))) y
  | inr r ↦ elim r [
    | inl y ↦ ap (λ g. P.is_flow (P.mode_by g (mode_in o os))) y
    | inr y ↦ flow_mode_by (group_of f) (mode_in o os) h (flow_mode o os k.1 l.1 y)
  ]
]

at_by : (g : G.Group) (m : P.Mode) → (is_flow_group g ≡ true → P.is_flow (P.mode_by g m) ≡ true) → is_at (P.mode_by g m) g ≡ true
at_by G.a_table m h = refl
at_by G.a_table_body m h = refl
at_by G.a_row m h = refl
at_by G.a_column_group m h = refl
at_by G.a_cell m h = refl
at_by G.a_caption m h = refl
at_by _ m h = flow_at m _ (h refl)
  where
    flow_at : (m : P.Mode) (g : G.Group) → P.is_flow m ≡ true → is_at m g ≡ true
    flow_at P.in_body g h = refl
    flow_at P.in_cell g h = refl
    flow_at P.in_caption g h = refl
    flow_at _ g h = absurd (true≢false (sym h))

at_mode : (f : P.Frame) (os : List P.Frame) → IsStack f os → Stand f os → is_at (mode_in f os) (group_of f) ≡ true
at_mode f [] k l = at_by (group_of f) P.in_body (λ h. flow_mode f [] k l h)
at_mode f (o ∷ os) k l = at_by (group_of f) (mode_in o os) (λ h. flow_mode f (o ∷ os) k l h)

pub current_at : (b : P.Builder) → Sound b → (m : P.Mode) → b.mode ≡ m → is_at m (group_of b.stack.current) ≡ true
current_at b h m e = subst (λ n. is_at n (group_of b.stack.current) ≡ true) (sym h.mode ∙ e) (at_mode b.stack.current b.stack.others h.stack h.stand)

-- What stays where elements are popped

pub record Stays (next : ℕ) (es : List P.Entry) (f : P.Frame) (os : List P.Frame) : Type 0 where
  pub stack : IsStack f os
  pub stand : Stand f os
  pub numbers : AreNumbered next es (f ∷ os)

pub stays : (b : P.Builder) → Sound b → Stays b.next b.active b.stack.current b.stack.others
stays b h = record { stack = h.stack; stand = h.stand; numbers = h.numbers }

module _ (next : ℕ) (es : List P.Entry) where
  around : (f o : P.Frame) (os : List P.Frame) → Stays next es f (o ∷ os) → Stays next es (P.closed_into o f) os
  around f o os h = record {
    stack = stack_same o (P.closed_into o f) os refl h.stack.1;
    stand = stand_same o (P.closed_into o f) os refl h.stand.1;
    numbers = numbers_same next es o (P.closed_into o f) os refl h.numbers.2;
  }

  abbrev In : P.Stack → Type 0
  In s = Stays next es s.current s.others

  pub popped_stays : (f : P.Frame) (os : List P.Frame) → Stays next es f os → In (P.popped f os)
  popped_stays f [] h = h
  popped_stays f (o ∷ os) h = around f o os h

  pub through_stays : (test : P.Element → Bool) (f : P.Frame) (os : List P.Frame) → Stays next es f os → In (P.popped_through test f os)
  through_stays test f [] h = h
  through_stays test f (o ∷ os) h = elim (cases_Bool (test f.element)) [
    | inl y ↦ subst In (sym (cond-true _ _ _ y)) (around f o os h)
    | inr n ↦ subst In (sym (cond-false _ _ _ n)) (through_stays test (P.closed_into o f) os (around f o os h))
  ]

  pub implied_stays : (but : List ℕ → Bool) (f : P.Frame) (os : List P.Frame) → Stays next es f os → In (P.implied_closed but f os)
  implied_stays but f [] h = h
  implied_stays but f (o ∷ os) h = elim (cases_Bool (G.is_implied (name_of f) && not (but (name_of f)))) [
    | inl y ↦ subst In (sym (cond-true _ _ _ y)) (implied_stays but (P.closed_into o f) os (around f o os h))
    | inr n ↦ subst In (sym (cond-false _ _ _ n)) h
  ]

-- the mode that comes then, where it follows from what stands around what was popped
abbrev pub Leads : (List ℕ → Bool) → P.Mode → Type 0
Leads test m = (n around : List ℕ) (outer : P.Mode) → test n ≡ true → stands_in (G.group n) (G.group around) ≡ true → P.mode_by (G.group around) outer ≡ m

module _ (test : List ℕ → Bool) where
  same_in : (o f : P.Frame) (os : List P.Frame) → has_in (P.has_name test) o os ≡ true → has_in (P.has_name test) (P.closed_into o f) os ≡ true
  same_in o f [] h = h
  same_in o f (p ∷ os) h = h

  mode_around : (m : P.Mode) → Leads test m → (f o : P.Frame) (os : List P.Frame) → Stand f (o ∷ os) → test (name_of f) ≡ true → mode_in (P.closed_into o f) os ≡ m
  mode_around m leads f o [] l y = leads (name_of f) (name_of o) P.in_body y l.0
  mode_around m leads f o (p ∷ os) l y = leads (name_of f) (name_of o) (mode_in p os) y l.0

  pub through_mode : (m : P.Mode) → Leads test m → (f : P.Frame) (os : List P.Frame) → Stand f os → has_in (P.has_name test) f os ≡ true →
      P.mode_of (P.names (P.popped_through (P.has_name test) f os)) ≡ m
  through_mode m leads f [] l h = absurd (true≢false (sym h))
  through_mode m leads f (o ∷ os) l h = elim (cases_Bool (test (name_of f))) [
    | inl y ↦ ap (λ (s : P.Stack). P.mode_of (P.names s)) (cond-true _ _ _ y) ∙ mode_around m leads f o os l y
    | inr n ↦ ap (λ (s : P.Stack). P.mode_of (P.names s)) (cond-false _ _ _ n)
        ∙ through_mode m leads (P.closed_into o f) os (stand_same o (P.closed_into o f) os refl l.1)
        (same_in o f os (sym (ap (λ v. v || has_in (P.has_name test) o os) n) ∙ h))
  ]

  -- an element in a scope is one that can be popped, where the `html` element is none
  pub within_in : (stops : List ℕ → Bool) → test (codes "html") ≡ false → (f : P.Frame) (os : List P.Frame) → IsStack f os →
      P.within test stops (names_in f os) ≡ true → has_in (P.has_name test) f os ≡ true
  within_in stops last f [] k h = absurd (true≢false (sym h ∙ ap (λ v. v || (not (stops (name_of f)) && false)) (ap test k ∙ last) ∙ nothing (not (stops (name_of f)))))
    where
      nothing : (v : Bool) → (v && false) ≡ false
      nothing true = refl
      nothing false = refl
  within_in stops last f (o ∷ os) k h = elim (cases_Bool (test (name_of f))) [
    | inl y ↦ ap (λ v. v || has_in (P.has_name test) o os) y
    | inr n ↦ ap (λ v. v || has_in (P.has_name test) o os) n
        ∙ within_in stops last o os k.1 (and_parts (not (stops (name_of f))) _ (sym (ap (λ v. v || (not (stops (name_of f)) && P.within test stops (names_in o os))) n) ∙ h)).1
  ]

  -- implied end tags leave it where it is
  pub implied_in : (but : List ℕ → Bool) → ((n : List ℕ) → G.is_implied n ≡ true → test n ≡ false) → (f : P.Frame) (os : List P.Frame) → has_in (P.has_name test) f os ≡ true →
      has_in (P.has_name test) (P.implied_closed but f os).current (P.implied_closed but f os).others ≡ true
  implied_in but off f [] h = h
  implied_in but off f (o ∷ os) h = elim (cases_Bool (G.is_implied (name_of f) && not (but (name_of f)))) [
    | inl y ↦ (
        let n = off (name_of f) (and_parts (G.is_implied (name_of f)) _ y).0 in
        ap (λ (s : P.Stack). has_in (P.has_name test) s.current s.others) (cond-true _ _ _ y)
        ∙ implied_in but off (P.closed_into o f) os (same_in o f os (sym (ap (λ v. v || has_in (P.has_name test) o os) n) ∙ h)))
    | inr n ↦ ap (λ (s : P.Stack). has_in (P.has_name test) s.current s.others) (cond-false _ _ _ n) ∙ h
  ]

-- Operations of both

module _ {b : P.Builder} {c : B.Builder} (h : Alike b c) where
  -- the stack is cleared back to the current element, which stays
  module _ (test : List ℕ → Bool) (tested : Tag → Bool) (same : (own : HtmlTag) → test own.name ≡ tested (tag_of own)) (last : test (codes "html") ≡ true)
      (here : test (name_of b.stack.current) ≡ true) where
    nothing_popped : (f : P.Frame) (os : List P.Frame) → test (name_of f) ≡ true → R.popped_back test f os ≡ record { current = f; others = os }
    nothing_popped f [] y = refl
    nothing_popped f (o ∷ os) y = cond-true _ _ _ y

    stack_kept : R.popped_back test b.stack.current b.stack.others ≡ b.stack
    stack_kept = nothing_popped b.stack.current b.stack.others here

    kept : (s : P.Stack) → s ≡ b.stack → Sound (P.with_stack b s)
    kept s e = subst (λ (z : P.Stack). Sound (P.with_stack b z)) (sym e)
        (record { stack = h.sound.stack; stand = h.sound.stand; entries = h.sound.entries; numbers = h.sound.numbers; mode = h.sound.mode })

    pub cleared : Alike (R.cleared test b) (B.clear_stack_back_to (seen tested) c)
    cleared = record {
      sound = kept (R.popped_back test b.stack.current b.stack.others) stack_kept;
      like = O.with_path h.like (R.popped_back test b.stack.current b.stack.others) (W.popped_to (W.has_tag (seen tested)) c.path)
          (popped_to-bare (W.has_tag (seen tested)) (W.has_tag tested) (λ _. refl) c.path ∙ ap (W.popped_to (W.has_tag tested)) h.like.path ∙ back_is test tested same last b.stack h.sound.stack);
    }

  -- a part of a table is inserted, and the mode is that of it
  pub opened : (own : HtmlTag) (source : Option ℕ) (g : G.Group) (m : P.Mode) → G.group own.name ≡ g → has_twin g ≡ true →
      stands_in g (group_of b.stack.current) ≡ true → m ≡ P.mode_by g b.mode →
      Alike (R.to_mode m (P.inserted b own)) (B.switch_to (mode_is (in_caption c.context) m) (B.insert_element (tag_with source own) c))
  opened own source g m e twin stands k = record {
    sound = pushed_sound b own m h.sound (ap has_twin e ∙ twin) (ap (λ x. stands_in x (group_of b.stack.current)) e ∙ stands) (k ∙ ap (λ x. P.mode_by x b.mode) (sym e));
    like = O.in_mode (O.inserted h.like own source) m;
  }

  -- a marker
  numbers_marked : (fs : List P.Frame) → AreNumbered b.next b.active fs → AreNumbered b.next (P.marker ∷ b.active) fs
  numbers_marked [] n = tt
  numbers_marked (f ∷ fs) n = (n.0, n.1, numbers_marked fs n.2)

  pub marked : Alike (R.with_marker b) (B.insert_marker c)
  marked = record {
    sound = record {
      stack = h.sound.stack;
      stand = h.sound.stand;
      entries = h.sound.entries;
      numbers = numbers_marked (frames_of b.stack) h.sound.numbers;
      mode = h.sound.mode;
    };
    like = O.with_active h.like (P.marker ∷ b.active) (B.marker ∷ c.active) (ap (λ fs. B.marker ∷ fs) h.like.active);
  }

  -- an element that was added is counted
  pub counted : Alike b (B.add_one c)
  counted = record { sound = h.sound; like = O.counting h.like (suc c.added) c.tokens c.excess }

  -- the current element is popped, which is a part of a table
  module _ (test : List ℕ → Bool) (m : P.Mode) (leads : Leads test m) (last : test (codes "html") ≡ false) (here : test (name_of b.stack.current) ≡ true) where
    one_popped : (f : P.Frame) (os : List P.Frame) → IsStack f os → test (name_of f) ≡ true → W.popped (path_of (f ∷ os)) ≡ path_of (frames_of (P.popped f os))
    one_popped f [] k y = absurd (true≢false (sym y ∙ ap test k ∙ last))
    one_popped f (o ∷ os) k y = refl

    one_mode : (f : P.Frame) (os : List P.Frame) → IsStack f os → Stand f os → test (name_of f) ≡ true → m ≡ P.mode_of (P.names (P.popped f os))
    one_mode f [] k l y = absurd (true≢false (sym y ∙ ap test k ∙ last))
    one_mode f (o ∷ os) k l y = sym (mode_around test m leads f o os l y)

    pub current_popped : Alike (R.to_mode m (R.current_popped b)) (B.switch_to (mode_is (in_caption c.context) m) (B.pop_current_node c))
    current_popped =
        let s = popped_stays b.next b.active b.stack.current b.stack.others (stays b h.sound) in
        record {
          sound = record {
            stack = s.stack;
            stand = s.stand;
            entries = h.sound.entries;
            numbers = s.numbers;
            mode = one_mode b.stack.current b.stack.others h.sound.stack h.sound.stand here;
          };
          like = O.in_mode (O.with_path h.like (P.popped b.stack.current b.stack.others) (W.popped c.path)
              (popped-bare c.path ∙ ap W.popped h.like.path ∙ one_popped b.stack.current b.stack.others h.sound.stack here)) m;
        }

  -- a cell or a caption is closed, with what it marked
  module _ (test : List ℕ → Bool) (tested : Tag → Bool) (same : (own : HtmlTag) → test own.name ≡ tested (tag_of own)) (last : test (codes "html") ≡ false)
      (m : P.Mode) (leads : Leads test m) (off : (n : List ℕ) → G.is_implied n ≡ true → test n ≡ false) (opens : R.has_in_table_scope test b ≡ true) where
    pub marked_closed : Alike (R.marked_closed test m b) (B.switch_to (mode_is (in_caption c.context) m) (B.clear_to_last_marker (B.close_except_for T.no_tag (seen tested) c)))
    marked_closed =
        let implied = P.implied_closed P.no_name b.stack.current b.stack.others in
        let s = implied_stays b.next b.active P.no_name b.stack.current b.stack.others (stays b h.sound) in
        let found = implied_in test P.no_name off b.stack.current b.stack.others (within_in test G.is_table_scope last b.stack.current b.stack.others h.sound.stack opens) in
        let t = through_stays b.next b.active (P.has_name test) implied.current implied.others s in
        let left = P.popped_through (P.has_name test) implied.current implied.others in
        let l = O.popped_until (O.implied h.like P.no_name T.no_tag (λ own. refl) h.sound.stack) test tested same found in
        record {
          sound = record {
            stack = t.stack;
            stand = t.stand;
            entries = marker_listed b.next b.active h.sound.entries;
            numbers = numbers_by b.next b.active (P.without_last_marker b.active) (frames_of left) (λ f a. agrees_marker f b.active a) t.numbers;
            mode = sym (through_mode test m leads implied.current implied.others s.stand found);
          };
          like = O.in_mode (O.with_active l (P.without_last_marker b.active) (B.without_last_marker c.active)
              (without_last_marker-bare c.active ∙ ap B.without_last_marker h.like.active ∙ without_last_marker_is b.active)) m;
        }

-- The insertion mode is reset appropriately

mode_at_by : (c : B.Builder) (v : Bool) (g : G.Group) (m : P.Mode) → has_twin g ≡ true → E.or_mode (E.mode_at c false (twin g)) (mode_is v m) ≡ mode_is v (P.mode_by g m)
mode_at_by c v G.misplaced m h = absurd (true≢false (sym h))
mode_at_by c v G.an_option m h = absurd (true≢false (sym h))
mode_at_by c v G.elsewhere m h = absurd (true≢false (sym h))
mode_at_by c v _ m h = refl

-- where the context element decides
pub context_mode : (c : B.Builder) (g : D.Group) → begins_in_flow g ≡ true → E.or_mode (E.mode_at c true g) B.in_body ≡ first_mode (is_caption_group g)
context_mode c D.the_html h = absurd (true≢false (sym h))
context_mode c D.a_frameset h = absurd (true≢false (sym h))
context_mode c D.a_template h = absurd (true≢false (sym h))
context_mode c D.a_table h = absurd (true≢false (sym h))
context_mode c D.a_caption h = refl
context_mode c D.a_column_group h = absurd (true≢false (sym h))
context_mode c D.a_table_body h = absurd (true≢false (sym h))
context_mode c D.a_row h = absurd (true≢false (sym h))
context_mode c _ h = refl

reset_is : (c : B.Builder) (e : IsFlow c.context) (f : P.Frame) (os : List P.Frame) → IsStack f os →
    E.mode_of c (map frame_of (f ∷ os)) ≡ mode_is (in_caption c.context) (mode_in f os)
reset_is c e f [] k =
    ap (λ x. E.or_mode (E.tag_mode c true (E.last_tag x (tag_of f.element.own))) B.in_body) e.is
    ∙ context_mode c (D.group e.tag.name) e.begins
    ∙ ap (λ x. first_mode (in_caption x)) (sym e.is)
    ∙ ap (λ n. mode_is (in_caption c.context) (P.mode_by (G.group n) P.in_body)) (sym k)
reset_is c e f (o ∷ os) k =
    ap (E.or_mode (E.mode_at c false (D.group (name_of f)))) (reset_is c e o os k.1)
    ∙ ap (λ g. E.or_mode (E.mode_at c false g) (mode_is (in_caption c.context) (mode_in o os))) ((facts (name_of f)).twins k.0)
    ∙ mode_at_by c (in_caption c.context) (group_of f) (mode_in o os) k.0

pub reset : {b : P.Builder} {c : B.Builder} → Like b c → IsStack b.stack.current b.stack.others → Like (R.to_mode (P.mode_of (P.names b.stack)) b) (E.reset_insertion_mode c)
reset {b = b} {c = c} h k = record {
  path = h.path;
  active = h.active;
  next = h.next;
  mode = mode_of-bare c (W.elements c.path) ∙ ap (E.mode_of c) (elements-bare c.path) ∙ ap (λ p. E.mode_of c (W.elements p)) h.path ∙ ap (E.mode_of c) (elements_are (frames_of b.stack)) ∙ reset_is c h.context b.stack.current b.stack.others k;
  skips = h.skips;
  fostering = h.fostering;
  quirks = h.quirks;
  templates = h.templates;
  context = h.context;
  search = h.search;
}

pub table_same : (own : HtmlTag) → G.is_table own.name ≡ T.is_table (tag_of own)
table_same own = (facts own.name).table

pub table_closed : {b : P.Builder} {c : B.Builder} → Alike b c → R.has_in_table_scope G.is_table b ≡ true → Alike (R.table_closed b) (S.table_closed c)
table_closed {b = b} {c = c} h opens =
    let t = through_stays b.next b.active (P.has_name G.is_table) b.stack.current b.stack.others (stays b h.sound) in
    let l = O.popped_until h.like G.is_table T.is_table table_same (within_in G.is_table G.is_table_scope refl b.stack.current b.stack.others h.sound.stack opens) in
    record {
      sound = record { stack = t.stack; stand = t.stand; entries = h.sound.entries; numbers = t.numbers; mode = refl };
      like = reset l t.stack;
    }

-- What is in table scope

pub table_scope_same : (own : HtmlTag) → G.is_table_scope own.name ≡ T.is_table_scope (tag_of own)
table_scope_same own = refl

pub in_table_scope : {b : P.Builder} {c : B.Builder} → Like b c → (test : List ℕ → Bool) (tested : Tag → Bool) → ((own : HtmlTag) → test own.name ≡ tested (tag_of own)) →
    B.has_in_table_scope (seen tested) c ≡ R.has_in_table_scope test b
in_table_scope {b = b} {c = c} h test tested same =
    has_within-bare tested T.is_table_scope c.path ∙ ap (W.has_within tested T.is_table_scope) h.path
    ∙ has_within test G.is_table_scope tested T.is_table_scope b.stack (same_all test tested same (frames_of b.stack)) (same_all G.is_table_scope T.is_table_scope table_scope_same (frames_of b.stack))
