-- What holds of the partial builder stays so, by the rules of "in body".
use Rattle.std.proofs.Common.{◌≡◌, ◌<◌, ℕ, suc, Bool, true, false, not, ◌||◌, ◌&&◌, ◌==◌, List, [], ◌∷◌, map, codes, refl, ap, ap₂, sym, ◌∙◌, subst, inl, inr, true≢false, arith}
use Rattle.std.specs.Prelude.{nat_lt}
use Rattle.std.proofs.lemmas.Bool.{and_parts, cases_Bool, cond-false, cond-true, eqb-true, false_from_ne_true}
use Rattle.tl_tree_spec.specs.Builder as P
use Rattle.tl_tree_spec.specs.HtmlForest.{HtmlTag}
use Rattle.tl_tree_spec.specs.Groups as G
use Rattle.tl_dom_spec.proofs.PartNames.{has_twin}
use Rattle.tl_dom_spec.proofs.PartPaths.{IsStack, frames_of, has_in, name_of}
use Rattle.tl_dom_spec.proofs.PartActive.{more_listed, not_listed, room_listed}
use Rattle.tl_dom_spec.proofs.PartBuilders.{Agrees, AreListed, AreNumbered, Sound, Stand, is_cell_or_caption, is_flow_group, is_formatting_group, stands_in}

-- groups

abbrev pub group_of : P.Frame → G.Group
group_of f = G.group (name_of f)

abbrev is_column : G.Group → Bool
is_column G.a_column = true
is_column _ = false

-- what is no part of a table, and no table
abbrev pub is_plain : G.Group → Bool
is_plain g = has_twin g && (is_flow_group g && not (is_cell_or_caption g || is_column g))

pub plain_twin : (g : G.Group) → is_plain g ≡ true → has_twin g ≡ true
plain_twin g h = (and_parts (has_twin g) _ h).0

pub plain_mode : (g : G.Group) (m : P.Mode) → is_plain g ≡ true → P.mode_by g m ≡ m
plain_mode G.a_table m h = absurd (true≢false (sym h))
plain_mode G.a_caption m h = absurd (true≢false (sym h))
plain_mode G.a_column_group m h = absurd (true≢false (sym h))
plain_mode G.a_table_body m h = absurd (true≢false (sym h))
plain_mode G.a_row m h = absurd (true≢false (sym h))
plain_mode G.a_cell m h = absurd (true≢false (sym h))
plain_mode _ m h = refl

pub plain_stands : (g around : G.Group) → is_plain g ≡ true → stands_in g around ≡ is_flow_group around
plain_stands G.a_table_body around h = absurd (true≢false (sym h))
plain_stands G.a_column_group around h = absurd (true≢false (sym h))
plain_stands G.a_caption around h = absurd (true≢false (sym h))
plain_stands G.a_row around h = absurd (true≢false (sym h))
plain_stands G.a_cell around h = absurd (true≢false (sym h))
plain_stands G.a_column around h = absurd (true≢false (sym h))
plain_stands _ around h = refl

pub formatting_plain : (g : G.Group) → is_formatting_group g ≡ true → is_plain g ≡ true
formatting_plain G.a_format h = refl
formatting_plain G.an_anchor h = refl
formatting_plain G.a_nobr h = refl
formatting_plain _ h = absurd (true≢false (sym h))

flow_by : (g : G.Group) (m : P.Mode) → P.is_flow (P.mode_by g m) ≡ true → is_flow_group g ≡ true
flow_by G.a_table m h = absurd (true≢false (sym h))
flow_by G.a_table_body m h = absurd (true≢false (sym h))
flow_by G.a_row m h = absurd (true≢false (sym h))
flow_by G.a_column_group m h = absurd (true≢false (sym h))
flow_by _ m h = refl

-- where the rules of "in body" are used the current element is no table, nor what holds rows alone
pub flow_top : (b : P.Builder) → Sound b → P.is_flow b.mode ≡ true → is_flow_group (group_of b.stack.current) ≡ true
flow_top b h k = flow_by (group_of b.stack.current) _ (ap P.is_flow (sym h.mode) ∙ k)

-- frames that are alike but for what they hold

pub stack_same : (f g : P.Frame) (os : List P.Frame) → name_of g ≡ name_of f → IsStack f os → IsStack g os
stack_same f g [] e h = e ∙ h
stack_same f g (o ∷ os) e h = (ap (λ n. has_twin (G.group n)) e ∙ h.0, h.1)

pub stand_same : (f g : P.Frame) (os : List P.Frame) → name_of g ≡ name_of f → Stand f os → Stand g os
stand_same f g [] e h = tt
stand_same f g (o ∷ os) e h = (ap (λ n. stands_in (G.group n) (group_of o)) e ∙ h.0, h.1)

-- entries and numbers

pub agrees_fresh : (f : P.Frame) (next : ℕ) (es : List P.Entry) → f.element.number ≡ next → AreListed next es → Agrees f es
agrees_fresh f next [] e h = tt
agrees_fresh f next (P.marker ∷ es) e h = agrees_fresh f next es e h
agrees_fresh f next (P.formatting x ∷ es) e h = (
  λ same. (let l = h.2 in let k = eqb-true f.element.number x.number same in absurd (omega (arith, l, k, e))),
  agrees_fresh f next es e h.3,
)

pub agrees_unlisted : (f : P.Frame) (k : ℕ) (es : List P.Entry) → Agrees f es → Agrees f (P.unlisted k es)
agrees_unlisted f k [] h = tt
agrees_unlisted f k (P.marker ∷ es) h = agrees_unlisted f k es h
agrees_unlisted f k (P.formatting e ∷ es) h = elim (cases_Bool (e.number == k)) [
  | inl y ↦ subst (Agrees f) (sym (cond-true _ _ _ y)) h.1
  | inr n ↦ subst (Agrees f) (sym (cond-false _ _ _ n)) (h.0, agrees_unlisted f k es h.1)
]

pub agrees_marker : (f : P.Frame) (es : List P.Entry) → Agrees f es → Agrees f (P.without_last_marker es)
agrees_marker f [] h = tt
agrees_marker f (P.marker ∷ es) h = h
agrees_marker f (P.formatting e ∷ es) h = agrees_marker f es h.1

agrees_earliest : (f : P.Frame) (own : HtmlTag) (es : List P.Entry) → Agrees f es → Agrees f (P.without_earliest own es)
agrees_earliest f own [] h = tt
agrees_earliest f own (P.marker ∷ es) h = h
agrees_earliest f own (P.formatting e ∷ es) h = elim (cases_Bool (P.is_alike own e.own && (P.alike_count own es == 0))) [
  | inl y ↦ subst (Agrees f) (sym (cond-true _ _ _ y)) h.1
  | inr n ↦ subst (Agrees f) (sym (cond-false _ _ _ n)) (h.0, agrees_earliest f own es h.1)
]

pub agrees_room : (f : P.Frame) (own : HtmlTag) (es : List P.Entry) → Agrees f es → Agrees f (P.with_room own es)
agrees_room f own es h = elim (cases_Bool (nat_lt 2 (P.alike_count own es))) [
  | inl y ↦ subst (Agrees f) (sym (cond-true _ _ _ y)) (agrees_earliest f own es h)
  | inr n ↦ subst (Agrees f) (sym (cond-false _ _ _ n)) h
]

-- of all frames, where the entries change
pub numbers_by : (next : ℕ) (es ds : List P.Entry) (fs : List P.Frame) → ((f : P.Frame) → Agrees f es → Agrees f ds) → AreNumbered next es fs → AreNumbered next ds fs
numbers_by next es ds [] g h = tt
numbers_by next es ds (f ∷ fs) g h = (h.0, g f h.1, numbers_by next es ds fs g h.2)

pub numbers_more : (next : ℕ) (es : List P.Entry) (fs : List P.Frame) → AreNumbered next es fs → AreNumbered (suc next) es fs
numbers_more next es [] h = tt
numbers_more next es (f ∷ fs) h = ((let l = h.0 in omega (arith, l)), h.1, numbers_more next es fs h.2)

-- where an element that is new is listed
pub numbers_listed : (next : ℕ) (own : HtmlTag) (es : List P.Entry) (fs : List P.Frame) → AreNumbered next es fs → AreNumbered (suc next) (P.formatting (record { number = next; own = own }) ∷ es) fs
numbers_listed next own es [] h = tt
numbers_listed next own es (f ∷ fs) h = (
  (let l = h.0 in omega (arith, l)),
  (λ same. (let l = h.0 in let k = eqb-true f.element.number next same in absurd (omega (arith, l, k))), h.1),
  numbers_listed next own es fs h.2,
)

-- a frame that holds something else
pub numbers_same : (next : ℕ) (es : List P.Entry) (f g : P.Frame) (fs : List P.Frame) → g.element ≡ f.element → AreNumbered next es (f ∷ fs) → AreNumbered next es (g ∷ fs)
numbers_same next es f g fs e h =
    (subst (λ (x : P.Element). x.number < next) (sym e) h.0, agrees_same f g es e h.1, h.2)
  where
    agrees_same : (f g : P.Frame) (es : List P.Entry) → g.element ≡ f.element → Agrees f es → Agrees g es
    agrees_same f g [] e h = tt
    agrees_same f g (P.marker ∷ es) e h = agrees_same f g es e h
    agrees_same f g (P.formatting x ∷ es) e h = (
      λ same. ap (λ (y : P.Element). y.own) e ∙ h.0 (ap (λ (y : P.Element). y.number == x.number) (sym e) ∙ same),
      agrees_same f g es e h.1,
    )

-- an element is inserted, which is current then

pub new_frame : P.Builder → HtmlTag → P.Frame
new_frame b own = (P.inserted b own).stack.current

-- whatever group it is of, where it may stand in the current one, with the mode that it asks for
pub pushed_sound : (b : P.Builder) (own : HtmlTag) (m : P.Mode) → Sound b → has_twin (G.group own.name) ≡ true →
    stands_in (G.group own.name) (group_of b.stack.current) ≡ true → m ≡ P.mode_by (G.group own.name) b.mode →
    Sound (record (P.inserted b own) { mode = m })
pushed_sound b own m h twin stands e = record {
  stack = (twin, h.stack);
  stand = (stands, h.stand);
  entries = more_listed b.next b.active h.entries;
  numbers = (
    (let z : b.next < suc b.next = omega arith in z),
    agrees_fresh (record { element = P.new_element b own; children = P.no_nodes }) b.next b.active refl h.entries,
    numbers_more b.next b.active (frames_of b.stack) h.numbers,
  );
  mode = e ∙ ap (P.mode_by (G.group own.name)) h.mode;
}

pub inserted_sound : (b : P.Builder) (own : HtmlTag) → Sound b → P.is_flow b.mode ≡ true → is_plain (G.group own.name) ≡ true → Sound (P.inserted b own)
inserted_sound b own h k plain =
    pushed_sound b own b.mode h (plain_twin (G.group own.name) plain)
    (plain_stands (G.group own.name) (group_of b.stack.current) plain ∙ flow_top b h k)
    (sym (plain_mode (G.group own.name) b.mode plain))

pub alone_sound : (b : P.Builder) (own : HtmlTag) → Sound b → Sound (P.alone b own)
alone_sound b own h =
    let f = b.stack.current in
    let g = (P.alone b own).stack.current in
    record {
      stack = stack_same f g b.stack.others refl h.stack;
      stand = stand_same f g b.stack.others refl h.stand;
      entries = more_listed b.next b.active h.entries;
      numbers = numbers_same (suc b.next) b.active f g b.stack.others refl (numbers_more b.next b.active (frames_of b.stack) h.numbers);
      mode = h.mode;
    }

pub character_sound : (b : P.Builder) (x : ℕ) → Sound b → Sound (P.with_character b x)
character_sound b x h =
    let f = b.stack.current in
    let g = (P.with_character b x).stack.current in
    record {
      stack = stack_same f g b.stack.others refl h.stack;
      stand = stand_same f g b.stack.others refl h.stand;
      entries = h.entries;
      numbers = numbers_same b.next b.active f g b.stack.others refl h.numbers;
      mode = h.mode;
    }

-- the list of active formatting elements

pub active_sound : (b : P.Builder) (es : List P.Entry) → Sound b → AreListed b.next es → AreNumbered b.next es (frames_of b.stack) → Sound (record b { active = es })
active_sound b es h k n = record { stack = h.stack; stand = h.stand; entries = k; numbers = n; mode = h.mode }

pub formatted_sound : (b : P.Builder) (own : HtmlTag) → Sound b → P.is_flow b.mode ≡ true → is_formatting_group (G.group own.name) ≡ true → Sound (P.formatted b own)
formatted_sound b own h k g =
    let plain = formatting_plain (G.group own.name) g in
    let room = P.with_room own b.active in
    let listed = room_listed own b.next b.active h.entries in
    let i = inserted_sound b own h k plain in
    let f : P.Frame = record { element = P.new_element b own; children = P.no_nodes } in
    record {
      stack = i.stack;
      stand = i.stand;
      entries = (g, not_listed b.next room listed, (let z : b.next < suc b.next = omega arith in z), more_listed b.next room listed);
      numbers = (
        (let z : b.next < suc b.next = omega arith in z),
        (λ _. refl, agrees_fresh f b.next room refl listed),
        numbers_listed b.next own room (frames_of b.stack) (numbers_by b.next b.active room (frames_of b.stack) (λ f. agrees_room f own b.active) h.numbers),
      );
      mode = i.mode;
    }

pub reopened_sound : (b : P.Builder) (own : HtmlTag) → Sound b → P.is_flow b.mode ≡ true → is_formatting_group (G.group own.name) ≡ true → Sound (P.reopened own b)
reopened_sound b own h k g =
    let i = inserted_sound b own h k (formatting_plain (G.group own.name) g) in
    let f : P.Frame = record { element = P.new_element b own; children = P.no_nodes } in
    record {
      stack = i.stack;
      stand = i.stand;
      entries = (g, not_listed b.next b.active h.entries, (let z : b.next < suc b.next = omega arith in z), more_listed b.next b.active h.entries);
      numbers = (
        (let z : b.next < suc b.next = omega arith in z),
        (λ _. refl, agrees_fresh f b.next b.active refl h.entries),
        numbers_listed b.next own b.active (frames_of b.stack) h.numbers,
      );
      mode = i.mode;
    }

pub rebuilt_sound : (b : P.Builder) (es : List P.Entry) → Sound b → P.is_flow b.mode ≡ true → AreListed b.next es → AreNumbered b.next es (frames_of b.stack) →
    Sound (P.rebuilt b es) × ((P.rebuilt b es).mode ≡ b.mode)
rebuilt_sound b [] h k l n = (active_sound b [] h tt n, refl)
rebuilt_sound b (P.marker ∷ es) h k l n = (active_sound b (P.marker ∷ es) h l n, refl)
rebuilt_sound b (P.formatting e ∷ es) h k l n =
    let more = rebuilt_sound b es h k l.3 (numbers_by b.next (P.formatting e ∷ es) es (frames_of b.stack) (λ f a. a.1) n) in
    elim (cases_Bool (P.is_open e.number (P.elements b.stack))) [
      | inl y ↦ subst (λ (r : P.Builder). Sound r × (r.mode ≡ b.mode)) (sym (cond-true _ _ _ y)) (active_sound b (P.formatting e ∷ es) h l n, refl)
      | inr m ↦ subst (λ (r : P.Builder). Sound r × (r.mode ≡ b.mode)) (sym (cond-false _ _ _ m))
          (reopened_sound (P.rebuilt b es) e.own more.0 (ap P.is_flow more.1 ∙ k) l.0, more.1)
    ]

pub reconstructed_sound : (b : P.Builder) → Sound b → P.is_flow b.mode ≡ true → Sound (P.reconstructed b) × ((P.reconstructed b).mode ≡ b.mode)
reconstructed_sound b h k = rebuilt_sound b b.active h k h.entries h.numbers

-- what is popped

pub record Popped (names : List (List ℕ)) (next : ℕ) (es : List P.Entry) (s : P.Stack) : Type 0 where
  pub stack : IsStack s.current s.others
  pub stand : Stand s.current s.others
  pub numbers : AreNumbered next es (frames_of s)
  pub mode : P.mode_of (P.names s) ≡ P.mode_of names
  pub top : is_flow_group (group_of s.current) ≡ true

pub popped_sound : (b : P.Builder) (s : P.Stack) → Sound b → Popped (P.names b.stack) b.next b.active s → Sound (P.with_stack b s)
popped_sound b s h p = record { stack = p.stack; stand = p.stand; entries = h.entries; numbers = p.numbers; mode = h.mode ∙ sym p.mode }

abbrev element_of : P.Frame → P.Element
element_of f = f.element

abbrev pub names_in : P.Frame → List P.Frame → List (List ℕ)
names_in f os = P.names (record { current = f; others = os })

module _ (next : ℕ) (es : List P.Entry) where
  -- one plain frame is popped
  pub plain_popped : (f o : P.Frame) (os : List P.Frame) (s : P.Stack) → is_plain (group_of f) ≡ true →
      Popped (names_in (P.closed_into o f) os) next es s → Popped (names_in f (o ∷ os)) next es s
  plain_popped f o os s h p = record {
    stack = p.stack;
    stand = p.stand;
    numbers = p.numbers;
    mode = p.mode ∙ sym (plain_mode (group_of f) (P.mode_of (names_in o os)) h);
    top = p.top;
  }

  -- what is left then
  pub under : (f o : P.Frame) (os : List P.Frame) → is_plain (group_of f) ≡ true → IsStack f (o ∷ os) → Stand f (o ∷ os) → AreNumbered next es (f ∷ o ∷ os) →
      IsStack (P.closed_into o f) os × Stand (P.closed_into o f) os × AreNumbered next es (P.closed_into o f ∷ os) × (is_flow_group (group_of o) ≡ true)
  under f o os h k l n = (
    stack_same o (P.closed_into o f) os refl k.1,
    stand_same o (P.closed_into o f) os refl l.1,
    numbers_same next es o (P.closed_into o f) os refl n.2,
    sym (plain_stands (group_of f) (group_of o) h) ∙ l.0,
  )

  -- up to an element that passes a test, where none that bounds it stands further in
  module _ (test : P.Element → Bool) (bounds : List ℕ → Bool) (cover : (n : List ℕ) → bounds n ≡ false → is_cell_or_caption (G.group n) ≡ false)
      (other : (f : P.Frame) → test f.element ≡ true → Agrees f es → is_cell_or_caption (group_of f) ≡ false)
      (last : (f : P.Frame) → name_of f ≡ codes "html" → Agrees f es → test f.element ≡ false) where
    pub through_sound : (f : P.Frame) (os : List P.Frame) → IsStack f os → Stand f os → AreNumbered next es (f ∷ os) → is_flow_group (group_of f) ≡ true →
        P.within test (P.has_name bounds) (map element_of (f ∷ os)) ≡ true →
        (has_in test f os ≡ true) × Popped (names_in f os) next es (P.popped_through test f os)
    through_sound f [] k l n top w =
        absurd (true≢false (sym w ∙ ap (λ v. v || (not (bounds (name_of f)) && false)) (last f k n.1) ∙ nothing (not (bounds (name_of f)))))
      where
        nothing : (v : Bool) → (v && false) ≡ false
        nothing true = refl
        nothing false = refl
    through_sound f (o ∷ os) k l n top w = elim (cases_Bool (test f.element)) [
      | inl y ↦ (
          let p = flow_plain (group_of f) (group_of o) k.0 top (other f y n.1) l.0 in
          let u = under f o os p k l n in (
            ap (λ v. v || has_in test o os) y,
            subst (Popped (names_in f (o ∷ os)) next es) (sym (cond-true _ _ _ y))
                (plain_popped f o os (record { current = P.closed_into o f; others = os }) p (record { stack = u.0; stand = u.1; numbers = u.2; mode = refl; top = u.3 })),
          ))
      | inr m ↦ (
          let deeper : (not (bounds (name_of f)) && P.within test (P.has_name bounds) (map element_of (o ∷ os))) ≡ true =
          sym (ap (λ v. v || (not (bounds (name_of f)) && P.within test (P.has_name bounds) (map element_of (o ∷ os)))) m) ∙ w in
          let two = and_parts (not (bounds (name_of f))) _ deeper in
          let p = flow_plain (group_of f) (group_of o) k.0 top (cover (name_of f) (was_false (bounds (name_of f)) two.0)) l.0 in
          let u = under f o os p k l n in
          let more = through_sound (P.closed_into o f) os u.0 u.1 u.2 u.3 two.1 in (
            ap (λ v. v || has_in test o os) m ∙ same_in o f os more.0,
            subst (Popped (names_in f (o ∷ os)) next es) (sym (cond-false _ _ _ m)) (plain_popped f o os (P.popped_through test (P.closed_into o f) os) p more.1),
          ))
    ]
      where
        was_false : (v : Bool) → not v ≡ true → v ≡ false
        was_false true h = absurd (true≢false (sym h))
        was_false false h = refl

        same_in : (o f : P.Frame) (os : List P.Frame) → has_in test (P.closed_into o f) os ≡ true → has_in test o os ≡ true
        same_in o f [] h = h
        same_in o f (p ∷ os) h = h

        no_column : (g around : G.Group) → stands_in g around ≡ true → is_column g ≡ false
        no_column G.a_column around s = absurd (true≢false (sym s))
        no_column _ around s = refl

        flow_plain : (g around : G.Group) → has_twin g ≡ true → is_flow_group g ≡ true → is_cell_or_caption g ≡ false → stands_in g around ≡ true → is_plain g ≡ true
        flow_plain g around t f c s =
            ap (λ v. v && (is_flow_group g && not (is_cell_or_caption g || is_column g))) t
            ∙ ap (λ v. v && not (is_cell_or_caption g || is_column g)) f
            ∙ ap₂ (λ v w. not (v || w)) c (no_column g around s)

  -- implied end tags
  module _ (but : List ℕ → Bool) where
    implied_plain : (g : G.Group) → has_twin g ≡ true → G.is_implied_group g ≡ true → is_plain g ≡ true
    implied_plain G.a_description t h = refl
    implied_plain G.an_item t h = refl
    implied_plain G.an_option t h = absurd (true≢false (sym t))
    implied_plain G.a_paragraph t h = refl
    implied_plain G.a_ruby_base t h = refl
    implied_plain G.a_ruby_text t h = refl
    implied_plain _ t h = absurd (true≢false (sym h))

    pub implied_sound : (f : P.Frame) (os : List P.Frame) → IsStack f os → Stand f os → AreNumbered next es (f ∷ os) → is_flow_group (group_of f) ≡ true →
        Popped (names_in f os) next es (P.implied_closed but f os)
    implied_sound f [] k l n top = record { stack = k; stand = l; numbers = n; mode = refl; top = top }
    implied_sound f (o ∷ os) k l n top = elim (cases_Bool (G.is_implied (name_of f) && not (but (name_of f)))) [
      | inl y ↦ (
          let p = implied_plain (group_of f) k.0 (and_parts (G.is_implied (name_of f)) _ y).0 in
          let u = under f o os p k l n in
          subst (Popped (names_in f (o ∷ os)) next es) (sym (cond-true _ _ _ y))
          (plain_popped f o os (P.implied_closed but (P.closed_into o f) os) p (implied_sound (P.closed_into o f) os u.0 u.1 u.2 u.3)))
      | inr m ↦ subst (Popped (names_in f (o ∷ os)) next es) (sym (cond-false _ _ _ m)) (record { stack = k; stand = l; numbers = n; mode = refl; top = top })
    ]

    -- an element that none of these is stays where it was
    pub implied_within : (test : P.Element → Bool) (bounds : P.Element → Bool) →
        ((e : P.Element) → test e ≡ true → (G.is_implied e.own.name && not (but e.own.name)) ≡ false) →
        (f : P.Frame) (os : List P.Frame) → P.within test bounds (map element_of (f ∷ os)) ≡ true →
        P.within test bounds (P.elements (P.implied_closed but f os)) ≡ true
    implied_within test bounds kept f [] w = w
    implied_within test bounds kept f (o ∷ os) w = elim (cases_Bool (G.is_implied (name_of f) && not (but (name_of f)))) [
      | inl y ↦ (
          let off : test f.element ≡ false = false_from_ne_true (test f.element) (λ t. true≢false (sym y ∙ kept f.element t)) in
          let deeper : (not (bounds f.element) && P.within test bounds (map element_of (o ∷ os))) ≡ true =
          sym (ap (λ v. v || (not (bounds f.element) && P.within test bounds (map element_of (o ∷ os)))) off) ∙ w in
          ap (λ (s : P.Stack). P.within test bounds (P.elements s)) (cond-true _ _ _ y)
          ∙ implied_within test bounds kept (P.closed_into o f) os (and_parts (not (bounds f.element)) _ deeper).1)
      | inr m ↦ ap (λ (s : P.Stack). P.within test bounds (P.elements s)) (cond-false _ _ _ m) ∙ w
    ]
