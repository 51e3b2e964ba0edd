-- The rules of the modes of tables: where the partial builder calls the rules of the next mode, the whole one reprocesses the token in it.
use Rattle.std.proofs.Common.{Bool, List, None, Option, Some, [], ap, ap₂, arith, codes, false, if◌then◌else◌, inl, inr, not, refl, subst, suc, sym, true, true≢false, zero, ℕ, ◌&&◌, ◌+◌, ◌||◌, ◌∙◌, ◌∷◌, ◌≡◌, ◌⊎◌}
use Rattle.std.specs.List.{list_all}
use Rattle.std.specs.Str.{bytes_eq}
use Rattle.std.proofs.lemmas.Bool.{and_parts, cases_Bool, cond-false, cond-true, false_from_ne_true}
use Rattle.std.proofs.lemmas.Slice.Eq.{bytes_eq-Decides}
use Rattle.tl_names.specs.Elements.{is_among, table_scope_bounds}
use Rattle.tl_html_spec.specs.Balanced.{is_one_of}
use Rattle.tl_tree_spec.specs.Builder as P
use Rattle.tl_tree_spec.specs.HtmlTreeBuilder as R
use Rattle.tl_tree_spec.specs.HtmlForest.{HtmlTag}
use Rattle.tl_tree_spec.specs.Groups as G
use Rattle.tl_dom_spec.specs.Tags as T
use Rattle.tl_dom_spec.specs.Groups as D
use Rattle.tl_dom_spec.specs.Path as W
use Rattle.tl_dom_spec.specs.Builder as B
use Rattle.tl_dom_spec.specs.Body as Body
use Rattle.tl_dom_spec.specs.Tables as S
use Rattle.tl_dom_spec.specs.Dispatcher as M
use Rattle.tl_dom_spec.proofs.PartNames.{facts, has_twin, is_elsewhere, is_misplaced, is_option_group, twin}
use Rattle.tl_dom_spec.proofs.PartPaths.{IsStack, frames_of, name_of, path_of, tag_of, tag_with}
use Rattle.tl_dom_spec.proofs.PartBuilders.{Alike, Like, Sound, Stand, as_html, first_mode, in_caption, mode_is, stands_in}
use Rattle.tl_dom_spec.proofs.PartOps as O
use Rattle.tl_dom_spec.proofs.PartSound.{alone_sound, group_of, names_in}
use Rattle.tl_dom_spec.proofs.PartRules.{end_in_body, start_in_body}
use Rattle.tl_dom_spec.proofs.PartTables as A
use Rattle.tl_dom_spec.proofs.PartTables.{current_at, in_table_scope, mode_in}
use Rattle.tl_dom_spec.proofs.PartSources.{html_content-bare, top-bare}

-- A run of the whole builder

-- an outcome that is done, after at most so many further steps, with a builder that is alike
abbrev pub Reaches : B.Outcome → ℕ → (B.Builder → B.Outcome) → P.Builder → Type 0
Reaches (B.Done d) n step after = Alike after d
Reaches (B.Again d) zero step after = ⊥
Reaches (B.Again d) (suc n) step after = Reaches (step d) n step after

abbrev pub more : ℕ → ℕ → ℕ
more zero k = k
more (suc n) k = suc (more n k)

pub reaches_repeated : (n k : ℕ) (step : B.Builder → B.Outcome) (o : B.Outcome) (after : P.Builder) → Reaches o n step after → Alike after (B.repeated (more n k) step o)
reaches_repeated zero zero step (B.Done d) after h = h
reaches_repeated zero (suc k) step (B.Done d) after h = h
reaches_repeated (suc n) k step (B.Done d) after h = h
reaches_repeated zero k step (B.Again d) after h = absurd h
reaches_repeated (suc n) k step (B.Again d) after h = reaches_repeated n k step (step d) after h

pub enough : (k : ℕ) → more 8 k ≡ 8 + k
enough k = omega arith

-- The dispatcher: all elements are those of HTML

html_content : (own : HtmlTag) (token : B.Token) → M.is_html_content (tag_of own) token ≡ true
html_content own B.end_of_file = refl
html_content own _ = refl

html_around : (t : T.Tag) (token : B.Token) → M.is_html_content (as_html t) token ≡ true
html_around t B.end_of_file = refl
html_around t _ = refl

pub content_of : (token : B.Token) (t : T.Tag) (f : P.Frame) (v : Bool) → M.is_html_content (if v then as_html t else tag_of f.element.own) token ≡ true
content_of token t f true = html_around t token
content_of token t f false = html_content f.element.own token

-- the mode of the whole builder where the partial one is in this mode
abbrev pub mode_now : B.Builder → P.Mode → B.Mode
mode_now c m = mode_is (in_caption c.context) m

pub dispatched : {b : P.Builder} {c : B.Builder} → Like b c → (token : B.Token) → M.dispatch token c ≡ M.mode_step (mode_now c b.mode) c token
dispatched {b = b} {c = c} h token =
    cond-true _ _ _ (
    html_content-bare c.context c.path token
    ∙ ap₂ (λ x p. M.is_html_content (B.adjusted_tag x p) token) h.context.is h.path
    ∙ content_of token h.context.tag b.stack.current (B.is_only (W.elements (path_of (frames_of b.stack)))))
    ∙ ap (λ m. M.mode_step m c token) h.mode

pub again : {b : P.Builder} {c : B.Builder} → Alike b c → (token : B.Token) (n : ℕ) (after : P.Builder) →
    Reaches (M.mode_step (mode_now c b.mode) c token) n (M.dispatch token) after → Reaches (B.Again c) (suc n) (M.dispatch token) after
again h token n after r = subst (λ o. Reaches o n (M.dispatch token) after) (sym (dispatched h.like token)) r

-- What the partial builder answers

abbrev is_answer : Option P.Builder → Bool
is_answer None = false
is_answer (Some b) = true

pub no_answer : (after : P.Builder) → None ≡ Some after → ⊥
no_answer after e = true≢false (sym (ap is_answer e))

abbrev answer_or : P.Builder → Option P.Builder → P.Builder
answer_or b None = b
answer_or b (Some c) = c

pub done : {b after : P.Builder} {c : B.Builder} → Some b ≡ Some after → Alike b c → Alike after c
done {b = b} {c = c} e h = subst (λ x. Alike x c) (ap (answer_or b) e) h

pub either : (v w : Bool) {x y : P.Builder} {c d : B.Builder} → w ≡ v → (v ≡ true → Alike x c) → Alike y d → Alike (if v then x else y) (if w then c else d)
either true true e h k = h refl
either false false e h k = k
either true false e h k = absurd (true≢false (sym e))
either false true e h k = absurd (true≢false e)

module _ (n : ℕ) (step : B.Builder → B.Outcome) (after : P.Builder) where
  pub either_way : (v w : Bool) (p q : Option P.Builder) (x y : B.Outcome) → w ≡ v →
      (v ≡ true → p ≡ Some after → Reaches x n step after) → (q ≡ Some after → Reaches y n step after) →
      (if v then p else q) ≡ Some after → Reaches (if w then x else y) n step after
  either_way true true p q x y e h k a = h refl a
  either_way false false p q x y e h k a = k a
  either_way true false p q x y e h k a = absurd (true≢false (sym e))
  either_way false true p q x y e h k a = absurd (true≢false e)

-- Openings

table_context_same : (own : HtmlTag) → G.is_table_context own.name ≡ S.is_table_context (tag_of own)
table_context_same own = (facts own.name).table_context

body_context_same : (own : HtmlTag) → G.is_body_context own.name ≡ S.is_table_body_context (tag_of own)
body_context_same own = (facts own.name).body_context

row_context_same : (own : HtmlTag) → G.is_row_context own.name ≡ S.is_table_row_context (tag_of own)
row_context_same own = (facts own.name).row_context

module _ {b : P.Builder} {c : B.Builder} (h : Alike b c) where
  at_table : b.mode ≡ P.in_table → Alike (R.cleared G.is_table_context b) (S.clear_stack_back_to_table_context c)
  at_table m = A.cleared h G.is_table_context S.is_table_context table_context_same refl
      (ap (λ v. v || is_one_of (codes "html template") (name_of b.stack.current)) (current_at b h.sound P.in_table m))

  at_body : b.mode ≡ P.in_table_body → Alike (R.cleared G.is_body_context b) (S.clear_stack_back_to_table_body_context c)
  at_body m = A.cleared h G.is_body_context S.is_table_body_context body_context_same refl
      (ap (λ v. v || is_one_of (codes "html template") (name_of b.stack.current)) (current_at b h.sound P.in_table_body m))

  at_row : b.mode ≡ P.in_row → Alike (R.cleared G.is_row_context b) (S.clear_stack_back_to_table_row_context c)
  at_row m = A.cleared h G.is_row_context S.is_table_row_context row_context_same refl
      (ap (λ v. v || is_one_of (codes "html template") (name_of b.stack.current)) (current_at b h.sound P.in_row m))

  body_opened : b.mode ≡ P.in_table → (own : HtmlTag) (source : Option ℕ) → G.group own.name ≡ G.a_table_body → Alike (R.body_opened b own) (S.body_opened c (tag_with source own))
  body_opened m own source e =
      let k = at_table m in
      A.opened k own source G.a_table_body P.in_table_body e refl (current_at (R.cleared G.is_table_context b) k.sound P.in_table m) refl

  row_opened : b.mode ≡ P.in_table_body → (own : HtmlTag) (source : Option ℕ) → G.group own.name ≡ G.a_row → Alike (R.row_opened b own) (S.row_opened c (tag_with source own))
  row_opened m own source e =
      let k = at_body m in
      A.opened k own source G.a_row P.in_row e refl (current_at (R.cleared G.is_body_context b) k.sound P.in_table_body m) refl

  cell_opened : b.mode ≡ P.in_row → (own : HtmlTag) (source : Option ℕ) → G.group own.name ≡ G.a_cell →
      Alike (R.cell_opened b own) (B.switch_to B.in_cell (B.insert_marker (B.insert_element (tag_with source own) (S.clear_stack_back_to_table_row_context c))))
  cell_opened m own source e =
      let k = at_row m in
      A.marked (A.opened k own source G.a_cell P.in_cell e refl (current_at (R.cleared G.is_row_context b) k.sound P.in_row m) refl)

  caption_opened : b.mode ≡ P.in_table → (own : HtmlTag) (source : Option ℕ) → G.group own.name ≡ G.a_caption →
      Alike (R.to_mode P.in_caption (P.inserted (R.with_marker (R.cleared G.is_table_context b)) own))
      (B.switch_to B.in_caption (B.insert_element (tag_with source own) (B.insert_marker (S.clear_stack_back_to_table_context c))))
  caption_opened m own source e =
      let k = at_table m in
      A.opened (A.marked k) own source G.a_caption P.in_caption e refl (current_at (R.cleared G.is_table_context b) k.sound P.in_table m) refl

  column_group_opened : b.mode ≡ P.in_table → (own : HtmlTag) (source : Option ℕ) → G.group own.name ≡ G.a_column_group →
      Alike (R.to_mode P.in_column_group (P.inserted (R.cleared G.is_table_context b) own))
      (B.switch_to B.in_column_group (B.insert_element (tag_with source own) (S.clear_stack_back_to_table_context c)))
  column_group_opened m own source e =
      let k = at_table m in
      A.opened k own source G.a_column_group P.in_column_group e refl (current_at (R.cleared G.is_table_context b) k.sound P.in_table m) refl

  alone : (own : HtmlTag) (source : Option ℕ) → Alike (P.alone b own) (B.insert_and_pop (tag_with source own) c)
  alone own source = record { sound = alone_sound b own h.sound; like = O.alone h.like own source }

around_table : (around : G.Group) (outer : P.Mode) → G.is_table_group around ≡ true → P.mode_by around outer ≡ P.in_table
around_table G.a_table outer h = refl
around_table _ outer h = absurd (true≢false (sym h))

around_body : (around : G.Group) (outer : P.Mode) → G.is_table_body_group around ≡ true → P.mode_by around outer ≡ P.in_table_body
around_body G.a_table_body outer h = refl
around_body _ outer h = absurd (true≢false (sym h))

around_row : (around : G.Group) (outer : P.Mode) → G.is_row_group around ≡ true → P.mode_by around outer ≡ P.in_row
around_row G.a_row outer h = refl
around_row _ outer h = absurd (true≢false (sym h))

by_body : (g around : G.Group) (outer : P.Mode) → G.is_table_body_group g ≡ true → stands_in g around ≡ true → P.mode_by around outer ≡ P.in_table
by_body G.a_table_body around outer h k = around_table around outer k
by_body _ around outer h k = absurd (true≢false (sym h))

by_row : (g around : G.Group) (outer : P.Mode) → G.is_row_group g ≡ true → stands_in g around ≡ true → P.mode_by around outer ≡ P.in_table_body
by_row G.a_row around outer h k = around_body around outer k
by_row _ around outer h k = absurd (true≢false (sym h))

by_cell : (g around : G.Group) (outer : P.Mode) → G.is_cell_group g ≡ true → stands_in g around ≡ true → P.mode_by around outer ≡ P.in_row
by_cell G.a_cell around outer h k = around_row around outer k
by_cell _ around outer h k = absurd (true≢false (sym h))

by_caption : (g around : G.Group) (outer : P.Mode) → G.is_caption_group g ≡ true → stands_in g around ≡ true → P.mode_by around outer ≡ P.in_table
by_caption G.a_caption around outer h k = around_table around outer k
by_caption _ around outer h k = absurd (true≢false (sym h))

by_column_group : (g around : G.Group) (outer : P.Mode) → G.is_column_group_group g ≡ true → stands_in g around ≡ true → P.mode_by around outer ≡ P.in_table
by_column_group G.a_column_group around outer h k = around_table around outer k
by_column_group _ around outer h k = absurd (true≢false (sym h))

-- implied end tags close no part of a table
cell_off : (g : G.Group) → G.is_implied_group g ≡ true → G.is_cell_group g ≡ false
cell_off G.a_cell h = absurd (true≢false (sym h))
cell_off _ h = refl

caption_off : (g : G.Group) → G.is_implied_group g ≡ true → G.is_caption_group g ≡ false
caption_off G.a_caption h = absurd (true≢false (sym h))
caption_off _ h = refl

module _ {b : P.Builder} {c : B.Builder} (h : Alike b c) where
  body_closed : b.mode ≡ P.in_table_body → Alike (R.body_closed b) (S.body_closed c)
  body_closed m =
      let k = at_body h m in
      A.current_popped k G.is_table_body P.in_table (λ n a o. by_body (G.group n) (G.group a) o) refl (current_at (R.cleared G.is_body_context b) k.sound P.in_table_body m)

  row_closed : b.mode ≡ P.in_row → Alike (R.row_closed b) (S.row_closed c)
  row_closed m =
      let k = at_row h m in
      A.current_popped k G.is_row P.in_table_body (λ n a o. by_row (G.group n) (G.group a) o) refl (current_at (R.cleared G.is_row_context b) k.sound P.in_row m)

  column_group_closed : b.mode ≡ P.in_column_group → Alike (R.column_group_closed b) (S.column_group_closed c)
  column_group_closed m = A.current_popped h G.is_column_group P.in_table (λ n a o. by_column_group (G.group n) (G.group a) o) refl (current_at b h.sound P.in_column_group m)

  cell_same : (own : HtmlTag) → G.is_cell own.name ≡ S.is_cell (tag_of own)
  cell_same own = (facts own.name).cell

  caption_same : (own : HtmlTag) → G.is_caption own.name ≡ S.is_caption (tag_of own)
  caption_same own = (facts own.name).caption

  caption_closed : R.has_in_table_scope G.is_caption b ≡ true → Alike (R.caption_closed b) (S.caption_closed c)
  caption_closed opens = A.marked_closed h G.is_caption S.is_caption caption_same refl P.in_table (λ n a o. by_caption (G.group n) (G.group a) o) (λ n. caption_off (G.group n)) opens

  cell_closed : R.has_in_table_scope G.is_cell b ≡ true → Alike (R.cell_closed b) (S.cell_closed S.is_cell c)
  cell_closed opens = A.marked_closed h G.is_cell S.is_cell cell_same refl P.in_row (λ n a o. by_cell (G.group n) (G.group a) o) (λ n. cell_off (G.group n)) opens

  -- the cell of a name
  module _ (name : List ℕ) (e : G.group name ≡ G.a_cell) where
    named_group : (n : List ℕ) → bytes_eq name n ≡ true → G.group n ≡ G.a_cell
    named_group n y = ap G.group (sym ((bytes_eq-Decides name n).0 y)) ∙ e

    never_html : (v : Bool) → bytes_eq name (codes "html") ≡ v → v ≡ false
    never_html true y = absurd (true≢false (sym (ap G.is_cell_group (named_group (codes "html") y))))
    never_html false y = refl

    named_closed : R.has_in_table_scope (bytes_eq name) b ≡ true → Alike (R.marked_closed (bytes_eq name) P.in_row b) (S.cell_closed (T.is_named name) c)
    named_closed opens =
        A.marked_closed h (bytes_eq name) (T.is_named name) (λ own. refl)
        (never_html (bytes_eq name (codes "html")) refl) P.in_row
        (λ n a o y. by_cell (G.group n) (G.group a) o (ap G.is_cell_group (named_group n y)))
        (λ n y. false_from_ne_true (bytes_eq name n) (λ z. true≢false (sym y ∙ ap G.is_implied_group (named_group n z))))
        opens

-- In a cell one is in table scope

bound_among : (ws : List (List ℕ)) (n : List ℕ) → list_all (λ w. not (has_twin (G.group w)) || G.is_table_group (G.group w)) ws ≡ true → is_among ws n ≡ true →
    (not (has_twin (G.group n)) || G.is_table_group (G.group n)) ≡ true
bound_among [] n h k = absurd (true≢false (sym k))
bound_among (w ∷ ws) n h k =
    let two = and_parts (not (has_twin (G.group w)) || G.is_table_group (G.group w)) _ h in
    elim (cases_Bool (bytes_eq n w)) [
      | inl y ↦ ap (λ x. not (has_twin (G.group x)) || G.is_table_group (G.group x)) ((bytes_eq-Decides n w).0 y) ∙ two.0
      | inr m ↦ bound_among ws n two.1 (sym (ap (λ v. v || is_among ws n) m) ∙ k)
    ]

no_bound : (n : List ℕ) → has_twin (G.group n) ≡ true → G.is_table_group (G.group n) ≡ false → G.is_table_scope n ≡ false
no_bound n h k = false_from_ne_true (G.is_table_scope n) (λ y.
    true≢false (sym (bound_among table_scope_bounds n refl y) ∙ ap (λ v. not v || G.is_table_group (G.group n)) h ∙ k))

abbrev is_cell_mode : P.Mode → Bool
is_cell_mode P.in_cell = true
is_cell_mode _ = false

no_cell : (m : P.Mode) → m ≡ P.in_cell → is_cell_mode m ≡ false → ⊥
no_cell m e k = true≢false (sym (ap is_cell_mode e) ∙ k)

cell_or : (g : G.Group) (m : P.Mode) → P.mode_by g m ≡ P.in_cell → (g ≡ G.a_cell) ⊎ ((G.is_table_group g ≡ false) × (m ≡ P.in_cell))
cell_or G.a_cell m h = inl refl
cell_or G.a_table m h = absurd (no_cell P.in_table h refl)
cell_or G.a_caption m h = absurd (no_cell P.in_caption h refl)
cell_or G.a_column_group m h = absurd (no_cell P.in_column_group h refl)
cell_or G.a_table_body m h = absurd (no_cell P.in_table_body h refl)
cell_or G.a_row m h = absurd (no_cell P.in_row h refl)
cell_or _ m h = inr (refl, h)

or_rest : (x s r : Bool) → s ≡ false → r ≡ true → (x || (not s && r)) ≡ true
or_rest true s r h k = refl
or_rest false s r h k = ap (λ v. not v && r) h ∙ k

cell_within : (f : P.Frame) (os : List P.Frame) → IsStack f os → mode_in f os ≡ P.in_cell → P.within G.is_cell G.is_table_scope (names_in f os) ≡ true
cell_within f [] k m = absurd (no_cell P.in_body (ap (λ n. P.mode_by (G.group n) P.in_body) (sym k) ∙ m) refl)
cell_within f (o ∷ os) k m = elim (cell_or (group_of f) (mode_in o os) m) [
  | inl y ↦ ap (λ g. G.is_cell_group g || (not (G.is_table_scope (name_of f)) && P.within G.is_cell G.is_table_scope (names_in o os))) y
  | inr r ↦ or_rest (G.is_cell (name_of f)) (G.is_table_scope (name_of f)) _ (no_bound (name_of f) k.0 r.0) (cell_within o os k.1 r.1)
]

pub cell_in_scope : (b : P.Builder) → Sound b → b.mode ≡ P.in_cell → R.has_in_table_scope G.is_cell b ≡ true
cell_in_scope b h m = cell_within b.stack.current b.stack.others h.stack (sym h.mode ∙ m)

column_same : {b : P.Builder} {c : B.Builder} → Like b c → S.is_in_column_group c ≡ R.is_in_column_group b
column_same {b = b} {c = c} h = ap (λ (f : W.Frame). T.is_any (codes "colgroup") f.tag) (top-bare c.path) ∙ ap (λ p. T.is_any (codes "colgroup") (W.top p).tag) h.path ∙ sym (facts (name_of b.stack.current)).column_group

-- Where no table is open, nor a part of one

abbrev is_in_body : P.Mode → Bool
is_in_body P.in_body = true
is_in_body _ = false

abbrev is_of_table : G.Group → Bool
is_of_table G.a_table = true
is_of_table g = G.is_part g

none_here : (g around : G.Group) (m : P.Mode) → stands_in g around ≡ true → P.mode_by g m ≡ P.in_body → (is_of_table g ≡ false) × (m ≡ P.in_body)
none_here G.a_table around m s h = absurd (true≢false (sym (ap is_in_body h)))
none_here G.a_caption around m s h = absurd (true≢false (sym (ap is_in_body h)))
none_here G.a_column_group around m s h = absurd (true≢false (sym (ap is_in_body h)))
none_here G.a_column around m s h = absurd (true≢false (sym s))
none_here G.a_table_body around m s h = absurd (true≢false (sym (ap is_in_body h)))
none_here G.a_row around m s h = absurd (true≢false (sym (ap is_in_body h)))
none_here G.a_cell around m s h = absurd (true≢false (sym (ap is_in_body h)))
none_here _ around m s h = (refl, h)

-- what only such elements pass, none passes then
module _ (test bounds : List ℕ → Bool) (only : (n : List ℕ) → test n ≡ true → is_of_table (G.group n) ≡ true) where
  fails : (n : List ℕ) → is_of_table (G.group n) ≡ false → test n ≡ false
  fails n h = false_from_ne_true (test n) (λ y. true≢false (sym (only n y) ∙ h))

  none_around : (v w : Bool) → v ≡ false → w ≡ false → (u : Bool) → (v || (u && w)) ≡ false
  none_around v w h k true = ap₂ (λ x y. x || y) h k
  none_around v w h k false = ap (λ x. x || false) h

  none_within : (f : P.Frame) (os : List P.Frame) → IsStack f os → Stand f os → mode_in f os ≡ P.in_body → P.within test bounds (names_in f os) ≡ false
  none_within f [] k l m = none_around (test (name_of f)) false (fails (name_of f) (ap (λ n. is_of_table (G.group n)) k)) refl (not (bounds (name_of f)))
  none_within f (o ∷ os) k l m =
      let two = none_here (group_of f) (group_of o) (mode_in o os) l.0 m in
      none_around (test (name_of f)) (P.within test bounds (names_in o os)) (fails (name_of f) two.0) (none_within o os k.1 l.1 two.1) (not (bounds (name_of f)))

  pub none_open : (b : P.Builder) → Sound b → b.mode ≡ P.in_body → P.within test bounds (P.names b.stack) ≡ false
  none_open b h m = none_within b.stack.current b.stack.others h.stack h.stand (sym h.mode ∙ m)

caption_off_table : (n : List ℕ) → G.is_caption n ≡ true → is_of_table (G.group n) ≡ true
caption_off_table n y = by_group (G.group n) y
  where
    by_group : (g : G.Group) → G.is_caption_group g ≡ true → is_of_table g ≡ true
    by_group G.a_caption y = refl
    by_group _ y = absurd (true≢false (sym y))

no_caption : (b : P.Builder) → Sound b → b.mode ≡ P.in_body → R.has_in_table_scope G.is_caption b ≡ false
no_caption b h m = none_open G.is_caption G.is_table_scope caption_off_table b h m

-- so "in caption" has the outcome of "in body" there

start_in_caption : (b : P.Builder) → Sound b → b.mode ≡ P.in_body → (g : G.Group) (own : HtmlTag) (after : P.Builder) → R.body_start b g own ≡ Some after → R.caption_start b g own ≡ Some after
start_in_caption b h m G.a_caption own after eq = cond-false _ _ _ (no_caption b h m) ∙ eq
start_in_caption b h m G.a_column_group own after eq = cond-false _ _ _ (no_caption b h m) ∙ eq
start_in_caption b h m G.a_column own after eq = cond-false _ _ _ (no_caption b h m) ∙ eq
start_in_caption b h m G.a_table_body own after eq = cond-false _ _ _ (no_caption b h m) ∙ eq
start_in_caption b h m G.a_row own after eq = cond-false _ _ _ (no_caption b h m) ∙ eq
start_in_caption b h m G.a_cell own after eq = cond-false _ _ _ (no_caption b h m) ∙ eq
start_in_caption b h m _ own after eq = eq

nothing_ended : (b : P.Builder) → Sound b → b.mode ≡ P.in_body → (name : List ℕ) → is_of_table (G.group name) ≡ true → b ≡ R.other_ended b name
nothing_ended b h m name y =
    sym (cond-false _ _ _ (none_open (bytes_eq name) (R.is_special_in b)
    (λ n e. ap (λ x. is_of_table (G.group x)) (sym ((bytes_eq-Decides name n).0 e)) ∙ y) b h m))

end_in_caption : (b : P.Builder) → Sound b → b.mode ≡ P.in_body → (g : G.Group) (name : List ℕ) → G.group name ≡ g → (after : P.Builder) → R.body_end b g name ≡ Some after → R.caption_end b g name ≡ Some after
end_in_caption b h m G.a_caption name e after eq =
    ap Some (cond-false _ _ _ (no_caption b h m) ∙ nothing_ended b h m name (ap is_of_table e)) ∙ eq
end_in_caption b h m G.a_table name e after eq =
    cond-false _ _ _ (no_caption b h m) ∙ ap Some (nothing_ended b h m name (ap is_of_table e)) ∙ eq
end_in_caption b h m G.a_column_group name e after eq = ap Some (nothing_ended b h m name (ap is_of_table e)) ∙ eq
end_in_caption b h m G.a_column name e after eq = ap Some (nothing_ended b h m name (ap is_of_table e)) ∙ eq
end_in_caption b h m G.a_table_body name e after eq = ap Some (nothing_ended b h m name (ap is_of_table e)) ∙ eq
end_in_caption b h m G.a_row name e after eq = ap Some (nothing_ended b h m name (ap is_of_table e)) ∙ eq
end_in_caption b h m G.a_cell name e after eq = ap Some (nothing_ended b h m name (ap is_of_table e)) ∙ eq
end_in_caption b h m _ name e after eq = eq

-- Start tags

body_same : (own : HtmlTag) → G.is_table_body own.name ≡ T.is_any (codes "tbody tfoot thead") (tag_of own)
body_same own = (facts own.name).table_body

row_same : (own : HtmlTag) → G.is_row own.name ≡ S.is_row (tag_of own)
row_same own = (facts own.name).row

module _ (own : HtmlTag) (source : Option ℕ) (closes : Bool) (after : P.Builder) where
  abbrev start : G.Group → B.Token
  start g = B.a_start (twin g) (tag_with source own) closes

  abbrev starts : G.Group → B.Builder → B.Outcome
  starts g = M.dispatch (start g)

  -- by the rules of "in body"
  pub body_start : (b : P.Builder) (c : B.Builder) → Alike b c → P.is_flow b.mode ≡ true → (g : G.Group) → G.group own.name ≡ g → has_twin g ≡ true →
      R.body_start b g own ≡ Some after → (n : ℕ) → Reaches (Body.body_start c (twin g) (tag_with source own) closes) n (starts g) after
  body_start b c h k g e t eq n =
      let f = start_in_body b c h k own source closes after (ap (λ x. R.body_start b x own) e ∙ eq) in
      let d : D.group own.name ≡ twin g = (facts own.name).twins (ap has_twin e ∙ t) ∙ ap twin e in
      subst (λ o. Reaches o n (starts g) after) (sym (ap (λ x. Body.body_start c x (tag_with source own) closes) (sym d) ∙ f.1)) f.2

  -- in a mode where the rules of "in body" are used for it, a table is opened by them
  flow_start : (v : Bool) (m : P.Mode) (d : B.Builder) → P.is_flow m ≡ true → M.mode_step (mode_is v m) d (start G.a_table) ≡ Body.body_start d D.a_table (tag_with source own) closes
  flow_start true P.in_body d k = refl
  flow_start false P.in_body d k = refl
  flow_start v P.in_cell d k = refl
  flow_start v P.in_caption d k = refl
  flow_start v _ d k = absurd (true≢false (sym k))

  outer_table : (b : P.Builder) (c : B.Builder) → Alike b c → R.has_in_table_scope G.is_table b ≡ true → G.group own.name ≡ G.a_table → (n : ℕ) →
      (if P.is_flow (R.table_closed b).mode then R.body_start (R.table_closed b) G.a_table own else None) ≡ Some after →
      Reaches (B.Again (S.table_closed c)) (suc n) (starts G.a_table) after
  outer_table b c h opens e n eq =
      let k = A.table_closed h opens in
      elim (cases_Bool (P.is_flow (R.table_closed b).mode)) [
        | inl y ↦ again k (start G.a_table) n after
            (subst (λ o. Reaches o n (starts G.a_table) after) (sym (flow_start (in_caption (S.table_closed c).context) (R.table_closed b).mode (S.table_closed c) y))
            (body_start (R.table_closed b) (S.table_closed c) k y G.a_table e refl (sym (cond-true _ _ _ y) ∙ eq) n))
        | inr m ↦ absurd (no_answer after (sym (cond-false _ _ _ m) ∙ eq))
      ]

  table_again : (b : P.Builder) (c : B.Builder) → Alike b c → G.group own.name ≡ G.a_table → (n : ℕ) → R.table_start b G.a_table own ≡ Some after →
      Reaches (S.table_start c D.a_table (tag_with source own) closes) (suc n) (starts G.a_table) after
  table_again b c h e n eq = elim (cases_Bool (R.has_in_table_scope G.is_table b)) [
    | inl y ↦ subst (λ o. Reaches o (suc n) (starts G.a_table) after)
        (sym (cond-true _ _ _ (in_table_scope h.like G.is_table T.is_table A.table_same ∙ y)))
        (outer_table b c h y e n (sym (cond-false _ _ _ (ap not y)) ∙ eq))
    | inr m ↦ subst (λ o. Reaches o (suc n) (starts G.a_table) after)
        (sym (cond-false _ _ _ (in_table_scope h.like G.is_table T.is_table A.table_same ∙ m)))
        (done (sym (cond-true _ _ _ (ap not m)) ∙ eq) h)
  ]

  -- what is no part of a table, in one
  table_other : (b : P.Builder) (c : B.Builder) → Alike b c → (g : G.Group) → G.group own.name ≡ g → G.is_part g ≡ false → (n : ℕ) → R.table_start b g own ≡ Some after →
      Reaches (S.table_start c (twin g) (tag_with source own) closes) (suc n) (starts g) after
  table_other b c h G.a_table e k n eq = table_again b c h e n eq
  table_other b c h G.a_caption e k n eq = absurd (true≢false k)
  table_other b c h G.a_column_group e k n eq = absurd (true≢false k)
  table_other b c h G.a_column e k n eq = absurd (true≢false k)
  table_other b c h G.a_table_body e k n eq = absurd (true≢false k)
  table_other b c h G.a_row e k n eq = absurd (true≢false k)
  table_other b c h G.a_cell e k n eq = absurd (true≢false k)
  table_other b c h _ e k n eq = absurd (no_answer after eq)

  abbrev implied : List ℕ → HtmlTag
  implied n = R.implied_tag n

  table_start : (b : P.Builder) (c : B.Builder) → Alike b c → b.mode ≡ P.in_table → (g : G.Group) → G.group own.name ≡ g → (n : ℕ) → R.table_start b g own ≡ Some after →
      Reaches (S.table_start c (twin g) (tag_with source own) closes) (suc (suc n)) (starts g) after
  table_start b c h m G.a_caption e n eq = done eq (caption_opened h m own source e)
  table_start b c h m G.a_column_group e n eq = done eq (column_group_opened h m own source e)
  table_start b c h m G.a_column e n eq =
      let o = A.counted (column_group_opened h m (implied (codes "colgroup")) None refl) in
      again o (start G.a_column) (suc n) after (done eq (alone o own source))
  table_start b c h m G.a_table_body e n eq = done eq (body_opened h m own source e)
  table_start b c h m G.a_row e n eq =
      let o = A.counted (body_opened h m (implied (codes "tbody")) None refl) in
      again o (start G.a_row) (suc n) after (done eq (row_opened o refl own source e))
  table_start b c h m G.a_cell e n eq =
      let o = A.counted (body_opened h m (implied (codes "tbody")) None refl) in
      let p = A.counted (row_opened o refl (implied (codes "tr")) None refl) in
      again o (start G.a_cell) (suc n) after (again p (start G.a_cell) n after (done eq (cell_opened p refl own source e)))
  table_start b c h m G.a_table e n eq = table_again b c h e (suc n) eq
  table_start b c h m _ e n eq = absurd (no_answer after eq)

  -- the next mode's rules, where a part of a table is closed for them
  body_part : (b : P.Builder) (c : B.Builder) → Alike b c → b.mode ≡ P.in_table_body → (g : G.Group) → G.group own.name ≡ g → (n : ℕ) → R.body_part_start b g own ≡ Some after →
      (M.mode_step B.in_table (S.body_closed c) (start g) ≡ S.table_start (S.body_closed c) (twin g) (tag_with source own) closes) →
      Reaches (S.after_table_body c) (suc (suc (suc n))) (starts g) after
  body_part b c h m g e n eq same =
      either_way (suc (suc (suc n))) (starts g) after (R.has_in_table_scope G.is_table_body b) (B.has_in_table_scope (T.is_any (codes "tbody tfoot thead")) c)
      (R.table_start (R.body_closed b) g own) (Some b) (B.Again (S.body_closed c)) (B.Done c)
      (in_table_scope h.like G.is_table_body (T.is_any (codes "tbody tfoot thead")) body_same)
      (λ y a. (let k = body_closed h m in again k (start g) (suc (suc n)) after
      (subst (λ o. Reaches o (suc (suc n)) (starts g) after) (sym same) (table_start (R.body_closed b) (S.body_closed c) k refl g e n a))))
      (λ a. done a h) eq

  table_body_start : (b : P.Builder) (c : B.Builder) → Alike b c → b.mode ≡ P.in_table_body → (g : G.Group) → G.group own.name ≡ g → (n : ℕ) → R.table_body_start b g own ≡ Some after →
      Reaches (S.table_body_start c (twin g) (tag_with source own) closes) (suc (suc (suc n))) (starts g) after
  table_body_start b c h m G.a_row e n eq = done eq (row_opened h m own source e)
  table_body_start b c h m G.a_cell e n eq =
      let o = A.counted (row_opened h m (implied (codes "tr")) None refl) in
      again o (start G.a_cell) (suc (suc n)) after (done eq (cell_opened o refl own source e))
  table_body_start b c h m G.a_caption e n eq = body_part b c h m G.a_caption e n eq refl
  table_body_start b c h m G.a_column_group e n eq = body_part b c h m G.a_column_group e n eq refl
  table_body_start b c h m G.a_column e n eq = body_part b c h m G.a_column e n eq refl
  table_body_start b c h m G.a_table_body e n eq = body_part b c h m G.a_table_body e n eq refl
  table_body_start b c h m G.a_table e n eq = table_again b c h e (suc (suc n)) eq
  table_body_start b c h m _ e n eq = absurd (no_answer after eq)

  row_part : (b : P.Builder) (c : B.Builder) → Alike b c → b.mode ≡ P.in_row → (g : G.Group) → G.group own.name ≡ g → (n : ℕ) → R.row_part_start b g own ≡ Some after →
      (M.mode_step B.in_table_body (S.row_closed c) (start g) ≡ S.table_body_start (S.row_closed c) (twin g) (tag_with source own) closes) →
      Reaches (S.after_row c) (suc (suc (suc (suc n)))) (starts g) after
  row_part b c h m g e n eq same =
      either_way (suc (suc (suc (suc n)))) (starts g) after (R.has_in_table_scope G.is_row b) (B.has_in_table_scope S.is_row c)
      (R.table_body_start (R.row_closed b) g own) (Some b) (B.Again (S.row_closed c)) (B.Done c)
      (in_table_scope h.like G.is_row S.is_row row_same)
      (λ y a. (let k = row_closed h m in again k (start g) (suc (suc (suc n))) after
      (subst (λ o. Reaches o (suc (suc (suc n))) (starts g) after) (sym same) (table_body_start (R.row_closed b) (S.row_closed c) k refl g e n a))))
      (λ a. done a h) eq

  row_start : (b : P.Builder) (c : B.Builder) → Alike b c → b.mode ≡ P.in_row → (g : G.Group) → G.group own.name ≡ g → (n : ℕ) → R.row_start b g own ≡ Some after →
      Reaches (S.row_start c (twin g) (tag_with source own) closes) (suc (suc (suc (suc n)))) (starts g) after
  row_start b c h m G.a_cell e n eq = done eq (cell_opened h m own source e)
  row_start b c h m G.a_caption e n eq = row_part b c h m G.a_caption e n eq refl
  row_start b c h m G.a_column_group e n eq = row_part b c h m G.a_column_group e n eq refl
  row_start b c h m G.a_column e n eq = row_part b c h m G.a_column e n eq refl
  row_start b c h m G.a_table_body e n eq = row_part b c h m G.a_table_body e n eq refl
  row_start b c h m G.a_row e n eq = row_part b c h m G.a_row e n eq refl
  row_start b c h m G.a_table e n eq = table_again b c h e (suc (suc (suc n))) eq
  row_start b c h m _ e n eq = absurd (no_answer after eq)

  -- a part of a table ends a cell
  cell_part : (b : P.Builder) (c : B.Builder) → Alike b c → b.mode ≡ P.in_cell → (g : G.Group) → G.group own.name ≡ g → (n : ℕ) → R.row_start (R.cell_closed b) g own ≡ Some after →
      (M.mode_step B.in_row (S.cell_closed S.is_cell c) (start g) ≡ S.row_start (S.cell_closed S.is_cell c) (twin g) (tag_with source own) closes) →
      Reaches (S.after_cell c) (suc (suc (suc (suc (suc n))))) (starts g) after
  cell_part b c h m g e n eq same =
      let opens = cell_in_scope b h.sound m in
      let k = cell_closed h opens in
      subst (λ o. Reaches o (suc (suc (suc (suc (suc n))))) (starts g) after)
      (sym (cond-true _ _ _ (in_table_scope h.like G.is_cell S.is_cell (cell_same h) ∙ opens)))
      (again k (start g) (suc (suc (suc (suc n)))) after
      (subst (λ o. Reaches o (suc (suc (suc (suc n)))) (starts g) after) (sym same) (row_start (R.cell_closed b) (S.cell_closed S.is_cell c) k refl g e n eq)))

  -- and a caption
  caption_part : (b : P.Builder) (c : B.Builder) → Alike b c → (g : G.Group) → G.group own.name ≡ g → (n : ℕ) → R.caption_part_start b g own ≡ Some after →
      (M.mode_step B.in_table (S.caption_closed c) (start g) ≡ S.table_start (S.caption_closed c) (twin g) (tag_with source own) closes) →
      Reaches (S.after_caption c) (suc (suc (suc n))) (starts g) after
  caption_part b c h g e n eq same =
      either_way (suc (suc (suc n))) (starts g) after (R.has_in_table_scope G.is_caption b) (B.has_in_table_scope S.is_caption c)
      (R.table_start (R.caption_closed b) g own) (Some b) (B.Again (S.caption_closed c)) (B.Done c)
      (in_table_scope h.like G.is_caption S.is_caption (caption_same h))
      (λ y a. (let k = caption_closed h y in again k (start g) (suc (suc n)) after
      (subst (λ o. Reaches o (suc (suc n)) (starts g) after) (sym same) (table_start (R.caption_closed b) (S.caption_closed c) k refl g e n a))))
      (λ a. done a h) eq

  -- anything else ends a column group
  column_other : (b : P.Builder) (c : B.Builder) → Alike b c → b.mode ≡ P.in_column_group → (g : G.Group) → G.group own.name ≡ g → (n : ℕ) →
      (if R.is_in_column_group b then R.table_start (R.column_group_closed b) g own else Some b) ≡ Some after →
      (M.mode_step B.in_table (S.column_group_closed c) (start g) ≡ S.table_start (S.column_group_closed c) (twin g) (tag_with source own) closes) →
      Reaches (S.after_column_group c) (suc (suc (suc n))) (starts g) after
  column_other b c h m g e n eq same =
      either_way (suc (suc (suc n))) (starts g) after (R.is_in_column_group b) (S.is_in_column_group c)
      (R.table_start (R.column_group_closed b) g own) (Some b) (B.Again (S.column_group_closed c)) (B.Done c)
      (column_same h.like)
      (λ y a. (let k = column_group_closed h m in again k (start g) (suc (suc n)) after
      (subst (λ o. Reaches o (suc (suc n)) (starts g) after) (sym same) (table_start (R.column_group_closed b) (S.column_group_closed c) k refl g e n a))))
      (λ a. done a h) eq

  column_start : (b : P.Builder) (c : B.Builder) → Alike b c → b.mode ≡ P.in_column_group → (g : G.Group) → G.group own.name ≡ g → has_twin g ≡ true → (n : ℕ) → R.column_start b g own ≡ Some after →
      Reaches (S.column_start c (twin g) (tag_with source own)) (suc (suc (suc n))) (starts g) after
  column_start b c h m G.a_column e t n eq = done eq (alone h own source)
  column_start b c h m G.elsewhere e t n eq = absurd (no_answer after eq)
  column_start b c h m G.misplaced e t n eq = absurd (true≢false (sym t))
  column_start b c h m G.an_option e t n eq = absurd (true≢false (sym t))
  column_start b c h m g e t n eq = column_other b c h m g e n eq refl

  caption_start : (b : P.Builder) (c : B.Builder) → Alike b c → P.is_flow b.mode ≡ true → (g : G.Group) → G.group own.name ≡ g → has_twin g ≡ true → (n : ℕ) → R.caption_start b g own ≡ Some after →
      Reaches (S.caption_start c (twin g) (tag_with source own) closes) (suc (suc (suc n))) (starts g) after
  caption_start b c h m G.a_caption e t n eq = caption_part b c h G.a_caption e n eq refl
  caption_start b c h m G.a_column_group e t n eq = caption_part b c h G.a_column_group e n eq refl
  caption_start b c h m G.a_column e t n eq = caption_part b c h G.a_column e n eq refl
  caption_start b c h m G.a_table_body e t n eq = caption_part b c h G.a_table_body e n eq refl
  caption_start b c h m G.a_row e t n eq = caption_part b c h G.a_row e n eq refl
  caption_start b c h m G.a_cell e t n eq = caption_part b c h G.a_cell e n eq refl
  caption_start b c h m g e t n eq = body_start b c h m g e t eq (suc (suc (suc n)))

  cell_start : (b : P.Builder) (c : B.Builder) → Alike b c → b.mode ≡ P.in_cell → (g : G.Group) → G.group own.name ≡ g → has_twin g ≡ true → (n : ℕ) → R.cell_start b g own ≡ Some after →
      Reaches (S.cell_start c (twin g) (tag_with source own) closes) (suc (suc (suc (suc (suc n))))) (starts g) after
  cell_start b c h m G.a_caption e t n eq = cell_part b c h m G.a_caption e n eq refl
  cell_start b c h m G.a_column_group e t n eq = cell_part b c h m G.a_column_group e n eq refl
  cell_start b c h m G.a_column e t n eq = cell_part b c h m G.a_column e n eq refl
  cell_start b c h m G.a_table_body e t n eq = cell_part b c h m G.a_table_body e n eq refl
  cell_start b c h m G.a_row e t n eq = cell_part b c h m G.a_row e n eq refl
  cell_start b c h m G.a_cell e t n eq = cell_part b c h m G.a_cell e n eq refl
  cell_start b c h m g e t n eq = body_start b c h (ap P.is_flow m) g e t eq (suc (suc (suc (suc (suc n)))))

  -- in any mode
  twin_start : (b : P.Builder) (c : B.Builder) → Alike b c → (m : P.Mode) → b.mode ≡ m → (g : G.Group) → G.group own.name ≡ g → has_twin g ≡ true → (n : ℕ) → R.start_tag m b g own ≡ Some after →
      Reaches (M.mode_step (mode_now c m) c (start g)) (suc (suc (suc (suc (suc n))))) (starts g) after
  twin_start b c h P.in_body m g e t n eq = first_start (in_caption c.context)
    where
      first_start : (v : Bool) → Reaches (M.mode_step (first_mode v) c (start g)) (suc (suc (suc (suc (suc n))))) (starts g) after
      first_start true = caption_start b c h (ap P.is_flow m) g e t (suc (suc n)) (start_in_caption b h.sound m g own after eq)
      first_start false = body_start b c h (ap P.is_flow m) g e t eq (suc (suc (suc (suc (suc n)))))
  twin_start b c h P.in_table m g e t n eq = table_start b c h m g e (suc (suc (suc n))) eq
  twin_start b c h P.in_caption m g e t n eq = caption_start b c h (ap P.is_flow m) g e t (suc (suc n)) eq
  twin_start b c h P.in_column_group m g e t n eq = column_start b c h m g e t (suc (suc n)) eq
  twin_start b c h P.in_table_body m g e t n eq = table_body_start b c h m g e (suc (suc n)) eq
  twin_start b c h P.in_row m g e t n eq = row_start b c h m g e (suc n) eq
  twin_start b c h P.in_cell m g e t n eq = cell_start b c h m g e t n eq

  -- names that the partial builder has no rule for, or takes for nothing

  lost_misplaced : (b : P.Builder) → Sound b → (m : P.Mode) → b.mode ≡ m → R.start_tag m b G.misplaced own ≡ Some after → P.is_flow m ≡ true
  lost_misplaced b h P.in_body m eq = refl
  lost_misplaced b h P.in_caption m eq = refl
  lost_misplaced b h P.in_cell m eq = refl
  lost_misplaced b h P.in_column_group m eq = absurd (no_answer after (sym (cond-true _ _ _ (current_at b h P.in_column_group m)) ∙ eq))
  lost_misplaced b h _ m eq = absurd (no_answer after eq)

  lost_option : (b : P.Builder) → Sound b → (m : P.Mode) → b.mode ≡ m → R.start_tag m b G.an_option own ≡ Some after → ⊥
  lost_option b h P.in_column_group m eq = no_answer after (sym (cond-true _ _ _ (current_at b h P.in_column_group m)) ∙ eq)
  lost_option b h _ m eq = no_answer after eq

  lost_elsewhere : (b : P.Builder) (m : P.Mode) → R.start_tag m b G.elsewhere own ≡ Some after → ⊥
  lost_elsewhere b P.in_column_group eq = no_answer after eq
  lost_elsewhere b _ eq = no_answer after eq

  lost : (b : P.Builder) → Sound b → (m : P.Mode) → b.mode ≡ m → (g : G.Group) → has_twin g ≡ false → R.start_tag m b g own ≡ Some after → (P.is_flow m ≡ true) × (is_misplaced g ≡ true)
  lost b h m e G.misplaced t eq = (lost_misplaced b h m e eq, refl)
  lost b h m e G.an_option t eq = absurd (lost_option b h m e eq)
  lost b h m e G.elsewhere t eq = absurd (lost_elsewhere b m eq)
  lost b h m e _ t eq = absurd (true≢false t)

  lost_step : (d : D.Group) → (d ≡ D.the_head) ⊎ (d ≡ D.a_frame) → (v : Bool) (m : P.Mode) (c : B.Builder) → P.is_flow m ≡ true →
      M.mode_step (mode_is v m) c (B.a_start d (tag_with source own) closes) ≡ Body.body_start c d (tag_with source own) closes
  lost_step d (inl y) v m c k = ap (λ x. M.mode_step (mode_is v m) c (B.a_start x (tag_with source own) closes)) y ∙ at_head v m c k ∙ ap (λ x. Body.body_start c x (tag_with source own) closes) (sym y)
    where
      at_head : (v : Bool) (m : P.Mode) (c : B.Builder) → P.is_flow m ≡ true → M.mode_step (mode_is v m) c (B.a_start D.the_head (tag_with source own) closes) ≡ Body.body_start c D.the_head (tag_with source own) closes
      at_head true P.in_body c k = refl
      at_head false P.in_body c k = refl
      at_head v P.in_caption c k = refl
      at_head v P.in_cell c k = refl
      at_head v _ c k = absurd (true≢false (sym k))
  lost_step d (inr y) v m c k = ap (λ x. M.mode_step (mode_is v m) c (B.a_start x (tag_with source own) closes)) y ∙ at_frame v m c k ∙ ap (λ x. Body.body_start c x (tag_with source own) closes) (sym y)
    where
      at_frame : (v : Bool) (m : P.Mode) (c : B.Builder) → P.is_flow m ≡ true → M.mode_step (mode_is v m) c (B.a_start D.a_frame (tag_with source own) closes) ≡ Body.body_start c D.a_frame (tag_with source own) closes
      at_frame true P.in_body c k = refl
      at_frame false P.in_body c k = refl
      at_frame v P.in_caption c k = refl
      at_frame v P.in_cell c k = refl
      at_frame v _ c k = absurd (true≢false (sym k))

  -- a start tag, in any mode
  abbrev started : B.Token
  started = B.a_start (D.group own.name) (tag_with source own) closes

  pub a_start : (b : P.Builder) (c : B.Builder) → Alike b c → (n : ℕ) → R.start_tag b.mode b (G.group own.name) own ≡ Some after →
      Reaches (M.mode_step (mode_now c b.mode) c started) (suc (suc (suc (suc (suc n))))) (M.dispatch started) after
  a_start b c h n eq = elim (cases_Bool (has_twin (G.group own.name))) [
    | inl t ↦ subst (λ d. Reaches (M.mode_step (mode_now c b.mode) c (B.a_start d (tag_with source own) closes)) (suc (suc (suc (suc (suc n))))) (M.dispatch (B.a_start d (tag_with source own) closes)) after)
        (sym ((facts own.name).twins t)) (twin_start b c h b.mode refl (G.group own.name) refl t n eq)
    | inr t ↦ (
        let l = lost b h.sound b.mode refl (G.group own.name) t eq in
        let f = start_in_body b c h l.0 own source closes after (flow_rule b b.mode (G.group own.name) l.0 l.1 eq) in
        subst (λ o. Reaches o (suc (suc (suc (suc (suc n))))) (M.dispatch started) after)
        (sym (lost_step (D.group own.name) ((facts own.name).lost l.1) (in_caption c.context) b.mode c l.0 ∙ f.1)) f.2)
  ]
    where
      flow_rule : (b : P.Builder) (m : P.Mode) (g : G.Group) → P.is_flow m ≡ true → is_misplaced g ≡ true → R.start_tag m b g own ≡ Some after → R.body_start b g own ≡ Some after
      flow_rule b P.in_body G.misplaced k l eq = eq
      flow_rule b P.in_caption G.misplaced k l eq = eq
      flow_rule b P.in_cell G.misplaced k l eq = eq
      flow_rule b _ G.misplaced k l eq = absurd (true≢false (sym k))
      flow_rule b m _ k l eq = absurd (true≢false (sym l))

-- End tags

module _ (name : List ℕ) (after : P.Builder) where
  abbrev finish : G.Group → B.Token
  finish g = B.an_end (twin g) name

  abbrev ends : G.Group → B.Builder → B.Outcome
  ends g = M.dispatch (finish g)

  pub body_end : (b : P.Builder) (c : B.Builder) → Alike b c → P.is_flow b.mode ≡ true → (g : G.Group) → G.group name ≡ g → has_twin g ≡ true →
      (G.is_part g ≡ false) ⊎ (b.mode ≡ P.in_body) → R.body_end b g name ≡ Some after → (n : ℕ) → Reaches (Body.body_end c (twin g) name) n (ends g) after
  body_end b c h k g e t p eq n =
      let f = end_in_body b c h k name after (subst (λ x. (G.is_part x ≡ false) ⊎ (b.mode ≡ P.in_body)) (sym e) p) (ap (λ x. R.body_end b x name) e ∙ eq) in
      let d : D.group name ≡ twin g = (facts name).twins (ap has_twin e ∙ t) ∙ ap twin e in
      subst (λ o. Reaches o n (ends g) after) (sym (ap (λ x. Body.body_end c x name) (sym d) ∙ f.1)) f.2

  table_end : (b : P.Builder) (c : B.Builder) → Alike b c → (g : G.Group) (n : ℕ) → R.table_end b g name ≡ Some after → Reaches (S.table_end c (twin g) name) n (ends g) after
  table_end b c h G.a_table n eq =
      done eq (either (R.has_in_table_scope G.is_table b) (B.has_in_table_scope T.is_table c) (in_table_scope h.like G.is_table T.is_table A.table_same) (λ y. A.table_closed h y) h)
  table_end b c h G.a_caption n eq = done eq h
  table_end b c h G.a_column_group n eq = done eq h
  table_end b c h G.a_column n eq = done eq h
  table_end b c h G.a_table_body n eq = done eq h
  table_end b c h G.a_row n eq = done eq h
  table_end b c h G.a_cell n eq = done eq h
  table_end b c h _ n eq = absurd (no_answer after eq)

  caption_end : (b : P.Builder) (c : B.Builder) → Alike b c → P.is_flow b.mode ≡ true → (g : G.Group) → G.group name ≡ g → has_twin g ≡ true → (n : ℕ) → R.caption_end b g name ≡ Some after →
      Reaches (S.caption_end c (twin g) name) (suc n) (ends g) after
  caption_end b c h m G.a_caption e t n eq =
      done eq (either (R.has_in_table_scope G.is_caption b) (B.has_in_table_scope S.is_caption c) (in_table_scope h.like G.is_caption S.is_caption (caption_same h)) (λ y. caption_closed h y) h)
  caption_end b c h m G.a_table e t n eq =
      either_way (suc n) (ends G.a_table) after (R.has_in_table_scope G.is_caption b) (B.has_in_table_scope S.is_caption c)
      (R.table_end (R.caption_closed b) G.a_table name) (Some b) (B.Again (S.caption_closed c)) (B.Done c)
      (in_table_scope h.like G.is_caption S.is_caption (caption_same h))
      (λ y a. (let k = caption_closed h y in again k (finish G.a_table) n after (table_end (R.caption_closed b) (S.caption_closed c) k G.a_table n a)))
      (λ a. done a h) eq
  caption_end b c h m G.a_column_group e t n eq = done eq h
  caption_end b c h m G.a_column e t n eq = done eq h
  caption_end b c h m G.a_table_body e t n eq = done eq h
  caption_end b c h m G.a_row e t n eq = done eq h
  caption_end b c h m G.a_cell e t n eq = done eq h
  caption_end b c h m G.elsewhere e t n eq = absurd (no_answer after eq)
  caption_end b c h m g e t n eq = body_end b c h m g e t (inl refl) eq (suc n)

  column_part_end : (b : P.Builder) (c : B.Builder) → Alike b c → b.mode ≡ P.in_column_group → (g : G.Group) (n : ℕ) →
      (if R.is_in_column_group b then R.table_end (R.column_group_closed b) g name else Some b) ≡ Some after →
      (M.mode_step B.in_table (S.column_group_closed c) (finish g) ≡ S.table_end (S.column_group_closed c) (twin g) name) →
      Reaches (S.after_column_group c) (suc n) (ends g) after
  column_part_end b c h m g n eq same =
      either_way (suc n) (ends g) after (R.is_in_column_group b) (S.is_in_column_group c)
      (R.table_end (R.column_group_closed b) g name) (Some b) (B.Again (S.column_group_closed c)) (B.Done c)
      (column_same h.like)
      (λ y a. (let k = column_group_closed h m in again k (finish g) n after
      (subst (λ o. Reaches o n (ends g) after) (sym same) (table_end (R.column_group_closed b) (S.column_group_closed c) k g n a))))
      (λ a. done a h) eq

  column_end : (b : P.Builder) (c : B.Builder) → Alike b c → b.mode ≡ P.in_column_group → (g : G.Group) → has_twin g ≡ true → (n : ℕ) → R.column_end b g name ≡ Some after →
      Reaches (S.column_end c (twin g)) (suc n) (ends g) after
  column_end b c h m G.a_column_group t n eq =
      done eq (either (R.is_in_column_group b) (S.is_in_column_group c) (column_same h.like) (λ y. column_group_closed h m) h)
  column_end b c h m G.a_column t n eq = done eq h
  column_end b c h m G.elsewhere t n eq = absurd (no_answer after eq)
  column_end b c h m g t n eq = column_part_end b c h m g n eq refl

  named_same : (own : HtmlTag) → bytes_eq name own.name ≡ T.is_named name (tag_of own)
  named_same own = refl

  table_body_end : (b : P.Builder) (c : B.Builder) → Alike b c → b.mode ≡ P.in_table_body → (g : G.Group) (n : ℕ) → R.table_body_end b g name ≡ Some after →
      Reaches (S.table_body_end c (twin g) name) (suc n) (ends g) after
  table_body_end b c h m G.a_table_body n eq =
      done eq (either (R.has_in_table_scope (bytes_eq name) b) (B.has_in_table_scope (T.is_named name) c) (in_table_scope h.like (bytes_eq name) (T.is_named name) named_same) (λ y. body_closed h m) h)
  table_body_end b c h m G.a_table n eq =
      either_way (suc n) (ends G.a_table) after (R.has_in_table_scope G.is_table_body b) (B.has_in_table_scope (T.is_any (codes "tbody tfoot thead")) c)
      (R.table_end (R.body_closed b) G.a_table name) (Some b) (B.Again (S.body_closed c)) (B.Done c)
      (in_table_scope h.like G.is_table_body (T.is_any (codes "tbody tfoot thead")) body_same)
      (λ y a. (let k = body_closed h m in again k (finish G.a_table) n after (table_end (R.body_closed b) (S.body_closed c) k G.a_table n a)))
      (λ a. done a h) eq
  table_body_end b c h m g n eq = table_end b c h g (suc n) eq

  -- the row is closed first
  row_first : (b : P.Builder) (c : B.Builder) → Alike b c → b.mode ≡ P.in_row → (g : G.Group) (n : ℕ) →
      (if R.has_in_table_scope G.is_row b then R.table_body_end (R.row_closed b) g name else Some b) ≡ Some after →
      (M.mode_step B.in_table_body (S.row_closed c) (finish g) ≡ S.table_body_end (S.row_closed c) (twin g) name) →
      Reaches (S.after_row c) (suc (suc n)) (ends g) after
  row_first b c h m g n eq same =
      either_way (suc (suc n)) (ends g) after (R.has_in_table_scope G.is_row b) (B.has_in_table_scope S.is_row c)
      (R.table_body_end (R.row_closed b) g name) (Some b) (B.Again (S.row_closed c)) (B.Done c)
      (in_table_scope h.like G.is_row S.is_row row_same)
      (λ y a. (let k = row_closed h m in again k (finish g) (suc n) after
      (subst (λ o. Reaches o (suc n) (ends g) after) (sym same) (table_body_end (R.row_closed b) (S.row_closed c) k refl g n a))))
      (λ a. done a h) eq

  row_end : (b : P.Builder) (c : B.Builder) → Alike b c → b.mode ≡ P.in_row → (g : G.Group) (n : ℕ) → R.row_end b g name ≡ Some after →
      Reaches (S.row_end c (twin g) name) (suc (suc n)) (ends g) after
  row_end b c h m G.a_row n eq =
      done eq (either (R.has_in_table_scope G.is_row b) (B.has_in_table_scope S.is_row c) (in_table_scope h.like G.is_row S.is_row row_same) (λ y. row_closed h m) h)
  row_end b c h m G.a_table n eq = row_first b c h m G.a_table n eq refl
  row_end b c h m G.a_table_body n eq = elim (cases_Bool (R.has_in_table_scope (bytes_eq name) b)) [
    | inl y ↦ subst (λ o. Reaches o (suc (suc n)) (ends G.a_table_body) after) (sym (cond-true _ _ _ (in_table_scope h.like (bytes_eq name) (T.is_named name) named_same ∙ y)))
        (row_first b c h m G.a_table_body n
        (sym (ap (λ v. if v && R.has_in_table_scope G.is_row b then R.table_body_end (R.row_closed b) G.a_table_body name else Some b) y) ∙ eq) refl)
    | inr z ↦ subst (λ o. Reaches o (suc (suc n)) (ends G.a_table_body) after) (sym (cond-false _ _ _ (in_table_scope h.like (bytes_eq name) (T.is_named name) named_same ∙ z)))
        (done (sym (ap (λ v. if v && R.has_in_table_scope G.is_row b then R.table_body_end (R.row_closed b) G.a_table_body name else Some b) z) ∙ eq) h)
  ]
  row_end b c h m g n eq = table_end b c h g (suc (suc n)) eq

  cell_outer_end : (b : P.Builder) (c : B.Builder) → Alike b c → b.mode ≡ P.in_cell → (g : G.Group) (n : ℕ) → R.cell_outer_end b g name ≡ Some after →
      (M.mode_step B.in_row (S.cell_closed S.is_cell c) (finish g) ≡ S.row_end (S.cell_closed S.is_cell c) (twin g) name) →
      Reaches (S.after_cell_in name c) (suc (suc (suc n))) (ends g) after
  cell_outer_end b c h m g n eq same =
      either_way (suc (suc (suc n))) (ends g) after (R.has_in_table_scope (bytes_eq name) b) (B.has_in_table_scope (T.is_named name) c)
      (R.row_end (R.cell_closed b) g name) (Some b) (B.Again (S.cell_closed S.is_cell c)) (B.Done c)
      (in_table_scope h.like (bytes_eq name) (T.is_named name) named_same)
      (λ y a. (let k = cell_closed h (cell_in_scope b h.sound m) in again k (finish g) (suc (suc n)) after
      (subst (λ o. Reaches o (suc (suc n)) (ends g) after) (sym same) (row_end (R.cell_closed b) (S.cell_closed S.is_cell c) k refl g n a))))
      (λ a. done a h) eq

  cell_end : (b : P.Builder) (c : B.Builder) → Alike b c → b.mode ≡ P.in_cell → (g : G.Group) → G.group name ≡ g → has_twin g ≡ true → (n : ℕ) → R.cell_end b g name ≡ Some after →
      Reaches (S.cell_end c (twin g) name) (suc (suc (suc n))) (ends g) after
  cell_end b c h m G.a_cell e t n eq =
      done eq (either (R.has_in_table_scope (bytes_eq name) b) (B.has_in_table_scope (T.is_named name) c) (in_table_scope h.like (bytes_eq name) (T.is_named name) named_same) (λ y. named_closed h name e y) h)
  cell_end b c h m G.a_caption e t n eq = done eq h
  cell_end b c h m G.a_column_group e t n eq = done eq h
  cell_end b c h m G.a_column e t n eq = done eq h
  cell_end b c h m G.a_table e t n eq = cell_outer_end b c h m G.a_table n eq refl
  cell_end b c h m G.a_table_body e t n eq = cell_outer_end b c h m G.a_table_body n eq refl
  cell_end b c h m G.a_row e t n eq = cell_outer_end b c h m G.a_row n eq refl
  cell_end b c h m G.elsewhere e t n eq = absurd (no_answer after eq)
  cell_end b c h m g e t n eq = body_end b c h (ap P.is_flow m) g e t (inl refl) eq (suc (suc (suc n)))

  twin_end : (b : P.Builder) (c : B.Builder) → Alike b c → (m : P.Mode) → b.mode ≡ m → (g : G.Group) → G.group name ≡ g → has_twin g ≡ true → (n : ℕ) → R.end_tag m b g name ≡ Some after →
      Reaches (M.mode_step (mode_now c m) c (finish g)) (suc (suc (suc n))) (ends g) after
  twin_end b c h P.in_body m g e t n eq = first_end (in_caption c.context)
    where
      first_end : (v : Bool) → Reaches (M.mode_step (first_mode v) c (finish g)) (suc (suc (suc n))) (ends g) after
      first_end true = caption_end b c h (ap P.is_flow m) g e t (suc (suc n)) (end_in_caption b h.sound m g name e after eq)
      first_end false = body_end b c h (ap P.is_flow m) g e t (inr m) eq (suc (suc (suc n)))
  twin_end b c h P.in_table m g e t n eq = table_end b c h g (suc (suc (suc n))) eq
  twin_end b c h P.in_caption m g e t n eq = caption_end b c h (ap P.is_flow m) g e t (suc (suc n)) eq
  twin_end b c h P.in_column_group m g e t n eq = column_end b c h m g t (suc (suc n)) eq
  twin_end b c h P.in_table_body m g e t n eq = table_body_end b c h m g (suc (suc n)) eq
  twin_end b c h P.in_row m g e t n eq = row_end b c h m g (suc n) eq
  twin_end b c h P.in_cell m g e t n eq = cell_end b c h m g e t n eq

  -- names that the partial builder has no rule for, or takes for nothing

  lost_end_table : (b : P.Builder) → Sound b → (m : P.Mode) → b.mode ≡ m → (g : G.Group) → has_twin g ≡ false → R.end_tag m b g name ≡ Some after → (P.is_flow m ≡ true) × (is_elsewhere g ≡ false)
  lost_end_table b h P.in_body m G.misplaced t eq = (refl, refl)
  lost_end_table b h P.in_body m G.an_option t eq = (refl, refl)
  lost_end_table b h P.in_body m G.elsewhere t eq = absurd (no_answer after eq)
  lost_end_table b h P.in_caption m G.misplaced t eq = (refl, refl)
  lost_end_table b h P.in_caption m G.an_option t eq = (refl, refl)
  lost_end_table b h P.in_caption m G.elsewhere t eq = absurd (no_answer after eq)
  lost_end_table b h P.in_cell m G.misplaced t eq = (refl, refl)
  lost_end_table b h P.in_cell m G.an_option t eq = (refl, refl)
  lost_end_table b h P.in_cell m G.elsewhere t eq = absurd (no_answer after eq)
  lost_end_table b h P.in_column_group m G.misplaced t eq = absurd (no_answer after (sym (cond-true _ _ _ (current_at b h P.in_column_group m)) ∙ eq))
  lost_end_table b h P.in_column_group m G.an_option t eq = absurd (no_answer after (sym (cond-true _ _ _ (current_at b h P.in_column_group m)) ∙ eq))
  lost_end_table b h P.in_column_group m G.elsewhere t eq = absurd (no_answer after eq)
  lost_end_table b h P.in_table m G.misplaced t eq = absurd (no_answer after eq)
  lost_end_table b h P.in_table m G.an_option t eq = absurd (no_answer after eq)
  lost_end_table b h P.in_table m G.elsewhere t eq = absurd (no_answer after eq)
  lost_end_table b h P.in_table_body m G.misplaced t eq = absurd (no_answer after eq)
  lost_end_table b h P.in_table_body m G.an_option t eq = absurd (no_answer after eq)
  lost_end_table b h P.in_table_body m G.elsewhere t eq = absurd (no_answer after eq)
  lost_end_table b h P.in_row m G.misplaced t eq = absurd (no_answer after eq)
  lost_end_table b h P.in_row m G.an_option t eq = absurd (no_answer after eq)
  lost_end_table b h P.in_row m G.elsewhere t eq = absurd (no_answer after eq)
  lost_end_table b h _ m _ t eq = absurd (true≢false t)

  -- the groups that these names have in the whole builder
  abbrev is_lost : D.Group → Bool
  is_lost D.the_head = true
  is_lost D.a_frame = true
  is_lost D.an_option = true
  is_lost D.an_option_group = true
  is_lost _ = false

  lost_group : (g : G.Group) → (is_misplaced g ≡ true → (D.group name ≡ D.the_head) ⊎ (D.group name ≡ D.a_frame)) →
      (is_option_group g ≡ true → (D.group name ≡ D.an_option) ⊎ (D.group name ≡ D.an_option_group)) →
      has_twin g ≡ false → is_elsewhere g ≡ false → is_lost (D.group name) ≡ true
  lost_group G.misplaced l o t e = elim (l refl) [
    | inl y ↦ ap is_lost y
    | inr y ↦ ap is_lost y
  ]
  lost_group G.an_option l o t e = elim (o refl) [
    | inl y ↦ ap is_lost y
    | inr y ↦ ap is_lost y
  ]
  lost_group G.elsewhere l o t e = absurd (true≢false e)
  lost_group _ l o t e = absurd (true≢false t)

  lost_end_step : (v : Bool) (m : P.Mode) (d : D.Group) (c : B.Builder) → is_lost d ≡ true → P.is_flow m ≡ true → M.mode_step (mode_is v m) c (B.an_end d name) ≡ Body.body_end c d name
  lost_end_step true P.in_body D.the_head c l k = refl
  lost_end_step false P.in_body D.the_head c l k = refl
  lost_end_step true P.in_body D.a_frame c l k = refl
  lost_end_step false P.in_body D.a_frame c l k = refl
  lost_end_step true P.in_body D.an_option c l k = refl
  lost_end_step false P.in_body D.an_option c l k = refl
  lost_end_step true P.in_body D.an_option_group c l k = refl
  lost_end_step false P.in_body D.an_option_group c l k = refl
  lost_end_step v P.in_caption D.the_head c l k = refl
  lost_end_step v P.in_caption D.a_frame c l k = refl
  lost_end_step v P.in_caption D.an_option c l k = refl
  lost_end_step v P.in_caption D.an_option_group c l k = refl
  lost_end_step v P.in_cell D.the_head c l k = refl
  lost_end_step v P.in_cell D.a_frame c l k = refl
  lost_end_step v P.in_cell D.an_option c l k = refl
  lost_end_step v P.in_cell D.an_option_group c l k = refl
  lost_end_step v P.in_body _ c l k = absurd (true≢false (sym l))
  lost_end_step v P.in_caption _ c l k = absurd (true≢false (sym l))
  lost_end_step v P.in_cell _ c l k = absurd (true≢false (sym l))
  lost_end_step v _ d c l k = absurd (true≢false (sym k))

  flow_end : (b : P.Builder) (m : P.Mode) (g : G.Group) → P.is_flow m ≡ true → has_twin g ≡ false → R.end_tag m b g name ≡ Some after → R.body_end b g name ≡ Some after
  flow_end b P.in_body g k t eq = eq
  flow_end b P.in_caption G.misplaced k t eq = eq
  flow_end b P.in_caption G.an_option k t eq = eq
  flow_end b P.in_caption G.elsewhere k t eq = eq
  flow_end b P.in_cell G.misplaced k t eq = eq
  flow_end b P.in_cell G.an_option k t eq = eq
  flow_end b P.in_cell G.elsewhere k t eq = eq
  flow_end b P.in_caption _ k t eq = absurd (true≢false t)
  flow_end b P.in_cell _ k t eq = absurd (true≢false t)
  flow_end b _ g k t eq = absurd (true≢false (sym k))

  no_part : (g : G.Group) → has_twin g ≡ false → G.is_part g ≡ false
  no_part G.misplaced t = refl
  no_part G.an_option t = refl
  no_part G.elsewhere t = refl
  no_part _ t = absurd (true≢false t)

  -- an end tag, in any mode
  abbrev finished : B.Token
  finished = B.an_end (D.group name) name

  pub an_end : (b : P.Builder) (c : B.Builder) → Alike b c → (n : ℕ) → R.end_tag b.mode b (G.group name) name ≡ Some after →
      Reaches (M.mode_step (mode_now c b.mode) c finished) (suc (suc (suc n))) (M.dispatch finished) after
  an_end b c h n eq = elim (cases_Bool (has_twin (G.group name))) [
    | inl t ↦ subst (λ d. Reaches (M.mode_step (mode_now c b.mode) c (B.an_end d name)) (suc (suc (suc n))) (M.dispatch (B.an_end d name)) after)
        (sym ((facts name).twins t)) (twin_end b c h b.mode refl (G.group name) refl t n eq)
    | inr t ↦ (
        let l = lost_end_table b h.sound b.mode refl (G.group name) t eq in
        let f = end_in_body b c h l.0 name after (inl (no_part (G.group name) t)) (flow_end b b.mode (G.group name) l.0 t eq) in
        subst (λ o. Reaches o (suc (suc (suc n))) (M.dispatch finished) after)
        (sym (lost_end_step (in_caption c.context) b.mode (D.group name) c (lost_group (G.group name) (facts name).lost (facts name).options t l.1) l.0 ∙ f.1)) f.2)
  ]
