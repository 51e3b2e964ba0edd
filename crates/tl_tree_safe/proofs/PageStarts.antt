-- What the start tag of an element of a print does at a place of a page: it opens it, and nothing else.
use Rattle.std.proofs.Common.{Bool, List, None, Option, [], ap, codes, false, if◌then◌else◌, inl, inr, not, refl, subst, suc, sym, true, true≢false, ℕ, ◌&&◌, ◌||◌, ◌∙◌, ◌∷◌, ◌≡◌, ◌⊎◌}
use Rattle.std.proofs.lemmas.Bool.{and_parts, cond-false, not-true, or_from, or_left}
use Rattle.tl_tree_spec.specs.Builder as P
use Rattle.tl_tree_spec.specs.Groups as G
use Rattle.tl_tree_spec.specs.HtmlForest.{HtmlTag}
use Rattle.tl_tree_spec.specs.HtmlTreeBuilder as R
use Rattle.tl_tree_spec.specs.Stays as Y
use Rattle.tl_tree_spec.proofs.Starts.{mode-row, mode-table, mode-table_body}
use Rattle.tl_dom_spec.specs.Body as D
use Rattle.tl_dom_spec.specs.Builder as B
use Rattle.tl_dom_spec.specs.Dispatcher as M
use Rattle.tl_dom_spec.specs.Formatting as F
use Rattle.tl_dom_spec.specs.Groups as K
use Rattle.tl_dom_spec.specs.Path as W
use Rattle.tl_dom_spec.specs.Tables as S
use Rattle.tl_dom_spec.specs.Tags as T
use Rattle.tl_dom_spec.specs.Tags.{Tag}
use Rattle.tl_dom_spec.proofs.PartNames.{facts, twin}
use Rattle.tl_dom_spec.proofs.PartPaths.{tag_with}
use Rattle.tl_tree_safe.proofs.PageTags.{AreTwins, Fair, Inner, IsSome, earlier-none, mode_at, mode_tags, names_of, no_button, no_description, no_item, no_nobr, no_paragraph, no_ruby, no_select, numbers, numbers_of, tag_in, tags, tags_of, within-tags}
use Rattle.tl_tree_safe.proofs.PageStates.{Active, Counts, IsStill, are-still, by-mode, entries_after, grown, none-listed, state, still}
use Rattle.tl_tree_safe.specs.OfPages.{are_given, has_no_active}

-- The place

abbrev pub is_flow_mode : B.Mode → Bool
is_flow_mode B.in_body = true
is_flow_mode B.in_cell = true
is_flow_mode B.in_caption = true
is_flow_mode _ = false

-- what holds around a place: of the mode, the entries, the tags that are open, and a number above those of the entries
pub record Around (b : B.Builder) (m : B.Mode) (base : List B.Entry) (outer : List Tag) (low : ℕ) : Type 0 where
  pub fair : Fair b.flags.counts_search outer
  pub none : has_no_active base ≡ true
  pub given : are_given low base ≡ true
  pub flows : is_flow_mode m ≡ true
  pub some : IsSome outer
  pub resets : mode_tags (record b { context = None }) outer ≡ m

-- of which elements a print may be in
abbrev pub Head : W.Frame → List Inner → Type 0
Head f [] = T.is_heading f.tag ≡ false
Head f (i ∷ is) = f.tag ≡ tag_in i

-- the modes between parts of a table
abbrev pub is_between : P.Mode → Bool
is_between P.in_table = true
is_between P.in_table_body = true
is_between P.in_row = true
is_between _ = false

-- which rules text between the tags goes by
pub data Seat : P.Mode → Tag → Type 0 where
  flowing : {m : P.Mode} {t : Tag} → P.is_flow m ≡ true → Seat m t
  between : {m : P.Mode} {t : Tag} → is_between m ≡ true → S.is_text_in_table t ≡ true → Seat m t
  in_columns : {t : Tag} → Seat P.in_column_group t

-- the current element, and what is around it
pub record Stands (outer : List Tag) (held : List ℕ) (is : List Inner) (f : W.Frame) (rest : W.Path) : Type 0 where
  pub is_so : f.is_open ≡ true
  pub html : T.is_html f.tag ≡ true
  pub tags_are : tags (f ∷ rest) ≡ tags_of outer is
  pub numbers_are : numbers (f ∷ rest) ≡ numbers_of held is
  pub twins : AreTwins is
  pub head : Head f is
  pub seat : Seat (P.mode_of (names_of is)) f.tag

head-grown : (f : W.Frame) (nodes : W.Nodes) (is : List Inner) → Head f is → Head (grown f nodes) is
head-grown f nodes [] h = h
head-grown f nodes (i ∷ is) h = h

pub stands-grown : {outer : List Tag} {held : List ℕ} {is : List Inner} {f : W.Frame} {rest : W.Path} (nodes : W.Nodes) → Stands outer held is f rest → Stands outer held is (grown f nodes) rest
stands-grown {is = is} {f = f} nodes s = record {
  is_so = s.is_so;
  html = s.html;
  tags_are = s.tags_are;
  numbers_are = s.numbers_are;
  twins = s.twins;
  head = head-grown f nodes is s.head;
  seat = s.seat;
}

-- the mode inside an element of a group
abbrev pub mode_in : G.Group → B.Mode → B.Mode
mode_in G.a_table m = B.in_table
mode_in G.a_caption m = B.in_caption
mode_in G.a_column_group m = B.in_column_group
mode_in G.a_table_body m = B.in_table_body
mode_in G.a_row m = B.in_row
mode_in G.a_cell m = B.in_cell
mode_in _ m = m

-- the frameset-ok flag after its start tag
abbrev pub ok_after : G.Group → Bool → Bool
ok_after G.a_preformatted v = false
ok_after G.an_item v = false
ok_after G.a_description v = false
ok_after G.a_button v = false
ok_after G.a_table v = false
ok_after G.a_break v = false
ok_after G.a_void v = false
ok_after G.a_rule v = false
ok_after _ v = v

-- What stays as it is

pub stays-on : (test : W.Frame → Bool) (f : W.Frame) (rest : W.Path) → f.is_open ≡ true → test f ≡ false → W.popped_while test (f ∷ rest) ≡ f ∷ rest
stays-on test f rest o h =
    ap (λ (v : Bool). elim v as (λ _. W.Path) [
      | true ↦ W.settled_while test rest (W.top_settled (f ∷ rest))
      | false ↦ f ∷ rest
    ]) (or_from (not f.is_open) (test f) (ap not o) h)

or_either : (x y : Bool) → (x || y) ≡ true → (x ≡ true) ⊎ (y ≡ true)
or_either true y h = inl refl
or_either false y h = inr h

-- the current element, by its name
pub directly : (test : List ℕ → Bool) (tested : Tag → Bool) → ((i : Inner) → test i.own.name ≡ true → tested (tag_in i) ≡ true) → (f : W.Frame) (is : List Inner) →
    test (codes "html") ≡ false → Head f is → Y.directly_in test (names_of is) ≡ true → tested f.tag ≡ true
directly test tested same f [] n h d = absurd (true≢false (sym d ∙ n))
directly test tested same f (i ∷ is) n h d = ap tested h ∙ same i d

module _ (b : B.Builder) (outer : List Tag) (held : List ℕ) (fair : Fair b.flags.counts_search outer)
    (is : List Inner) (f : W.Frame) (rest : W.Path) (at : Stands outer held is f rest)
    (base : List B.Entry) (none : has_no_active base ≡ true) (a : List B.Entry) (active : Active base a is) (m : B.Mode) where
  abbrev names : List (List ℕ)
  names = names_of is

  abbrev here : Counts → B.Builder
  here k = state b (f ∷ rest) a m false k

  by-tags : (test stops : Tag → Bool) → P.within test stops (tags_of outer is) ≡ false → W.has_within test stops (f ∷ rest) ≡ false
  by-tags test stops h = within-tags test stops (f ∷ rest) ∙ ap (P.within test stops) at.tags_are ∙ h

  p_stays : (k : Counts) → Y.in_p names ≡ false → D.close_p (here k) ≡ here k
  p_stays k h = cond-false _ _ _ (by-tags T.is_paragraph T.is_button_scope (no_paragraph b.flags.counts_search outer fair is at.twins h))

  ready_stays : (k : Counts) → Y.in_p names ≡ false → (if b.is_quirks then here k else D.close_p (here k)) ≡ here k
  ready_stays k h = either b.is_quirks (D.close_p (here k)) (p_stays k h)
    where
      either : (v : Bool) (c : B.Builder) → c ≡ here k → (if v then here k else c) ≡ here k
      either true c e = refl
      either false c e = e

  closed_stays : (test : Tag → Bool) (k : Counts) → P.within test (T.is_item_bound b.flags.counts_search) (tags_of outer is) ≡ false → Y.in_p names ≡ false → D.item_closed test (here k) ≡ here k
  closed_stays test k h p =
      ap (λ o. D.close_p (D.item_closed_at o (here k)))
      (earlier-none test (T.is_item_bound b.flags.counts_search) (f ∷ rest) (ap (P.within test (T.is_item_bound b.flags.counts_search)) at.tags_are ∙ h))
      ∙ p_stays k p

  not-heading : (is : List Inner) → Head f is → Y.directly_in G.is_heading (names_of is) ≡ false → T.is_heading f.tag ≡ false
  not-heading [] h d = h
  not-heading (i ∷ is) h d = ap T.is_heading h ∙ sym (facts i.own.name).heading ∙ d

  heading_stays : (k : Counts) → Y.directly_in G.is_heading names ≡ false → D.heading_closed (here k) ≡ here k
  heading_stays k d = cond-false _ _ _ (not-heading is at.head d)

  pub still_here : (k : Counts) → F.reconstruct_formatting (here k) ≡ here k
  still_here k = still b (f ∷ rest) a m false k (subst (λ ns. IsStill a ns) (sym at.numbers_are) (are-still base none held active))

  implied_stays : (but : Tag → Bool) (k : Counts) → (T.is_implied f.tag && not (but f.tag)) ≡ false → B.generate_implied_end_tags_except_for but (here k) ≡ here k
  implied_stays but k h = ap (B.with_path (here k)) (stays-on (λ (g : W.Frame). T.is_implied g.tag && not (but g.tag)) f rest at.is_so h)

  ruby_stays : (but : Tag → Bool) (k : Counts) → (Y.in_ruby names ≡ false) ⊎ ((T.is_implied f.tag && not (but f.tag)) ≡ false) → D.ruby_closed but (here k) ≡ here k
  ruby_stays but k (inl h) = cond-false _ _ _ (by-tags (T.is_any (codes "ruby")) T.is_scope (no_ruby b.flags.counts_search outer fair is at.twins h))
  ruby_stays but k (inr h) = either (B.has_in_scope (T.is_any (codes "ruby")) (here k))
    where
      either : (v : Bool) → (if v then B.generate_implied_end_tags_except_for but (here k) else here k) ≡ here k
      either true = implied_stays but k h
      either false = refl

  -- an element that may stand in a ruby
  ruby_ready : (bare : List ℕ → Bool) (but : Tag → Bool) (k : Counts) → ((i : Inner) → (T.is_implied (tag_in i) && not (but (tag_in i))) ≡ bare i.own.name) →
      (not (Y.in_ruby names) || not (Y.directly_in bare names)) ≡ true → D.ruby_closed but (here k) ≡ here k
  ruby_ready bare but k same h = from is refl at.head (or_either (not (Y.in_ruby names)) (not (Y.directly_in bare names)) h)
    where
      from : (js : List Inner) → js ≡ is → Head f js → (not (Y.in_ruby names) ≡ true) ⊎ (not (Y.directly_in bare names) ≡ true) → D.ruby_closed but (here k) ≡ here k
      from js e d (inl y) = ruby_stays but k (inl (not-true _ y))
      from [] e d (inr y) = ruby_stays but k (inl (ap (λ ks. Y.in_ruby (names_of ks)) (sym e)))
      from (i ∷ js) e d (inr y) =
          ruby_stays but k (inr (ap (λ (t : Tag). T.is_implied t && not (but t)) d ∙ same i ∙ ap (λ ks. Y.directly_in bare (names_of ks)) e ∙ not-true _ y))

  cleared : (test : Tag → Bool) (k : Counts) → test f.tag ≡ true → B.clear_stack_back_to test (here k) ≡ here k
  cleared test k h = ap (B.with_path (here k)) (stays-on (λ (g : W.Frame). not (test g.tag)) f rest at.is_so (ap not h))

  module _ (own : HtmlTag) (source : Option ℕ) (k : Counts) where
    abbrev tag : Tag
    tag = tag_with source own

    abbrev pub opened : G.Group → B.Builder
    opened g = state b (W.new_frame k.next tag W.here ∷ W.caught_up f ∷ rest) (entries_after g k.next tag a) (mode_in g m) (Y.is_preformatted g)
        (record k { next = suc k.next; is_frameset_ok = ok_after g k.is_frameset_ok })

    abbrev not_ok : Counts
    not_ok = record k { is_frameset_ok = false }

    body-opens : (g : G.Group) → G.group own.name ≡ g → Y.stands_in_flow g names own.name ≡ true → Y.is_alone g ≡ false →
        D.body_start (here k) (twin g) tag false ≡ B.Done (opened g)
    body-opens G.a_paragraph e h l = ap (λ c. B.Done (B.insert_element tag c)) (p_stays k (not-true _ h))
    body-opens G.a_block e h l = ap (λ c. B.Done (B.insert_element tag c)) (p_stays k (not-true _ h))
    body-opens G.a_heading e h l =
        let parts = and_parts (not (Y.in_p names)) (not (Y.directly_in G.is_heading names)) h in
        ap (λ c. B.Done (B.insert_element tag (D.heading_closed c))) (p_stays k (not-true _ parts.0))
        ∙ ap (λ c. B.Done (B.insert_element tag c)) (heading_stays k (not-true _ parts.1))
    body-opens G.a_preformatted e h l =
        ap (λ c. B.Done (record (B.frameset_not_ok (B.insert_element tag c)) { skips = true })) (p_stays k (not-true _ h))
    body-opens G.an_item e h l =
        let parts = and_parts (not (P.within G.is_item Y.surely_ends names)) (not (Y.in_p names)) h in
        ap (λ c. B.Done (B.insert_element tag c))
        (closed_stays (T.is_any (codes "li")) not_ok (no_item b.flags.counts_search outer fair is at.twins (not-true _ parts.0)) (not-true _ parts.1))
    body-opens G.a_description e h l =
        let parts = and_parts (not (P.within G.is_description Y.surely_ends names)) (not (Y.in_p names)) h in
        ap (λ c. B.Done (B.insert_element tag c))
        (closed_stays (T.is_any (codes "dd dt")) not_ok (no_description b.flags.counts_search outer fair is at.twins (not-true _ parts.0)) (not-true _ parts.1))
    body-opens G.a_button e h l =
        ap (λ c. B.Done (B.frameset_not_ok (B.insert_element tag (F.reconstruct_formatting c))))
        (cond-false _ _ _ (by-tags (T.is_any (codes "button")) T.is_scope (no_button b.flags.counts_search outer fair is at.twins own.name e (not-true _ h))))
        ∙ ap (λ c. B.Done (B.frameset_not_ok (B.insert_element tag c))) (still_here k)
    body-opens G.an_anchor e h l =
        ap (λ o. B.Done (F.insert_formatting_element tag (F.reconstruct_formatting (D.anchor_ended o (here k))))) (none-listed base none own.name active (not-true _ h))
        ∙ ap (λ c. B.Done (F.insert_formatting_element tag c)) (still_here k)
    body-opens G.a_format e h l = ap (λ c. B.Done (F.insert_formatting_element tag c)) (still_here k)
    body-opens G.a_nobr e h l =
        ap (λ c. B.Done (F.insert_formatting_element tag (D.nobr_ended own.name c))) (still_here k)
        ∙ ap (λ c. B.Done (F.insert_formatting_element tag c))
        (cond-false _ _ _ (by-tags (T.is_named own.name) T.is_scope (no_nobr b.flags.counts_search outer fair is at.twins own.name e (not-true _ h))))
    body-opens G.a_ruby_base e h l =
        ap (λ c. B.Done (B.insert_element tag c)) (ruby_ready G.is_implied T.no_tag k (λ i. and_true (T.is_implied (tag_in i)) ∙ sym (facts i.own.name).implied) h)
      where
        and_true : (v : Bool) → (v && true) ≡ v
        and_true true = refl
        and_true false = refl
    body-opens G.a_ruby_text e h l =
        ap (λ c. B.Done (B.insert_element tag c))
        (ruby_ready (λ n. G.is_implied n && not (R.is_rtc n)) (T.is_any (codes "rtc")) k (λ i. ap (λ v. v && not (R.is_rtc i.own.name)) (sym (facts i.own.name).implied)) h)
    body-opens G.any_other e h l = ap (λ c. B.Done (B.insert_element tag c)) (still_here k)
    body-opens G.a_table e h l = ap (λ c. B.Done (B.switch_to B.in_table (B.frameset_not_ok (B.insert_element tag c)))) (ready_stays k (not-true _ h))
    body-opens G.a_break e h l = absurd (true≢false l)
    body-opens G.a_void e h l = absurd (true≢false l)
    body-opens G.a_detail e h l = absurd (true≢false l)
    body-opens G.a_rule e h l = absurd (true≢false l)
    body-opens _ e h l = absurd (true≢false (sym h))

    abbrev pub alone : G.Group → B.Builder
    alone g = state b (W.put W.here (W.and_element W.no_nodes tag W.no_nodes) (f ∷ rest)) a m false
        (record k { next = suc k.next; is_frameset_ok = ok_after g k.is_frameset_ok })

    rule_stays : D.rule_start (here k) tag ≡ B.insert_and_pop tag (here k)
    rule_stays = ap (B.insert_and_pop tag) (cond-false _ _ _ (by-tags T.is_select T.is_scope (no_select b.flags.counts_search outer fair is at.twins)))

    body-alone : (g : G.Group) → Y.stands_in_flow g names own.name ≡ true → Y.is_alone g ≡ true → D.body_start (here k) (twin g) tag false ≡ B.Done (alone g)
    body-alone G.a_break h l = ap (λ c. B.Done (B.frameset_not_ok (B.insert_and_pop tag c))) (still_here k)
    body-alone G.a_void h l = ap (λ c. B.Done (B.frameset_not_ok (B.insert_and_pop tag c))) (still_here k)
    body-alone G.a_detail h l = refl
    body-alone G.a_rule h l =
        ap (λ c. B.Done (B.frameset_not_ok (D.rule_start c tag))) (p_stays k (not-true _ h))
        ∙ ap (λ c. B.Done (B.frameset_not_ok c)) rule_stays
    body-alone G.a_column h l = absurd (true≢false (sym h))
    body-alone _ h l = absurd (true≢false (sym l))

-- By the mode

cell-start : (c : B.Builder) (t : Tag) (g : G.Group) → G.is_part g ≡ false → S.cell_start c (twin g) t false ≡ D.body_start c (twin g) t false
cell-start c t G.a_caption h = absurd (true≢false h)
cell-start c t G.a_column_group h = absurd (true≢false h)
cell-start c t G.a_column h = absurd (true≢false h)
cell-start c t G.a_table_body h = absurd (true≢false h)
cell-start c t G.a_row h = absurd (true≢false h)
cell-start c t G.a_cell h = absurd (true≢false h)
cell-start c t _ h = refl

caption-start : (c : B.Builder) (t : Tag) (g : G.Group) → G.is_part g ≡ false → S.caption_start c (twin g) t false ≡ D.body_start c (twin g) t false
caption-start c t G.a_caption h = absurd (true≢false h)
caption-start c t G.a_column_group h = absurd (true≢false h)
caption-start c t G.a_column h = absurd (true≢false h)
caption-start c t G.a_table_body h = absurd (true≢false h)
caption-start c t G.a_row h = absurd (true≢false h)
caption-start c t G.a_cell h = absurd (true≢false h)
caption-start c t _ h = refl

start-flow : (m : B.Mode) (c : B.Builder) (t : Tag) (g : G.Group) → is_flow_mode m ≡ true → G.is_part g ≡ false → M.mode_step m c (B.a_start (twin g) t false) ≡ D.body_start c (twin g) t false
start-flow B.in_body c t g f h = refl
start-flow B.in_cell c t g f h = cell-start c t g h
start-flow B.in_caption c t g f h = caption-start c t g h
start-flow _ c t g f h = absurd (true≢false (sym f))

pub flow-mode : (m : B.Mode) (n : P.Mode) → is_flow_mode m ≡ true → P.is_flow n ≡ true → is_flow_mode (mode_at m n) ≡ true
flow-mode m P.in_body h k = h
flow-mode m P.in_cell h k = refl
flow-mode m P.in_caption h k = refl
flow-mode m _ h k = absurd (true≢false (sym k))

mode-columns : (g : G.Group) (m : P.Mode) → G.is_column_group_group g ≡ true → P.mode_by g m ≡ P.in_column_group
mode-columns G.a_column_group m h = refl
mode-columns _ m h = absurd (true≢false (sym h))

-- directly in a part of a table
pub in-mode : (test : G.Group → Bool) (m : P.Mode) → ((g : G.Group) (n : P.Mode) → test g ≡ true → P.mode_by g n ≡ m) → test (G.group (codes "html")) ≡ false →
    (is : List Inner) → Y.directly_in (λ n. test (G.group n)) (names_of is) ≡ true → P.mode_of (names_of is) ≡ m
in-mode test m by e [] h = absurd (true≢false (sym h ∙ e))
in-mode test m by e (i ∷ is) h = by (G.group i.own.name) (P.mode_of (names_of is)) h

module _ (b : B.Builder) (around : B.Mode) (base : List B.Entry) (outer : List Tag) (low : ℕ) (held : List ℕ) (all : Around b around base outer low)
    (is : List Inner) (f : W.Frame) (rest : W.Path) (at : Stands outer held is f rest)
    (a : List B.Entry) (active : Active base a is) (own : HtmlTag) (source : Option ℕ) (k : Counts) where
  abbrev own_tag : Tag
  own_tag = tag_with source own

  abbrev mode : B.Mode
  mode = mode_at around (P.mode_of (names_of is))

  abbrev from : B.Mode → B.Builder
  from m = state b (f ∷ rest) a m false k

  abbrev result : B.Mode → G.Group → B.Builder
  result m g = opened b outer held all.fair is f rest at base all.none a active m own source k g

  abbrev result_alone : B.Mode → G.Group → B.Builder
  result_alone m g = alone b outer held all.fair is f rest at base all.none a active m own source k g

  cleared_by : (m : B.Mode) (test : Tag → Bool) → test f.tag ≡ true → B.clear_stack_back_to test (from m) ≡ from m
  cleared_by m test h = cleared b outer held all.fair is f rest at base all.none a active m test k h

  in-table : (test : List ℕ → Bool) → Y.directly_in G.is_table (names_of is) ≡ true → S.is_table_context f.tag ≡ true
  in-table test h = directly G.is_table S.is_table_context (λ i y. sym (facts i.own.name).table_context ∙ or_left (G.is_table i.own.name) _ y) f is refl at.head h

  starts : (g : G.Group) → G.group own.name ≡ g → Y.stands g (names_of is) own.name ≡ true → Y.is_alone g ≡ false →
      M.mode_step mode (from mode) (B.a_start (twin g) own_tag false) ≡ B.Done (result mode g)
  starts G.a_caption e h l =
      let is_at = ap (mode_at around) (in-mode G.is_table_group P.in_table mode-table refl is h) in
      ap (λ m. M.mode_step m (from m) (B.a_start K.a_caption own_tag false)) is_at
      ∙ ap (λ c. B.Done (B.switch_to B.in_caption (B.insert_element own_tag (B.insert_marker c)))) (cleared_by B.in_table S.is_table_context (in-table G.is_table h))
      ∙ sym (ap (λ m. B.Done (result m G.a_caption)) is_at)
  starts G.a_column_group e h l =
      let is_at = ap (mode_at around) (in-mode G.is_table_group P.in_table mode-table refl is h) in
      ap (λ m. M.mode_step m (from m) (B.a_start K.a_column_group own_tag false)) is_at
      ∙ ap (λ c. B.Done (B.switch_to B.in_column_group (B.insert_element own_tag c))) (cleared_by B.in_table S.is_table_context (in-table G.is_table h))
      ∙ sym (ap (λ m. B.Done (result m G.a_column_group)) is_at)
  starts G.a_table_body e h l =
      let is_at = ap (mode_at around) (in-mode G.is_table_group P.in_table mode-table refl is h) in
      ap (λ m. M.mode_step m (from m) (B.a_start K.a_table_body own_tag false)) is_at
      ∙ ap (λ c. B.Done (B.switch_to B.in_table_body (B.insert_element own_tag c))) (cleared_by B.in_table S.is_table_context (in-table G.is_table h))
      ∙ sym (ap (λ m. B.Done (result m G.a_table_body)) is_at)
  starts G.a_row e h l =
      let is_at = ap (mode_at around) (in-mode G.is_table_body_group P.in_table_body mode-table_body refl is h) in
      let test = directly G.is_table_body S.is_table_body_context (λ i y. sym (facts i.own.name).body_context ∙ or_left (G.is_table_body i.own.name) _ y) f is refl at.head h in
      ap (λ m. M.mode_step m (from m) (B.a_start K.a_row own_tag false)) is_at
      ∙ ap (λ c. B.Done (B.switch_to B.in_row (B.insert_element own_tag c))) (cleared_by B.in_table_body S.is_table_body_context test)
      ∙ sym (ap (λ m. B.Done (result m G.a_row)) is_at)
  starts G.a_cell e h l =
      let is_at = ap (mode_at around) (in-mode G.is_row_group P.in_row mode-row refl is h) in
      let test = directly G.is_row S.is_table_row_context (λ i y. sym (facts i.own.name).row_context ∙ or_left (G.is_row i.own.name) _ y) f is refl at.head h in
      ap (λ m. M.mode_step m (from m) (B.a_start K.a_cell own_tag false)) is_at
      ∙ ap (λ c. B.Done (B.switch_to B.in_cell (B.insert_marker (B.insert_element own_tag c)))) (cleared_by B.in_row S.is_table_row_context test)
      ∙ sym (ap (λ m. B.Done (result m G.a_cell)) is_at)
  starts G.a_column e h l = absurd (true≢false l)
  starts g e h l =
      let parts = and_parts (P.is_flow (P.mode_of (names_of is))) (Y.stands_in_flow g (names_of is) own.name) h in
      start-flow mode (from mode) own_tag g (flow-mode around (P.mode_of (names_of is)) all.flows parts.0) refl
      ∙ body-opens b outer held all.fair is f rest at base all.none a active mode own source k g e parts.1 l

  -- the start tag of an element that is opened
  pub opens : (g : G.Group) → G.group own.name ≡ g → Y.stands g (names_of is) own.name ≡ true → Y.is_alone g ≡ false →
      M.dispatch (B.a_start (twin g) own_tag false) (from mode) ≡ B.Done (result mode g)
  opens g e h l = by-mode b f rest a mode false k (B.a_start (twin g) own_tag false) at.html ∙ starts g e h l

  starts-alone : (g : G.Group) → Y.stands g (names_of is) own.name ≡ true → Y.is_alone g ≡ true →
      M.mode_step mode (from mode) (B.a_start (twin g) own_tag false) ≡ B.Done (result_alone mode g)
  starts-alone G.a_column h l =
      let is_at = ap (mode_at around) (in-mode G.is_column_group_group P.in_column_group mode-columns refl is h) in
      ap (λ m. M.mode_step m (from m) (B.a_start K.a_column own_tag false)) is_at
      ∙ sym (ap (λ m. B.Done (result_alone m G.a_column)) is_at)
  starts-alone G.a_caption h l = absurd (true≢false (sym l))
  starts-alone G.a_column_group h l = absurd (true≢false (sym l))
  starts-alone G.a_table_body h l = absurd (true≢false (sym l))
  starts-alone G.a_row h l = absurd (true≢false (sym l))
  starts-alone G.a_cell h l = absurd (true≢false (sym l))
  starts-alone g h l =
      let parts = and_parts (P.is_flow (P.mode_of (names_of is))) (Y.stands_in_flow g (names_of is) own.name) h in
      start-flow mode (from mode) own_tag g (flow-mode around (P.mode_of (names_of is)) all.flows parts.0) refl
      ∙ body-alone b outer held all.fair is f rest at base all.none a active mode own source k g parts.1 l

  -- and of one without an end tag
  pub stands-alone : (g : G.Group) → Y.stands g (names_of is) own.name ≡ true → Y.is_alone g ≡ true →
      M.dispatch (B.a_start (twin g) own_tag false) (from mode) ≡ B.Done (result_alone mode g)
  stands-alone g h l = by-mode b f rest a mode false k (B.a_start (twin g) own_tag false) at.html ∙ starts-alone g h l
