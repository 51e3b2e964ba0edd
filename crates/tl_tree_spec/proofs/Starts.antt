-- What the start tag of an element does that may stand where it stands: it opens it, and nothing else.
use Rattle.std.proofs.Common.{◌≡◌, ℕ, Bool, true, false, not, ◌||◌, ◌&&◌, List, [], ◌∷◌, Option, Some, option_map, codes, refl, ap, sym, ◌∙◌, inl, inr, ◌⊎◌, true≢false, if◌then◌else◌}
use Rattle.std.specs.Str.{bytes_eq}
use Rattle.std.proofs.lemmas.Bool.{and_left, and_parts, cases_Bool, not-true, or_from, or_left, or_parts}
use Rattle.tl_html_spec.specs.Balanced.{is_item_bound, is_one_of, is_scope}
use Rattle.tl_tree_spec.specs.HtmlForest.{HtmlTag}
use Rattle.tl_tree_spec.specs.Groups.{Group, a_block, a_break, a_button, a_caption, a_cell, a_column, a_column_group, a_description, a_detail, a_format, a_heading, a_mark, a_nobr, a_paragraph, a_preformatted, a_row, a_ruby_base, a_ruby_text, a_rule, a_table, a_table_body, a_void, an_anchor, an_image, an_item, an_option, any_other, elsewhere, is_body_context, is_column_group_group, is_description, is_heading, is_implied, is_item, is_paragraph, is_part, is_row_context, is_row_group, is_table_body_group, is_table_context, is_table_group, misplaced}
use Rattle.tl_tree_spec.specs.Builder.{Builder, Element, Frame, Mode, alone, closed_into, closed_through, elements, formatted, implied_closed, in_body, in_caption, in_cell, in_column_group, in_row, in_table, in_table_body, inserted, is_flow, mode_by, mode_of, names, new_element, no_name, popped, reconstructed, with_stack, within}
use Rattle.tl_tree_spec.specs.HtmlTreeBuilder.{adoption, anchor_ended, body_start, button_closed, caption_part_start, cell_closed, cleared, description_closed, found, heading_closed, is_item_bound_in, is_rtc, item_closed, p_closed, popped_back, ready_for_table, row_start, ruby_closed, start_tag, to_mode, with_marker}
use Rattle.tl_tree_spec.specs.Stays.{directly_in, in_p, in_ruby, is_alone, is_preformatted, stands, stands_in_flow, surely_ends}
use Rattle.tl_tree_spec.specs.Places.{entries_after}
use Rattle.tl_tree_spec.proofs.Active.{Sound, none_listed, reconstructed_none}

-- rules that find nothing to close

p_stays : (b : Builder) → in_p (names b.stack) ≡ false → p_closed b ≡ b
p_stays b h = ap (λ (x : Bool). if x then with_stack b (closed_through is_paragraph is_paragraph b.stack) else b) h

ready_stays : (b : Builder) → in_p (names b.stack) ≡ false → ready_for_table b ≡ b
ready_stays b h = either b.reading.is_quirks (p_closed b) (p_stays b h)
  where
    either : (v : Bool) (c : Builder) → c ≡ b → (if v then b else c) ≡ b
    either true c e = refl
    either false c e = e

heading_stays : (b : Builder) → directly_in is_heading (names b.stack) ≡ false → heading_closed b ≡ b
heading_stays b h = ap (λ (x : Bool). if x then with_stack b (popped b.stack.current b.stack.others) else b) h

fewer_step : (e s c : Bool) (few all : Bool) → (few ≡ false → all ≡ false) → (not (e && s) && few) ≡ false → (not (e && (c || s)) && all) ≡ false
fewer_step true s true few all f k = refl
fewer_step true true false few all f k = refl
fewer_step true false false few all f k = f k
fewer_step false s c few all f k = f k

-- fewer stops find all that more find
fewer_stops : (b : Builder) (test : List ℕ → Bool) (ns : List (List ℕ)) → within test surely_ends ns ≡ false → within test (is_item_bound_in b) ns ≡ false
fewer_stops b test [] h = refl
fewer_stops b test (n ∷ ns) h =
    let here = or_parts (test n) (not (surely_ends n) && within test surely_ends ns) h in
    or_from (test n) (not (is_item_bound_in b n) && within test (is_item_bound_in b) ns) here.0
    (fewer_step (is_item_bound n) (not (is_one_of (codes "search") n)) b.reading.counts_search (within test surely_ends ns) (within test (is_item_bound_in b) ns) (fewer_stops b test ns) here.1)

item_stays : (b : Builder) → within is_item (is_item_bound_in b) (names b.stack) ≡ false → item_closed b ≡ b
item_stays b h = ap (λ (x : Bool). if x then with_stack b (closed_through is_item is_item b.stack) else b) h

description_stays : (b : Builder) → within is_description (is_item_bound_in b) (names b.stack) ≡ false → description_closed b ≡ b
description_stays b h =
    ap (λ (x : Bool). if x then with_stack b
    (closed_through (bytes_eq (found is_description (names b.stack))) (bytes_eq (found is_description (names b.stack))) b.stack)
    else b) h

button_stays : (b : Builder) (n : List ℕ) → within (bytes_eq n) is_scope (names b.stack) ≡ false → button_closed b n ≡ b
button_stays b n h = ap (λ (x : Bool). if x then with_stack b (closed_through no_name (bytes_eq n) b.stack) else b) h

pub implied_stays : (but : List ℕ → Bool) (f : Frame) (others : List Frame) → (is_implied f.element.own.name && not (but f.element.own.name)) ≡ false →
    implied_closed but f others ≡ record { current = f; others = others }
implied_stays but f [] h = refl
implied_stays but f (outer ∷ others) h =
    ap (λ (x : Bool). if x then implied_closed but (closed_into outer f) others else record { current = f; others = outer ∷ others }) h

or_either : (x y : Bool) → (x || y) ≡ true → (x ≡ true) ⊎ (y ≡ true)
or_either true y h = inl refl
or_either false y h = inr h

ruby_stays : (but : List ℕ → Bool) (b : Builder) →
    (in_ruby (names b.stack) ≡ false) ⊎ ((is_implied b.stack.current.element.own.name && not (but b.stack.current.element.own.name)) ≡ false) →
    ruby_closed but b ≡ b
ruby_stays but b (inl h) = ap (λ (x : Bool). if x then with_stack b (implied_closed but b.stack.current b.stack.others) else b) h
ruby_stays but b (inr h) =
    elim (cases_Bool (in_ruby (names b.stack))) [
      | inl y ↦ ap (λ (x : Bool). if x then with_stack b (implied_closed but b.stack.current b.stack.others) else b) y
          ∙ ap (with_stack b) (implied_stays but b.stack.current b.stack.others h)
      | inr n ↦ ap (λ (x : Bool). if x then with_stack b (implied_closed but b.stack.current b.stack.others) else b) n
    ]

-- the builder after the start tag of an element that is opened
abbrev pub opened : Builder → Group → HtmlTag → Builder
opened b g own =
    record (inserted b own) {
      active = entries_after g (new_element b own) b.active;
      skips = if is_preformatted g then true else b.skips;
      mode = mode_by g b.mode;
    }

body-opens : (b : Builder) (own : HtmlTag) (g : Group) → Sound b.active (elements b.stack) →
    stands_in_flow g (names b.stack) own.name ≡ true → is_alone g ≡ false → body_start b g own ≡ Some (opened b g own)
body-opens b own a_paragraph s h a = ap (λ (c : Builder). Some (inserted c own)) (p_stays b (not-true _ h))
body-opens b own a_block s h a = ap (λ (c : Builder). Some (inserted c own)) (p_stays b (not-true _ h))
body-opens b own a_heading s h a =
    let parts = and_parts (not (in_p (names b.stack))) (not (directly_in is_heading (names b.stack))) h in
    ap (λ (c : Builder). Some (inserted (heading_closed c) own)) (p_stays b (not-true _ parts.0))
    ∙ ap (λ (c : Builder). Some (inserted c own)) (heading_stays b (not-true _ parts.1))
body-opens b own a_preformatted s h a =
    ap (λ (c : Builder). Some (record (inserted c own) { skips = true })) (p_stays b (not-true _ h))
body-opens b own an_item s h a =
    let parts = and_parts (not (within is_item surely_ends (names b.stack))) (not (in_p (names b.stack))) h in
    ap (λ (c : Builder). Some (inserted (p_closed c) own)) (item_stays b (fewer_stops b is_item (names b.stack) (not-true _ parts.0)))
    ∙ ap (λ (c : Builder). Some (inserted c own)) (p_stays b (not-true _ parts.1))
body-opens b own a_description s h a =
    let parts = and_parts (not (within is_description surely_ends (names b.stack))) (not (in_p (names b.stack))) h in
    ap (λ (c : Builder). Some (inserted (p_closed c) own)) (description_stays b (fewer_stops b is_description (names b.stack) (not-true _ parts.0)))
    ∙ ap (λ (c : Builder). Some (inserted c own)) (p_stays b (not-true _ parts.1))
body-opens b own a_button s h a =
    ap (λ (c : Builder). Some (inserted (reconstructed c) own)) (button_stays b own.name (not-true _ h))
    ∙ ap (λ (c : Builder). Some (inserted c own)) (reconstructed_none b s)
body-opens b own an_anchor s h a =
    ap (λ (o : Option Element). option_map (λ (c : Builder). formatted (reconstructed c) own) (anchor_ended b own.name o))
    (none_listed own.name s (not-true _ h))
    ∙ ap (λ (c : Builder). Some (formatted c own)) (reconstructed_none b s)
body-opens b own a_format s h a = ap (λ (c : Builder). Some (formatted c own)) (reconstructed_none b s)
body-opens b own a_nobr s h a =
    ap (λ (c : Builder). if within (bytes_eq own.name) is_scope (names c.stack)
    then option_map (λ (d : Builder). formatted (reconstructed d) own) (adoption c own.name)
    else Some (formatted c own)) (reconstructed_none b s)
    ∙ ap (λ (x : Bool). if x
    then option_map (λ (d : Builder). formatted (reconstructed d) own) (adoption b own.name)
    else Some (formatted b own)) (not-true _ h)
body-opens b own a_ruby_base s h a =
    ap (λ (c : Builder). Some (inserted c own)) (ruby_stays no_name b
    (elim (or_either (not (in_ruby (names b.stack))) (not (directly_in is_implied (names b.stack))) h) [
      | inl y ↦ inl (not-true _ y)
      | inr y ↦ inr (and_left _ true (not-true _ y))
    ]))
body-opens b own a_ruby_text s h a =
    ap (λ (c : Builder). Some (inserted c own)) (ruby_stays is_rtc b
    (elim (or_either (not (in_ruby (names b.stack))) (not (directly_in (λ m. is_implied m && not (is_rtc m)) (names b.stack))) h) [
      | inl y ↦ inl (not-true _ y)
      | inr y ↦ inr (not-true _ y)
    ]))
body-opens b own any_other s h a = ap (λ (c : Builder). Some (inserted c own)) (reconstructed_none b s)
body-opens b own a_table s h a = ap (λ (c : Builder). Some (to_mode in_table (inserted c own))) (ready_stays b (not-true _ h))
body-opens b own a_break s h a = absurd (true≢false a)
body-opens b own a_void s h a = absurd (true≢false a)
body-opens b own a_detail s h a = absurd (true≢false a)
body-opens b own a_rule s h a = absurd (true≢false a)
body-opens b own a_mark s h a = absurd (true≢false (sym h))
body-opens b own an_image s h a = absurd (true≢false (sym h))
body-opens b own a_caption s h a = absurd (true≢false (sym h))
body-opens b own a_column_group s h a = absurd (true≢false (sym h))
body-opens b own a_column s h a = absurd (true≢false (sym h))
body-opens b own a_table_body s h a = absurd (true≢false (sym h))
body-opens b own a_row s h a = absurd (true≢false (sym h))
body-opens b own a_cell s h a = absurd (true≢false (sym h))
body-opens b own misplaced s h a = absurd (true≢false (sym h))
body-opens b own an_option s h a = absurd (true≢false (sym h))
body-opens b own elsewhere s h a = absurd (true≢false (sym h))

body-alone : (b : Builder) (own : HtmlTag) (g : Group) → Sound b.active (elements b.stack) →
    stands_in_flow g (names b.stack) own.name ≡ true → is_alone g ≡ true → body_start b g own ≡ Some (alone b own)
body-alone b own a_break s h a = ap (λ (c : Builder). Some (alone c own)) (reconstructed_none b s)
body-alone b own a_void s h a = ap (λ (c : Builder). Some (alone c own)) (reconstructed_none b s)
body-alone b own a_detail s h a = refl
body-alone b own a_rule s h a = ap (λ (c : Builder). Some (alone c own)) (p_stays b (not-true _ h))
body-alone b own a_column s h a = absurd (true≢false (sym h))
body-alone b own _ s h a = absurd (true≢false (sym a))

-- by the mode

start-flow : (m : Mode) (b : Builder) (own : HtmlTag) (g : Group) → is_flow m ≡ true → is_part g ≡ false → start_tag m b g own ≡ body_start b g own
start-flow in_body b own g f h = refl
start-flow in_cell b own g f h = ap (λ (x : Bool). if x then row_start (cell_closed b) g own else body_start b g own) h
start-flow in_caption b own g f h = ap (λ (x : Bool). if x then caption_part_start b g own else body_start b g own) h
start-flow in_table b own g f h = absurd (true≢false (sym f))
start-flow in_column_group b own g f h = absurd (true≢false (sym f))
start-flow in_table_body b own g f h = absurd (true≢false (sym f))
start-flow in_row b own g f h = absurd (true≢false (sym f))

-- the mode directly in a part of a table
pub mode-table : (g : Group) (m : Mode) → is_table_group g ≡ true → mode_by g m ≡ in_table
mode-table a_table m h = refl
mode-table _ m h = absurd (true≢false (sym h))

pub mode-table_body : (g : Group) (m : Mode) → is_table_body_group g ≡ true → mode_by g m ≡ in_table_body
mode-table_body a_table_body m h = refl
mode-table_body _ m h = absurd (true≢false (sym h))

pub mode-row : (g : Group) (m : Mode) → is_row_group g ≡ true → mode_by g m ≡ in_row
mode-row a_row m h = refl
mode-row _ m h = absurd (true≢false (sym h))

mode-column_group : (g : Group) (m : Mode) → is_column_group_group g ≡ true → mode_by g m ≡ in_column_group
mode-column_group a_column_group m h = refl
mode-column_group _ m h = absurd (true≢false (sym h))

popped_back-none : (test : List ℕ → Bool) (f : Frame) (others : List Frame) → test f.element.own.name ≡ true → popped_back test f others ≡ record { current = f; others = others }
popped_back-none test f [] h = refl
popped_back-none test f (outer ∷ others) h =
    ap (λ (x : Bool). if x then record { current = f; others = outer ∷ others } else popped_back test (closed_into outer f) others) h

pub cleared-none : (test : List ℕ → Bool) (b : Builder) → test b.stack.current.element.own.name ≡ true → cleared test b ≡ b
cleared-none test b h = ap (with_stack b) (popped_back-none test b.stack.current b.stack.others h)

pub start-opens : (b : Builder) (own : HtmlTag) (g : Group) → b.mode ≡ mode_of (names b.stack) → Sound b.active (elements b.stack) →
    stands g (names b.stack) own.name ≡ true → is_alone g ≡ false → start_tag b.mode b g own ≡ Some (opened b g own)
start-opens b own a_caption hm s h a =
    ap (λ (m : Mode). start_tag m b a_caption own) (hm ∙ mode-table _ _ h)
    ∙ ap (λ (c : Builder). Some (to_mode in_caption (inserted (with_marker c) own))) (cleared-none is_table_context b (or_left _ _ h))
start-opens b own a_column_group hm s h a =
    ap (λ (m : Mode). start_tag m b a_column_group own) (hm ∙ mode-table _ _ h)
    ∙ ap (λ (c : Builder). Some (to_mode in_column_group (inserted c own))) (cleared-none is_table_context b (or_left _ _ h))
start-opens b own a_table_body hm s h a =
    ap (λ (m : Mode). start_tag m b a_table_body own) (hm ∙ mode-table _ _ h)
    ∙ ap (λ (c : Builder). Some (to_mode in_table_body (inserted c own))) (cleared-none is_table_context b (or_left _ _ h))
start-opens b own a_row hm s h a =
    ap (λ (m : Mode). start_tag m b a_row own) (hm ∙ mode-table_body _ _ h)
    ∙ ap (λ (c : Builder). Some (to_mode in_row (inserted c own))) (cleared-none is_body_context b (or_left _ _ h))
start-opens b own a_cell hm s h a =
    ap (λ (m : Mode). start_tag m b a_cell own) (hm ∙ mode-row _ _ h)
    ∙ ap (λ (c : Builder). Some (to_mode in_cell (with_marker (inserted c own)))) (cleared-none is_row_context b (or_left _ _ h))
start-opens b own a_column hm s h a = absurd (true≢false a)
start-opens b own g hm s h a =
    let parts = and_parts (is_flow (mode_of (names b.stack))) (stands_in_flow g (names b.stack) own.name) h in
    start-flow b.mode b own g (ap is_flow hm ∙ parts.0) refl ∙ body-opens b own g s parts.1 a

pub start-alone : (b : Builder) (own : HtmlTag) (g : Group) → b.mode ≡ mode_of (names b.stack) → Sound b.active (elements b.stack) →
    stands g (names b.stack) own.name ≡ true → is_alone g ≡ true → start_tag b.mode b g own ≡ Some (alone b own)
start-alone b own a_column hm s h a = ap (λ (m : Mode). start_tag m b a_column own) (hm ∙ mode-column_group _ _ h)
start-alone b own a_caption hm s h a = absurd (true≢false (sym a))
start-alone b own a_column_group hm s h a = absurd (true≢false (sym a))
start-alone b own a_table_body hm s h a = absurd (true≢false (sym a))
start-alone b own a_row hm s h a = absurd (true≢false (sym a))
start-alone b own a_cell hm s h a = absurd (true≢false (sym a))
start-alone b own g hm s h a =
    let parts = and_parts (is_flow (mode_of (names b.stack))) (stands_in_flow g (names b.stack) own.name) h in
    start-flow b.mode b own g (ap is_flow hm ∙ parts.0) refl ∙ body-alone b own g s parts.1 a
