-- What the end tag of the current node does: it pops it, and nothing else.
use Rattle.std.proofs.Common.{◌≡◌, ℕ, Bool, true, false, not, ◌||◌, ◌&&◌, List, [], ◌∷◌, map, Some, None, refl, ap, ap₂, sym, ◌∙◌, true≢false, arith, if◌then◌else◌}
use Rattle.std.specs.List.{list_any}
use Rattle.std.specs.Str.{bytes_eq}
use Rattle.std.proofs.lemmas.Bool.{and_left, and_right, or_left}
use Rattle.std.proofs.lemmas.Slice.Eq.{bytes_eq-Decides}
use Rattle.tl_html_spec.specs.Balanced.{is_button_scope, is_list_scope, is_scope}
use Rattle.tl_tree_spec.specs.Groups.{Group, a_block, a_break, a_button, a_caption, a_cell, a_column, a_column_group, a_description, a_detail, a_format, a_heading, a_mark, a_nobr, a_paragraph, a_preformatted, a_row, a_ruby_base, a_ruby_text, a_rule, a_table, a_table_body, a_void, an_anchor, an_image, an_item, an_option, any_other, elsewhere, group, is_body_context, is_caption, is_caption_group, is_column_group, is_column_group_group, is_heading, is_heading_group, is_implied, is_implied_group, is_item, is_item_group, is_paragraph, is_paragraph_group, is_part, is_row, is_row_context, is_row_group, is_table, is_table_body, is_table_body_group, is_table_group, is_table_scope, misplaced}
use Rattle.tl_tree_spec.specs.Builder.{Builder, Element, Entry, Frame, Mode, Nodes, Reading, Stack, alone, closed_into, closed_through, formatting, has_name, has_number, in_body, in_caption, in_cell, in_column_group, in_row, in_table, in_table_body, is_flow, is_listed, listed, mode_by, mode_of, names, no_name, popped, popped_through, unlisted, with_stack, within, without_last_marker}
use Rattle.tl_tree_spec.specs.HtmlTreeBuilder.{adopted, adoption, body_end, caption_end, cell_end, cleared, current_popped, end_tag, has_furthest_block, has_in_table_scope, is_special_in, table_closed, to_mode}
use Rattle.tl_tree_spec.specs.Stays.{is_alone, is_mark, stands, stands_in_flow}
use Rattle.tl_tree_spec.proofs.Active.{Ordered, Sound, is_active, kept, marked, not_listed, over, same_number, skipped}
use Rattle.tl_tree_spec.proofs.Starts.{cleared-none, implied_stays, mode-row, mode-table, mode-table_body}

pub same_name : (n : List ℕ) → bytes_eq n n ≡ true
same_name n = (bytes_eq-Decides n n).1 refl

-- groups that are none of tables
abbrev pub is_plain : Group → Bool
is_plain a_table = false
is_plain g = not (is_part g)

-- with the element at the front, the name of a group's test
within_first : {A : Type 0} (test stops : A → Bool) (x : A) (xs : List A) → test x ≡ true → within test stops (x ∷ xs) ≡ true
within_first test stops x xs h = or_left (test x) (not (stops x) && within test stops xs) h

-- the current node is closed, and no other
close_current : (but test : List ℕ → Bool) (f outer : Frame) (others : List Frame) →
    (is_implied f.element.own.name && not (but f.element.own.name)) ≡ false → test f.element.own.name ≡ true →
    closed_through but test (record { current = f; others = outer ∷ others }) ≡ record { current = closed_into outer f; others = others }
close_current but test f outer others i t =
    ap (λ (s : Stack). popped_through (has_name test) s.current s.others) (implied_stays but f (outer ∷ others) i)
    ∙ ap (λ (x : Bool). if x then record { current = closed_into outer f; others = others } else popped_through (has_name test) (closed_into outer f) others) t

abbrev pub popped_to : Frame → Frame → List Frame → Stack
popped_to f outer others = record { current = closed_into outer f; others = others }

module _ (reading : Reading) where
  -- where the builder stands before an end tag
  abbrev pub inside : Frame → Frame → List Frame → List Entry → ℕ → Mode → Builder
  inside f outer others entries k m =
      record { stack = record { current = f; others = outer ∷ others }; active = entries; next = k; skips = false; mode = m; reading = reading }

  abbrev pub outside : Frame → Frame → List Frame → List Entry → ℕ → Mode → Builder
  outside f outer others entries k m =
      record { stack = popped_to f outer others; active = entries; next = k; skips = false; mode = m; reading = reading }

  module _ (f outer : Frame) (others : List Frame) (entries : List Entry) (k : ℕ) (m : Mode) where
    closes : (but test stops : List ℕ → Bool) (other : Builder) →
        (is_implied f.element.own.name && not (but f.element.own.name)) ≡ false → test f.element.own.name ≡ true →
        (if within test stops (names (inside f outer others entries k m).stack)
        then with_stack (inside f outer others entries k m) (closed_through but test (inside f outer others entries k m).stack)
        else other) ≡ outside f outer others entries k m
    closes but test stops other i t =
        ap (λ (x : Bool). if x then with_stack (inside f outer others entries k m) (closed_through but test (inside f outer others entries k m).stack) else other)
        (within_first test stops f.element.own.name (map (λ (e : Element). e.own.name) (map (λ (g : Frame). g.element) (outer ∷ others))) t)
        ∙ ap (with_stack (inside f outer others entries k m)) (close_current but test f outer others i t)

    not_implied : (g : Group) → group f.element.own.name ≡ g → is_implied_group g ≡ false → (is_implied f.element.own.name && not (no_name f.element.own.name)) ≡ false
    not_implied g e h = and_left (is_implied f.element.own.name) true (ap is_implied_group e ∙ h)

    excepted : (but : List ℕ → Bool) → but f.element.own.name ≡ true → (is_implied f.element.own.name && not (but f.element.own.name)) ≡ false
    excepted but h = and_right (is_implied f.element.own.name) (not (but f.element.own.name)) (ap not h)

    other-end : body_end (inside f outer others entries k m) any_other f.element.own.name ≡ Some (outside f outer others entries k m)
    other-end = ap Some (closes (bytes_eq f.element.own.name) (bytes_eq f.element.own.name) (is_special_in (inside f outer others entries k m)) (inside f outer others entries k m)
        (excepted (bytes_eq f.element.own.name) (same_name f.element.own.name)) (same_name f.element.own.name))

    block-end : (g : Group) → group f.element.own.name ≡ g → is_implied_group g ≡ false →
        body_end (inside f outer others entries k m) a_block f.element.own.name ≡ Some (outside f outer others entries k m)
    block-end g e h = ap Some (closes no_name (bytes_eq f.element.own.name) is_scope (inside f outer others entries k m)
        (not_implied g e h) (same_name f.element.own.name))

    -- of the groups whose elements are not listed as active
    pub body-closes : (g : Group) → group f.element.own.name ≡ g → (ns : List (List ℕ)) → stands_in_flow g ns f.element.own.name ≡ true → is_alone g ≡ false → is_active g ≡ false → is_plain g ≡ true →
        body_end (inside f outer others entries k m) g f.element.own.name ≡ Some (outside f outer others entries k m)
    body-closes a_paragraph e ns h a v pl =
        let is : is_paragraph f.element.own.name ≡ true = ap is_paragraph_group e in
        ap Some (closes is_paragraph is_paragraph is_button_scope (alone (inside f outer others entries k m) (record { name = f.element.own.name; attributes = [] })) (excepted is_paragraph is) is)
    body-closes a_block e ns h a v pl = block-end a_block e refl
    body-closes a_heading e ns h a v pl =
        ap Some (closes no_name is_heading is_scope (inside f outer others entries k m) (not_implied a_heading e refl) (ap is_heading_group e))
    body-closes a_preformatted e ns h a v pl = block-end a_preformatted e refl
    body-closes an_item e ns h a v pl =
        let is : is_item f.element.own.name ≡ true = ap is_item_group e in
        ap Some (closes is_item is_item is_list_scope (inside f outer others entries k m) (excepted is_item is) is)
    body-closes a_description e ns h a v pl =
        ap Some (closes (bytes_eq f.element.own.name) (bytes_eq f.element.own.name) is_scope (inside f outer others entries k m)
        (excepted (bytes_eq f.element.own.name) (same_name f.element.own.name)) (same_name f.element.own.name))
    body-closes a_button e ns h a v pl = block-end a_button e refl
    body-closes a_ruby_base e ns h a v pl = other-end
    body-closes a_ruby_text e ns h a v pl = other-end
    body-closes any_other e ns h a v pl = other-end
    body-closes an_anchor e ns h a v pl = absurd (true≢false v)
    body-closes a_format e ns h a v pl = absurd (true≢false v)
    body-closes a_nobr e ns h a v pl = absurd (true≢false v)
    body-closes a_break e ns h a v pl = absurd (true≢false a)
    body-closes a_void e ns h a v pl = absurd (true≢false a)
    body-closes a_detail e ns h a v pl = absurd (true≢false a)
    body-closes a_rule e ns h a v pl = absurd (true≢false a)
    body-closes a_mark e ns h a v pl = absurd (true≢false (sym h))
    body-closes an_image e ns h a v pl = absurd (true≢false (sym h))
    body-closes a_table e ns h a v pl = absurd (true≢false (sym pl))
    body-closes a_caption e ns h a v pl = absurd (true≢false (sym h))
    body-closes a_column_group e ns h a v pl = absurd (true≢false (sym h))
    body-closes a_column e ns h a v pl = absurd (true≢false (sym h))
    body-closes a_table_body e ns h a v pl = absurd (true≢false (sym h))
    body-closes a_row e ns h a v pl = absurd (true≢false (sym h))
    body-closes a_cell e ns h a v pl = absurd (true≢false (sym h))
    body-closes misplaced e ns h a v pl = absurd (true≢false (sym h))
    body-closes an_option e ns h a v pl = absurd (true≢false (sym h))
    body-closes elsewhere e ns h a v pl = absurd (true≢false (sym h))

  -- the entries that are left once the current node is closed, whose end tag has this outcome
  pub record Closed (e : Element) (es : List Element) (nodes : Nodes) (outer : Frame) (others : List Frame) (entries : List Entry) (k : ℕ) (m : Mode) : Type 0 where
    pub left : List Entry
    pub sound : Sound left es
    pub gives : adoption (inside (record { element = e; children = nodes }) outer others entries k m) e.own.name
        ≡ Some (outside (record { element = e; children = nodes }) outer others left k m)

  -- entries of which the current node is none
  unlisted-closes : (e : Element) (nodes : Nodes) (outer : Frame) (others : List Frame) (entries : List Entry) (k : ℕ) (m : Mode) → is_listed e.number entries ≡ false →
      adoption (inside (record { element = e; children = nodes }) outer others entries k m) e.own.name
      ≡ Some (outside (record { element = e; children = nodes }) outer others entries k m)
  unlisted-closes e nodes outer others entries k m h =
      let b = inside (record { element = e; children = nodes }) outer others entries k m in
      ap₂ (λ (x y : Bool). if x && not y then Some (with_stack b (popped b.stack.current b.stack.others)) else adopted b e.own.name (listed e.own.name b.active))
      (same_name e.own.name) h

  -- the current node is the latest entry
  listed-closes : (e : Element) (nodes : Nodes) (outer : Frame) (others : List Frame) (entries : List Entry) (k : ℕ) (m : Mode) →
      adoption (inside (record { element = e; children = nodes }) outer others (formatting e ∷ entries) k m) e.own.name
      ≡ Some (outside (record { element = e; children = nodes }) outer others entries k m)
  listed-closes e nodes outer others entries k m =
      let b = inside (record { element = e; children = nodes }) outer others (formatting e ∷ entries) k m in
      let f : Frame = record { element = e; children = nodes } in
      let es = map (λ (g : Frame). g.element) (outer ∷ others) in
      ap₂ (λ (x y : Bool). if x && not (y || is_listed e.number entries) then Some (with_stack b (popped b.stack.current b.stack.others)) else adopted b e.own.name (if x then Some e else listed e.own.name entries))
      (same_name e.own.name) (same_number e.number)
      ∙ ap (λ (x : Bool). if not (x || list_any (has_number e.number) es) then Some (record b { active = if x then entries else formatting e ∷ unlisted e.number entries })
      else if not (x || (not (is_scope e.own.name) && within (has_number e.number) (has_name is_scope) es)) then Some b
      else if (if x then false else is_special_in b e.own.name || has_furthest_block (is_special_in b) e.number es) then None
      else Some (record b {
        stack = if x then record { current = closed_into outer f; others = others } else popped_through (has_number e.number) (closed_into outer f) others;
        active = if x then entries else formatting e ∷ unlisted e.number entries;
      })) (same_number e.number)

  -- of the groups whose elements are
  pub active-closes : {entries : List Entry} {e : Element} {es : List Element} (nodes : Nodes) (outer : Frame) (others : List Frame) (k : ℕ) (m : Mode) →
      Ordered e.number es → is_mark e.own.name ≡ false → Sound entries (e ∷ es) → Closed e es nodes outer others entries k m
  active-closes {e} nodes outer others k m o n over =
      record { left = []; sound = over; gives = unlisted-closes e nodes outer others [] k m refl }
  active-closes nodes outer others k m o n (marked y s) = absurd (true≢false (sym y ∙ n))
  active-closes {e} nodes outer others k m o n (kept {entries} x a s) =
      record { left = entries; sound = s; gives = listed-closes e nodes outer others entries k m }
  active-closes {e} nodes outer others k m o n (skipped {entries} x s) =
      record { left = entries; sound = s; gives = unlisted-closes e nodes outer others entries k m (not_listed e.number e.number (omega arith) o s) }

-- an element that is no formatting one is not listed
pub plain-Sound : {entries : List Entry} {e : Element} {es : List Element} → is_mark e.own.name ≡ false → is_active (group e.own.name) ≡ false → Sound entries (e ∷ es) → Sound entries es
plain-Sound m v over = over
plain-Sound m v (marked y s) = absurd (true≢false (sym y ∙ m))
plain-Sound m v (kept n a s) = absurd (true≢false (sym a ∙ v))
plain-Sound m v (skipped n s) = s

-- what an element marked goes with it
pub marked-Sound : {entries : List Entry} {e : Element} {es : List Element} → is_mark e.own.name ≡ true → Sound entries (e ∷ es) → Sound (without_last_marker entries) es
marked-Sound m over = over
marked-Sound m (marked y s) = s
marked-Sound m (kept n a s) = absurd (true≢false (sym m ∙ n))
marked-Sound m (skipped n s) = absurd (true≢false (sym m ∙ n))

-- by the mode

cell-plain : (b : Builder) (n : List ℕ) (g : Group) → is_plain g ≡ true → cell_end b g n ≡ body_end b g n
cell-plain b n a_table h = absurd (true≢false (sym h))
cell-plain b n a_caption h = absurd (true≢false (sym h))
cell-plain b n a_column_group h = absurd (true≢false (sym h))
cell-plain b n a_column h = absurd (true≢false (sym h))
cell-plain b n a_table_body h = absurd (true≢false (sym h))
cell-plain b n a_row h = absurd (true≢false (sym h))
cell-plain b n a_cell h = absurd (true≢false (sym h))
cell-plain b n _ h = refl

caption-plain : (b : Builder) (n : List ℕ) (g : Group) → is_plain g ≡ true → caption_end b g n ≡ body_end b g n
caption-plain b n a_table h = absurd (true≢false (sym h))
caption-plain b n a_caption h = absurd (true≢false (sym h))
caption-plain b n a_column_group h = absurd (true≢false (sym h))
caption-plain b n a_column h = absurd (true≢false (sym h))
caption-plain b n a_table_body h = absurd (true≢false (sym h))
caption-plain b n a_row h = absurd (true≢false (sym h))
caption-plain b n a_cell h = absurd (true≢false (sym h))
caption-plain b n _ h = refl

pub plain-end : (m : Mode) (b : Builder) (n : List ℕ) (g : Group) → is_flow m ≡ true → is_plain g ≡ true → end_tag m b g n ≡ body_end b g n
plain-end in_body b n g f h = refl
plain-end in_cell b n g f h = cell-plain b n g h
plain-end in_caption b n g f h = caption-plain b n g h
plain-end in_table b n g f h = absurd (true≢false (sym f))
plain-end in_column_group b n g f h = absurd (true≢false (sym f))
plain-end in_table_body b n g f h = absurd (true≢false (sym f))
plain-end in_row b n g f h = absurd (true≢false (sym f))

pub mode-plain : (g : Group) (m : Mode) → is_plain g ≡ true → mode_by g m ≡ m
mode-plain a_table m h = absurd (true≢false (sym h))
mode-plain a_caption m h = absurd (true≢false (sym h))
mode-plain a_column_group m h = absurd (true≢false (sym h))
mode-plain a_table_body m h = absurd (true≢false (sym h))
mode-plain a_row m h = absurd (true≢false (sym h))
mode-plain a_cell m h = absurd (true≢false (sym h))
mode-plain _ m h = refl

-- what is closed of a table leaves these entries
abbrev pub entries_left : Group → List Entry → List Entry
entries_left a_cell entries = without_last_marker entries
entries_left a_caption entries = without_last_marker entries
entries_left _ entries = entries

module _ (reading : Reading) (f outer : Frame) (others : List Frame) (entries : List Entry) (k : ℕ) where
  -- names outside of it, and the mode there
  abbrev pub around : List (List ℕ)
  around = names (popped_to f outer others)

  abbrev pub here : Mode → Builder
  here m = inside reading f outer others entries k m

  in_scope : (test : List ℕ → Bool) (m : Mode) → test f.element.own.name ≡ true → has_in_table_scope test (here m) ≡ true
  in_scope test m h = within_first test is_table_scope f.element.own.name (map (λ (e : Element). e.own.name) (map (λ (g : Frame). g.element) (outer ∷ others))) h

  abbrev pub ends_so : Group → Type 0
  ends_so g = end_tag (mode_by g (mode_of around)) (here (mode_by g (mode_of around))) g f.element.own.name
      ≡ Some (outside reading f outer others (entries_left g entries) k (mode_of around))

  table-end : is_table f.element.own.name ≡ true → ends_so a_table
  table-end h =
      ap (λ (x : Bool). Some (if x then table_closed (here in_table) else here in_table)) (in_scope is_table in_table h)
      ∙ ap (λ (x : Bool). let stack : Stack = if x then popped_to f outer others else popped_through (has_name is_table) (closed_into outer f) others in
      Some (record (here in_table) { stack = stack; mode = mode_of (names stack) })) h

  marked-end : (test : List ℕ → Bool) (m from : Mode) → is_implied f.element.own.name ≡ false → test f.element.own.name ≡ true → mode_of around ≡ m →
      Some (if has_in_table_scope test (here from) then record (here from) { stack = closed_through no_name test (here from).stack; active = without_last_marker entries; mode = m } else here from)
      ≡ Some (outside reading f outer others (without_last_marker entries) k (mode_of around))
  marked-end test m from i h e =
      ap (λ (x : Bool). Some (if x then record (here from) { stack = closed_through no_name test (here from).stack; active = without_last_marker entries; mode = m } else here from)) (in_scope test from h)
      ∙ ap (λ (s : Stack). let b : Builder = record (here from) { stack = s; active = without_last_marker entries; mode = m } in Some b) (close_current no_name test f outer others (and_left (is_implied f.element.own.name) true i) h)
      ∙ ap (λ (x : Mode). Some (outside reading f outer others (without_last_marker entries) k x)) (sym e)

  caption-end : is_caption f.element.own.name ≡ true → is_implied f.element.own.name ≡ false → mode_of around ≡ in_table → ends_so a_caption
  caption-end h i e = marked-end is_caption in_table in_caption i h e

  cell-end : is_implied f.element.own.name ≡ false → mode_of around ≡ in_row → ends_so a_cell
  cell-end i e = marked-end (bytes_eq f.element.own.name) in_row in_cell i (same_name f.element.own.name) e

  row-end : is_row f.element.own.name ≡ true → mode_of around ≡ in_table_body → ends_so a_row
  row-end h e =
      ap (λ (x : Bool). Some (if x then to_mode in_table_body (current_popped (cleared is_row_context (here in_row))) else here in_row)) (in_scope is_row in_row h)
      ∙ ap (λ (b : Builder). Some (to_mode in_table_body (current_popped b))) (cleared-none is_row_context (here in_row) (or_left _ _ h))
      ∙ ap (λ (x : Mode). Some (outside reading f outer others entries k x)) (sym e)

  body-end : is_table_body f.element.own.name ≡ true → mode_of around ≡ in_table → ends_so a_table_body
  body-end h e =
      ap (λ (x : Bool). Some (if x then to_mode in_table (current_popped (cleared is_body_context (here in_table_body))) else here in_table_body)) (in_scope (bytes_eq f.element.own.name) in_table_body (same_name f.element.own.name))
      ∙ ap (λ (b : Builder). Some (to_mode in_table (current_popped b))) (cleared-none is_body_context (here in_table_body) (or_left _ _ h))
      ∙ ap (λ (x : Mode). Some (outside reading f outer others entries k x)) (sym e)

  column-end : is_column_group f.element.own.name ≡ true → mode_of around ≡ in_table → ends_so a_column_group
  column-end h e =
      ap (λ (x : Bool). Some (if x then to_mode in_table (current_popped (here in_column_group)) else here in_column_group)) h
      ∙ ap (λ (x : Mode). Some (outside reading f outer others entries k x)) (sym e)

  -- of tables and their parts
  pub table-closes : (g : Group) → group f.element.own.name ≡ g → is_plain g ≡ false → is_alone g ≡ false → stands g around f.element.own.name ≡ true → ends_so g
  table-closes a_table e pl a h = table-end (ap is_table_group e)
  table-closes a_caption e pl a h = caption-end (ap is_caption_group e) (ap is_implied_group e) (mode-table _ _ h)
  table-closes a_column_group e pl a h = column-end (ap is_column_group_group e) (mode-table _ _ h)
  table-closes a_table_body e pl a h = body-end (ap is_table_body_group e) (mode-table _ _ h)
  table-closes a_row e pl a h = row-end (ap is_row_group e) (mode-table_body _ _ h)
  table-closes a_cell e pl a h = cell-end (ap is_implied_group e) (mode-row _ _ h)
  table-closes a_column e pl a h = absurd (true≢false a)
  table-closes _ e pl a h = absurd (true≢false pl)
