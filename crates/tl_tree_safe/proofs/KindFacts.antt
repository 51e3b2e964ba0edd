-- What the definitions of the tree builder say of a name follows from its kind, where a policy may
-- list it.
use Rattle.std.proofs.Common.{◌≡◌, ℕ, Bool, true, false, ◌||◌, ◌&&◌, ◌==◌, List, [], ◌∷◌, ◌++◌, length, map, get_or, codes, refl, ap, sym, ◌∙◌, subst, inl, inr, ◌⊎◌, true≢false, if◌then◌else◌}
use Rattle.std.specs.Prelude.{⊤}
use mathlib.Core.Bool.{beq}
use Rattle.std.specs.List.{list_all, list_any}
use Rattle.std.specs.Str.{bytes_eq}
use Rattle.std.proofs.lemmas.Bool.{and_left, and_parts, cases_Bool, cond-false, eqb-true, false_from_ne_true, or_from}
use Rattle.std.proofs.lemmas.List.Folds.{list_any-append}
use Rattle.std.proofs.lemmas.Slice.Eq.{bytes_eq-Decides}
use Rattle.tl_spec.specs.Lex.ByteClass.{is_void, void_names}
use Rattle.tl_names.specs.Elements.{headings, scope_bounds, special_names, table_sections}
use Rattle.tl_html_spec.specs.Balanced.{is_button_scope, is_one_of, is_scope, is_special, words}
use Rattle.tl_tree_spec.specs.Groups.{Group, a_block, a_break, a_button, a_caption, a_cell, a_column, a_column_group, a_description, a_detail, a_format, a_heading, a_mark, a_nobr, a_paragraph, a_preformatted, a_row, a_ruby_base, a_ruby_text, a_rule, a_table, a_table_body, a_void, an_anchor, an_image, an_item, an_option, any_other, block_names, elsewhere, elsewhere_names, format_names, group, misplaced}
use Rattle.tl_tree_spec.specs.HtmlTreeBuilder.{is_rtc}
use Rattle.tl_tree_spec.specs.Stays.{surely_ends}
use Rattle.tl_safe_fit.specs.Kinds
use Rattle.tl_safe_fit.specs.Kinds.{Named, kind_among, kind_of, names_of_1, names_of_2, names_of_3, names_of_4, names_of_5, names_of_6, names_of_7, names_of_8, names_of_10, rows_of}
use Rattle.tl_safe_fit.specs.Words.{is_among}
use Rattle.tl_tree_safe.specs.Lists.{opaque_names, structural_names}
use Rattle.tl_safe_fit.specs.declared.kinds.Kind.{Kind}
use Rattle.tl_safe_fit.specs.declared.kinds.Kind.TheVariants.{Paragraph, Block, LooseBlock, Heading, Preformatted, Item, Description, Anchor, Nobr, Void, Rule, RubyBase, RubyTextContainer, RubyText, Table, Caption, ColumnGroup, Column, TableBody, Row, Cell, Other}

-- a name that is none of these is not this one of them
other_than : (names : List (List ℕ)) (n w : List ℕ) → is_among names n ≡ false → is_among names w ≡ true → bytes_eq n w ≡ false
other_than names n w none listed = elim (cases_Bool (bytes_eq n w)) [
  | inl y ↦ absurd (true≢false (sym listed ∙ sym (ap (is_among names) ((bytes_eq-Decides n w).0 y)) ∙ none))
  | inr y ↦ y
]

-- groups that no rule here tells apart
abbrev pub plain_group : Group → Group
plain_group a_format = any_other
plain_group a_break = a_void
plain_group a_detail = a_void
plain_group g = g

abbrev pub group_of : Kind → Group
group_of Paragraph = a_paragraph
group_of Block = a_block
group_of LooseBlock = a_block
group_of Heading = a_heading
group_of Preformatted = a_preformatted
group_of Item = an_item
group_of Description = a_description
group_of Anchor = an_anchor
group_of Nobr = a_nobr
group_of Void = a_void
group_of Rule = a_rule
group_of RubyBase = a_ruby_base
group_of RubyTextContainer = a_ruby_base
group_of RubyText = a_ruby_text
group_of Table = a_table
group_of Caption = a_caption
group_of ColumnGroup = a_column_group
group_of Column = a_column
group_of TableBody = a_table_body
group_of Row = a_row
group_of Cell = a_cell
group_of _ = any_other

-- what is asked of a name
pub record IsKind (n : List ℕ) (k : Kind) : Type 0 where
  pub group : plain_group (group n) ≡ group_of k
  pub scope : is_scope n ≡ Kinds.bounds_scope k
  pub button_scope : is_button_scope n ≡ Kinds.bounds_scope k
  pub ends : surely_ends n ≡ Kinds.ends_items k
  pub anchor : bytes_eq (codes "a") n ≡ Kinds.is_anchor k
  pub nobr : bytes_eq (codes "nobr") n ≡ Kinds.is_nobr k
  pub ruby : is_one_of (codes "ruby") n ≡ Kinds.is_ruby k
  pub container : is_rtc n ≡ Kinds.is_container k
  pub void : is_void n ≡ Kinds.is_void_kind k

-- A test of the same, which computes

abbrev code : Group → ℕ
code a_paragraph = 0
code a_block = 1
code a_heading = 2
code a_preformatted = 3
code an_item = 4
code a_description = 5
code a_button = 6
code an_anchor = 7
code a_format = 8
code a_nobr = 9
code a_mark = 10
code a_break = 11
code a_void = 12
code an_image = 13
code a_detail = 14
code a_rule = 15
code a_ruby_base = 16
code a_ruby_text = 17
code a_table = 18
code a_caption = 19
code a_column_group = 20
code a_column = 21
code a_table_body = 22
code a_row = 23
code a_cell = 24
code misplaced = 25
code an_option = 26
code elsewhere = 27
code any_other = 28

abbrev decoded : ℕ → Group
decoded c = get_or
    (a_paragraph ∷ a_block ∷ a_heading ∷ a_preformatted ∷ an_item ∷ a_description ∷ a_button ∷ an_anchor ∷ a_format ∷ a_nobr ∷ a_mark ∷ a_break ∷ a_void ∷ an_image ∷ a_detail ∷ a_rule ∷ a_ruby_base ∷ a_ruby_text ∷ a_table ∷ a_caption ∷ a_column_group ∷ a_column ∷ a_table_body ∷ a_row ∷ a_cell ∷ misplaced ∷ an_option ∷ elsewhere ∷ [])
    c any_other

decodes : (g : Group) → decoded (code g) ≡ g
decodes a_paragraph = refl
decodes _ = refl

same_code : (g h : Group) → (code g == code h) ≡ true → g ≡ h
same_code g h e = sym (decodes g) ∙ ap decoded (eqb-true (code g) (code h) e) ∙ decodes h

beq-true : (x y : Bool) → beq x y ≡ true → x ≡ y
beq-true true true e = refl
beq-true true false e = absurd (true≢false (sym e))
beq-true false true e = absurd (true≢false (sym e))
beq-true false false e = refl

abbrev agrees : List ℕ → Kind → Bool
agrees n k =
    (code (plain_group (group n)) == code (group_of k))
    && (beq (is_scope n) (Kinds.bounds_scope k)
    && (beq (is_button_scope n) (Kinds.bounds_scope k)
    && (beq (surely_ends n) (Kinds.ends_items k)
    && (beq (bytes_eq (codes "a") n) (Kinds.is_anchor k)
    && (beq (bytes_eq (codes "nobr") n) (Kinds.is_nobr k)
    && (beq (is_one_of (codes "ruby") n) (Kinds.is_ruby k)
    && (beq (is_rtc n) (Kinds.is_container k)
    && beq (is_void n) (Kinds.is_void_kind k))))))))

agrees-IsKind : (n : List ℕ) (k : Kind) → agrees n k ≡ true → IsKind n k
agrees-IsKind n k h =
    let a = and_parts _ _ h in
    let b = and_parts _ _ a.1 in
    let c = and_parts _ _ b.1 in
    let d = and_parts _ _ c.1 in
    let e = and_parts _ _ d.1 in
    let f = and_parts _ _ e.1 in
    let g = and_parts _ _ f.1 in
    let i = and_parts _ _ g.1 in
    record {
      group = same_code (plain_group (group n)) (group_of k) a.0;
      scope = beq-true _ _ b.0;
      button_scope = beq-true _ _ c.0;
      ends = beq-true _ _ d.0;
      anchor = beq-true _ _ e.0;
      nobr = beq-true _ _ f.0;
      ruby = beq-true _ _ g.0;
      container = beq-true _ _ i.0;
      void = beq-true _ _ i.1;
    }

abbrev rows-agree : List Named → Bool
rows-agree rows = list_all (λ (row : Named). agrees row.0 row.1) rows

agree_1 : rows-agree names_of_1 ≡ true
agree_1 = refl

agree_2 : rows-agree names_of_2 ≡ true
agree_2 = refl

agree_3 : rows-agree names_of_3 ≡ true
agree_3 = refl

agree_4 : rows-agree names_of_4 ≡ true
agree_4 = refl

agree_5 : rows-agree names_of_5 ≡ true
agree_5 = refl

agree_6 : rows-agree names_of_6 ≡ true
agree_6 = refl

agree_7 : rows-agree names_of_7 ≡ true
agree_7 = refl

agree_8 : rows-agree names_of_8 ≡ true
agree_8 = refl

agree_10 : rows-agree names_of_10 ≡ true
agree_10 = refl

either-agree : (b : Bool) (xs ys : List Named) → rows-agree xs ≡ true → rows-agree ys ≡ true → rows-agree (if b then xs else ys) ≡ true
either-agree true xs ys h k = h
either-agree false xs ys h k = k

all-agree : (len : ℕ) → rows-agree (rows_of len) ≡ true
all-agree len =
    either-agree (len == 1) names_of_1 _ agree_1
    (either-agree (len == 2) names_of_2 _ agree_2
    (either-agree (len == 3) names_of_3 _ agree_3
    (either-agree (len == 4) names_of_4 _ agree_4
    (either-agree (len == 5) names_of_5 _ agree_5
    (either-agree (len == 6) names_of_6 _ agree_6
    (either-agree (len == 7) names_of_7 _ agree_7
    (either-agree (len == 8) names_of_8 _ agree_8
    (either-agree (len == 10) names_of_10 _ agree_10 refl))))))))

-- Names of the tables, and others

abbrev row_names : List Named → List (List ℕ)
row_names rows = map (λ (row : Named). row.0) rows

found_or_not : (rows : List Named) (n : List ℕ) → rows-agree rows ≡ true →
    IsKind n (kind_among rows n) ⊎ ((kind_among rows n ≡ Other) × (is_among (row_names rows) n ≡ false))
found_or_not [] n h = inr (refl, refl)
found_or_not (row ∷ rows) n h =
    let two = and_parts (agrees row.0 row.1) (rows-agree rows) h in by (bytes_eq n row.0) refl two.0 (found_or_not rows n two.1)
  where
    by : (x : Bool) → bytes_eq n row.0 ≡ x → agrees row.0 row.1 ≡ true →
        IsKind n (kind_among rows n) ⊎ ((kind_among rows n ≡ Other) × (is_among (row_names rows) n ≡ false)) →
        IsKind n (if x then row.1 else kind_among rows n)
        ⊎ (((if x then row.1 else kind_among rows n) ≡ Other) × ((x || is_among (row_names rows) n) ≡ false))
    by true e here more = inl (subst (λ m. IsKind m row.1) (sym ((bytes_eq-Decides n row.0).0 e)) (agrees-IsKind row.0 row.1 here))
    by false e here more = more

-- what no rule names
abbrev known_lists : List (List (List ℕ))
known_lists =
    opaque_names ∷ structural_names ∷ row_names (rows_of 1) ∷ row_names (rows_of 2) ∷ row_names (rows_of 3) ∷ row_names (rows_of 4)
    ∷ row_names (rows_of 5) ∷ row_names (rows_of 6) ∷ row_names (rows_of 7) ∷ row_names (rows_of 8) ∷ row_names (rows_of 10) ∷ []

abbrev appended : List (List (List ℕ)) → List (List ℕ)
appended [] = []
appended (ws ∷ lists) = ws ++ appended lists

abbrev known : List (List ℕ)
known = appended known_lists

abbrev IsInNone : List ℕ → List (List (List ℕ)) → Type 0
IsInNone n [] = ⊤
IsInNone n (ws ∷ lists) = (is_among ws n ≡ false) × IsInNone n lists

in_none : (n : List ℕ) (lists : List (List (List ℕ))) → IsInNone n lists → is_among (appended lists) n ≡ false
in_none n [] h = refl
in_none n (ws ∷ lists) h = list_any-append (bytes_eq n) ws (appended lists) ∙ or_from _ _ h.0 (in_none n lists h.1)

module _ (n : List ℕ) where
  -- none of a length that it has not
  other_length : (j : ℕ) (ws : List (List ℕ)) → list_all (λ (w : List ℕ). length w == j) ws ≡ true → (length n == j) ≡ false → is_among ws n ≡ false
  other_length j [] h k = refl
  other_length j (w ∷ ws) h k =
      let two = and_parts (length w == j) (list_all (λ (w : List ℕ). length w == j) ws) h in
      or_from (bytes_eq n w) _
      (false_from_ne_true (bytes_eq n w) (λ e. true≢false (sym two.0 ∙ ap (λ (m : List ℕ). length m == j) (sym ((bytes_eq-Decides n w).0 e)) ∙ k)))
      (other_length j ws two.1 k)

  module _ (miss : is_among (row_names (rows_of (length n))) n ≡ false) where
    of_length : (j : ℕ) → list_all (λ (w : List ℕ). length w == j) (row_names (rows_of j)) ≡ true → is_among (row_names (rows_of j)) n ≡ false
    of_length j h = elim (cases_Bool (length n == j)) [
      | inl y ↦ subst (λ i. is_among (row_names (rows_of i)) n ≡ false) (eqb-true (length n) j y) miss
      | inr k ↦ other_length j (row_names (rows_of j)) h k
    ]

    no_known : is_among opaque_names n ≡ false → is_among structural_names n ≡ false → is_among known n ≡ false
    no_known opaque structural = in_none n known_lists (
      opaque,
      (
        structural,
        (of_length 1 refl, (of_length 2 refl, (of_length 3 refl, (of_length 4 refl, (of_length 5 refl, (of_length 6 refl, (of_length 7 refl, (of_length 8 refl, (of_length 10 refl, tt))))))))),
      ),
    )

-- a name that is not known
module _ (n : List ℕ) (none : is_among known n ≡ false) where
  no : (ws : List (List ℕ)) → list_all (is_among known) ws ≡ true → list_any (bytes_eq n) ws ≡ false
  no [] h = refl
  no (w ∷ ws) h =
      let two = and_parts (is_among known w) (list_all (is_among known) ws) h in
      or_from (bytes_eq n w) _ (other_than known n w none two.0) (no ws two.1)

  abbrev chain : List (List (List ℕ) × Group) → Group → Group
  chain [] g = g
  chain (row ∷ rows) g = if list_any (bytes_eq n) row.0 then row.1 else chain rows g

  skipped : (rows : List (List (List ℕ) × Group)) (g : Group) → list_all (λ (row : List (List ℕ) × Group). list_all (is_among known) row.0) rows ≡ true → chain rows g ≡ g
  skipped [] g h = refl
  skipped (row ∷ rows) g h =
      let two = and_parts (list_all (is_among known) row.0) _ h in
      cond-false (list_any (bytes_eq n) row.0) row.1 (chain rows g) (no row.0 two.0) ∙ skipped rows g two.1

  abbrev earlier : List (List (List ℕ) × Group)
  earlier =
      (words (codes "p"), a_paragraph) ∷ (words block_names, a_block) ∷ (headings, a_heading)
      ∷ (words (codes "pre listing"), a_preformatted) ∷ (words (codes "li"), an_item)
      ∷ (words (codes "dd dt"), a_description) ∷ (words (codes "button"), a_button) ∷ (words (codes "a"), an_anchor) ∷ []

  abbrev later : List (List (List ℕ) × Group)
  later =
      (words (codes "nobr"), a_nobr) ∷ (words (codes "applet marquee object"), a_mark) ∷ (words (codes "br"), a_break)
      ∷ (words (codes "area embed img keygen wbr"), a_void) ∷ (words (codes "image"), an_image)
      ∷ (words (codes "param source track"), a_detail) ∷ (words (codes "hr"), a_rule) ∷ (words (codes "rb rtc"), a_ruby_base)
      ∷ (words (codes "rp rt"), a_ruby_text) ∷ (words (codes "table"), a_table) ∷ (words (codes "caption"), a_caption)
      ∷ (words (codes "colgroup"), a_column_group) ∷ (words (codes "col"), a_column) ∷ (table_sections, a_table_body)
      ∷ (words (codes "tr"), a_row) ∷ (words (codes "td th"), a_cell) ∷ (words (codes "head frame"), misplaced)
      ∷ (words (codes "option optgroup"), an_option) ∷ (words elsewhere_names, elsewhere) ∷ []

  plain : group n ≡ (if is_one_of format_names n then a_format else any_other)
  plain =
      skipped earlier (if is_one_of format_names n then a_format else chain later any_other) refl
      ∙ ap (λ (g : Group). if is_one_of format_names n then a_format else g) (skipped later any_other refl)

  plain-other : (x : Bool) → plain_group (if x then a_format else any_other) ≡ any_other
  plain-other true = refl
  plain-other false = refl

  turned : (w : List ℕ) → bytes_eq n w ≡ false → bytes_eq w n ≡ false
  turned w h = false_from_ne_true (bytes_eq w n) (λ e. true≢false (sym ((bytes_eq-Decides n w).1 (sym ((bytes_eq-Decides w n).0 e))) ∙ h))

  other-IsKind : IsKind n Other
  other-IsKind = record {
    group = ap plain_group plain ∙ plain-other (is_one_of format_names n);
    scope = no scope_bounds refl;
    button_scope = or_from (is_scope n) _ (no scope_bounds refl) (no (words (codes "button")) refl);
    ends = and_left _ _ (and_left (is_special n) _ (no special_names refl));
    anchor = turned (codes "a") (other_than known n (codes "a") none refl);
    nobr = turned (codes "nobr") (other_than known n (codes "nobr") none refl);
    ruby = no (words (codes "ruby")) refl;
    container = no (words (codes "rtc")) refl;
    void = no void_names refl;
  }

-- a name that a policy may list is of its kind
pub kind-IsKind : (n : List ℕ) → is_among opaque_names n ≡ false → is_among structural_names n ≡ false → IsKind n (kind_of n)
kind-IsKind n opaque structural = elim (found_or_not (rows_of (length n)) n (all-agree (length n))) [
  | inl is ↦ is
  | inr not_there ↦ subst (IsKind n) (sym not_there.0) (other-IsKind n (no_known n not_there.1 opaque structural))
]
