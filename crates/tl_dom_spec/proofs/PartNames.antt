-- What the partial builder of `tl_tree_spec` and the whole one say of a name.
use Rattle.std.proofs.Common.{◌≡◌, ℕ, Bool, true, false, not, ◌||◌, ◌&&◌, ◌==◌, ◌⊎◌, List, [], ◌∷◌, ◌++◌, get_or, codes, refl, ap, sym, ◌∙◌, subst, inl, inr, true≢false, if◌then◌else◌}
use Rattle.std.specs.Prelude.{⊤}
use mathlib.Core.Bool.{beq}
use Rattle.std.specs.List.{list_all, list_any}
use Rattle.std.specs.Str.{bytes_eq}
use Rattle.std.proofs.lemmas.Bool.{and_parts, cases_Bool, cond-false, eqb-true, false_from_ne_true, or_from}
use Rattle.std.proofs.lemmas.Slice.Eq.{bytes_eq-Decides}
use Rattle.tl_names.specs.Elements.{headings, implied_ends, is_among, scope_bounds, table_sections}
use Rattle.tl_html_spec.specs.Balanced.{is_one_of, is_scope, words}
use Rattle.tl_tree_spec.specs.Groups as T
use Rattle.tl_dom_spec.specs.Groups as D
use Rattle.tl_dom_spec.specs.Tags.{scope_names}

-- the group that the whole builder has in the place of one of the partial one
abbrev pub twin : T.Group → D.Group
twin T.a_paragraph = D.a_paragraph
twin T.a_block = D.a_block
twin T.a_heading = D.a_heading
twin T.a_preformatted = D.a_preformatted
twin T.an_item = D.an_item
twin T.a_description = D.a_description
twin T.a_button = D.a_button
twin T.an_anchor = D.an_anchor
twin T.a_format = D.a_format
twin T.a_nobr = D.a_nobr
twin T.a_mark = D.a_mark
twin T.a_break = D.a_break
twin T.a_void = D.a_void
twin T.an_image = D.an_image
twin T.a_detail = D.a_detail
twin T.a_rule = D.a_rule
twin T.a_ruby_base = D.a_ruby_base
twin T.a_ruby_text = D.a_ruby_text
twin T.a_table = D.a_table
twin T.a_caption = D.a_caption
twin T.a_column_group = D.a_column_group
twin T.a_column = D.a_column
twin T.a_table_body = D.a_table_body
twin T.a_row = D.a_row
twin T.a_cell = D.a_cell
twin T.misplaced = D.the_head
twin T.an_option = D.an_option
twin T.elsewhere = D.the_html
twin T.any_other = D.any_other

-- whether the names of a group have that one
abbrev pub has_twin : T.Group → Bool
has_twin T.misplaced = false
has_twin T.an_option = false
has_twin T.elsewhere = false
has_twin _ = true

abbrev pub is_misplaced : T.Group → Bool
is_misplaced T.misplaced = true
is_misplaced _ = false

abbrev pub is_elsewhere : T.Group → Bool
is_elsewhere T.elsewhere = true
is_elsewhere _ = false

abbrev pub is_button_group : T.Group → Bool
is_button_group T.a_button = true
is_button_group _ = false

abbrev pub is_break_group : T.Group → Bool
is_break_group T.a_break = true
is_break_group _ = false

abbrev pub is_option_group : T.Group → Bool
is_option_group T.an_option = true
is_option_group _ = false

-- a number for each group of the whole builder
abbrev code : D.Group → ℕ
code D.the_html = 0
code D.the_head = 1
code D.the_body = 2
code D.a_frameset = 3
code D.a_frame = 4
code D.a_base = 5
code D.a_link = 6
code D.a_title = 7
code D.a_noframes = 8
code D.a_style = 9
code D.a_noscript = 10
code D.a_script = 11
code D.a_template = 12
code D.a_paragraph = 13
code D.a_block = 14
code D.a_heading = 15
code D.a_preformatted = 16
code D.a_form = 17
code D.an_item = 18
code D.a_description = 19
code D.a_plaintext = 20
code D.a_button = 21
code D.an_anchor = 22
code D.a_format = 23
code D.a_nobr = 24
code D.a_mark = 25
code D.a_table = 26
code D.a_break = 27
code D.a_void = 28
code D.an_image = 29
code D.an_input = 30
code D.a_detail = 31
code D.a_rule = 32
code D.a_textarea = 33
code D.an_example = 34
code D.an_iframe = 35
code D.a_noembed = 36
code D.a_select = 37
code D.an_option = 38
code D.an_option_group = 39
code D.a_ruby_base = 40
code D.a_ruby_text = 41
code D.a_math = 42
code D.an_svg = 43
code D.a_caption = 44
code D.a_column_group = 45
code D.a_column = 46
code D.a_table_body = 47
code D.a_row = 48
code D.a_cell = 49
code D.any_other = 50

abbrev decoded : ℕ → D.Group
decoded c = get_or
    (D.the_html ∷ D.the_head ∷ D.the_body ∷ D.a_frameset ∷ D.a_frame ∷ D.a_base ∷ D.a_link ∷ D.a_title ∷ D.a_noframes ∷ D.a_style ∷ D.a_noscript ∷ D.a_script ∷ D.a_template ∷ D.a_paragraph ∷ D.a_block ∷ D.a_heading ∷ D.a_preformatted ∷ D.a_form ∷ D.an_item ∷ D.a_description ∷ D.a_plaintext ∷ D.a_button ∷ D.an_anchor ∷ D.a_format ∷ D.a_nobr ∷ D.a_mark ∷ D.a_table ∷ D.a_break ∷ D.a_void ∷ D.an_image ∷ D.an_input ∷ D.a_detail ∷ D.a_rule ∷ D.a_textarea ∷ D.an_example ∷ D.an_iframe ∷ D.a_noembed ∷ D.a_select ∷ D.an_option ∷ D.an_option_group ∷ D.a_ruby_base ∷ D.a_ruby_text ∷ D.a_math ∷ D.an_svg ∷ D.a_caption ∷ D.a_column_group ∷ D.a_column ∷ D.a_table_body ∷ D.a_row ∷ D.a_cell ∷ [])
    c D.any_other

decodes : (g : D.Group) → decoded (code g) ≡ g
decodes D.the_html = refl
decodes _ = refl

same_code : (g h : D.Group) → (code g == code h) ≡ true → g ≡ h
same_code g h e = sym (decodes g) ∙ ap decoded (eqb-true (code g) (code h) e) ∙ decodes h

beq-true : (x y : Bool) → beq x y ≡ true → x ≡ y
beq-true true true e = refl
beq-true true false e = absurd (true≢false (sym e))
beq-true false true e = absurd (true≢false (sym e))
beq-true false false e = refl

-- what is asked of a name
pub record Facts (n : List ℕ) : Type 0 where
  pub twins : has_twin (T.group n) ≡ true → D.group n ≡ twin (T.group n)
  pub lost : is_misplaced (T.group n) ≡ true → (D.group n ≡ D.the_head) ⊎ (D.group n ≡ D.a_frame)
  pub scope : is_elsewhere (T.group n) ≡ false → is_scope n ≡ is_one_of scope_names n
  pub paragraph : T.is_paragraph n ≡ is_one_of (codes "p") n
  pub heading : T.is_heading n ≡ is_among headings n
  pub item : T.is_item n ≡ is_one_of (codes "li") n
  pub description : T.is_description n ≡ is_one_of (codes "dd dt") n
  pub implied : T.is_implied n ≡ is_among implied_ends n
  pub table : T.is_table n ≡ is_one_of (codes "table") n
  pub caption : T.is_caption n ≡ is_one_of (codes "caption") n
  pub column_group : T.is_column_group n ≡ is_one_of (codes "colgroup") n
  pub table_body : T.is_table_body n ≡ is_one_of (codes "tbody tfoot thead") n
  pub row : T.is_row n ≡ is_one_of (codes "tr") n
  pub cell : T.is_cell n ≡ is_one_of (codes "td th") n
  pub table_context : T.is_table_context n ≡ is_one_of (codes "table template html") n
  pub body_context : T.is_body_context n ≡ is_one_of (codes "tbody tfoot thead template html") n
  pub options : is_option_group (T.group n) ≡ true → (D.group n ≡ D.an_option) ⊎ (D.group n ≡ D.an_option_group)
  pub line_break : is_break_group (T.group n) ≡ is_one_of (codes "br") n
  pub button : is_button_group (T.group n) ≡ is_one_of (codes "button") n
  pub row_context : T.is_row_context n ≡ is_one_of (codes "tr template html") n

-- the same, which computes

abbrev agrees : List ℕ → Bool
agrees n =
    (not (has_twin (T.group n)) || (code (D.group n) == code (twin (T.group n))))
    && ((not (is_misplaced (T.group n)) || ((code (D.group n) == 1) || (code (D.group n) == 4)))
    && ((is_elsewhere (T.group n) || beq (is_scope n) (is_one_of scope_names n))
    && (beq (T.is_paragraph n) (is_one_of (codes "p") n)
    && (beq (T.is_heading n) (is_among headings n)
    && (beq (T.is_item n) (is_one_of (codes "li") n)
    && (beq (T.is_description n) (is_one_of (codes "dd dt") n)
    && (beq (T.is_implied n) (is_among implied_ends n)
    && (beq (T.is_table n) (is_one_of (codes "table") n)
    && (beq (T.is_caption n) (is_one_of (codes "caption") n)
    && (beq (T.is_column_group n) (is_one_of (codes "colgroup") n)
    && (beq (T.is_table_body n) (is_one_of (codes "tbody tfoot thead") n)
    && (beq (T.is_row n) (is_one_of (codes "tr") n)
    && (beq (T.is_cell n) (is_one_of (codes "td th") n)
    && (beq (T.is_table_context n) (is_one_of (codes "table template html") n)
    && (beq (T.is_body_context n) (is_one_of (codes "tbody tfoot thead template html") n)
    && ((not (is_option_group (T.group n)) || ((code (D.group n) == 38) || (code (D.group n) == 39)))
    && (beq (is_break_group (T.group n)) (is_one_of (codes "br") n)
    && (beq (is_button_group (T.group n)) (is_one_of (codes "button") n)
    && beq (T.is_row_context n) (is_one_of (codes "tr template html") n)))))))))))))))))))

or_else : (x y : Bool) → (not x || y) ≡ true → x ≡ true → y ≡ true
or_else true y h k = h
or_else false y h k = absurd (true≢false (sym k))

or_other : (x y : Bool) → (x || y) ≡ true → x ≡ false → y ≡ true
or_other true y h k = absurd (true≢false k)
or_other false y h k = h

one_of_two : (g : D.Group) → ((code g == 1) || (code g == 4)) ≡ true → (g ≡ D.the_head) ⊎ (g ≡ D.a_frame)
one_of_two g h = elim (cases_Bool (code g == 1)) [
  | inl y ↦ inl (same_code g D.the_head y)
  | inr n ↦ inr (same_code g D.a_frame (or_other (code g == 1) (code g == 4) h n))
]

one_of_options : (g : D.Group) → ((code g == 38) || (code g == 39)) ≡ true → (g ≡ D.an_option) ⊎ (g ≡ D.an_option_group)
one_of_options g h = elim (cases_Bool (code g == 38)) [
  | inl y ↦ inl (same_code g D.an_option y)
  | inr n ↦ inr (same_code g D.an_option_group (or_other (code g == 38) (code g == 39) h n))
]

facts_of : (n : List ℕ) → agrees n ≡ true → Facts n
facts_of n h =
    let a = and_parts _ _ h in
    let b = and_parts _ _ a.1 in
    let c = and_parts _ _ b.1 in
    let d = and_parts _ _ c.1 in
    let e = and_parts _ _ d.1 in
    let f = and_parts _ _ e.1 in
    let g = and_parts _ _ f.1 in
    let i = and_parts _ _ g.1 in
    let j = and_parts _ _ i.1 in
    let k = and_parts _ _ j.1 in
    let l = and_parts _ _ k.1 in
    let m = and_parts _ _ l.1 in
    let o = and_parts _ _ m.1 in
    let p = and_parts _ _ o.1 in
    let q = and_parts _ _ p.1 in
    let r = and_parts _ _ q.1 in
    let t = and_parts _ _ r.1 in
    let u = and_parts _ _ t.1 in
    let v = and_parts _ _ u.1 in
    record {
      twins = λ t. same_code (D.group n) (twin (T.group n)) (or_else (has_twin (T.group n)) _ a.0 t);
      lost = λ t. one_of_two (D.group n) (or_else (is_misplaced (T.group n)) _ b.0 t);
      scope = λ t. beq-true _ _ (or_other (is_elsewhere (T.group n)) _ c.0 t);
      paragraph = beq-true _ _ d.0;
      heading = beq-true _ _ e.0;
      item = beq-true _ _ f.0;
      description = beq-true _ _ g.0;
      implied = beq-true _ _ i.0;
      table = beq-true _ _ j.0;
      caption = beq-true _ _ k.0;
      column_group = beq-true _ _ l.0;
      table_body = beq-true _ _ m.0;
      row = beq-true _ _ o.0;
      cell = beq-true _ _ p.0;
      table_context = beq-true _ _ q.0;
      body_context = beq-true _ _ r.0;
      options = λ z. one_of_options (D.group n) (or_else (is_option_group (T.group n)) _ t.0 z);
      line_break = beq-true _ _ u.0;
      button = beq-true _ _ v.0;
      row_context = beq-true _ _ v.1;
    }

-- the names that a rule knows

abbrev known_texts : List (List ℕ)
known_texts =
    D.block_names ∷ D.format_names
    ∷ codes "html head body p a table caption colgroup col tr td th pre listing form li dd dt hr frameset frame"
    ∷ codes "button nobr applet marquee object br area embed img keygen wbr image input param source track select option optgroup rb rtc rp rt math svg"
    ∷ codes "base basefont bgsound link meta title noframes style noscript script template textarea xmp iframe noembed plaintext"
    ∷ codes "tbody thead tfoot h1 h2 h3 h4 h5 h6"
    ∷ []

abbrev appended : List (List ℕ) → List (List ℕ)
appended [] = []
appended (text ∷ texts) = words text ++ appended texts

abbrev known : List (List ℕ)
known = appended known_texts

known_agree : list_all agrees known ≡ true
known_agree = refl

-- a name that is not one of them

module _ (n : List ℕ) (none : is_among known n ≡ false) where
  other_than : (w : List ℕ) → is_among known w ≡ true → bytes_eq n w ≡ false
  other_than w h = false_from_ne_true (bytes_eq n w) (λ e. true≢false (sym h ∙ ap (is_among known) (sym ((bytes_eq-Decides n w).0 e)) ∙ none))

  no : (ws : List (List ℕ)) → list_all (is_among known) ws ≡ true → list_any (bytes_eq n) ws ≡ false
  no [] h = refl
  no (w ∷ ws) h =
      let two = and_parts (is_among known w) (list_all (is_among known) ws) h in
      or_from (bytes_eq n w) _ (other_than w two.0) (no ws two.1)

  turned : (w : List ℕ) → is_among known w ≡ true → bytes_eq w n ≡ false
  turned w h = false_from_ne_true (bytes_eq w n) (λ e. true≢false (sym ((bytes_eq-Decides n w).1 (sym ((bytes_eq-Decides w n).0 e))) ∙ other_than w h))

  abbrev chain : {G : Type 0} → List (List (List ℕ) × G) → G → G
  chain [] g = g
  chain (row ∷ rows) g = if list_any (bytes_eq n) row.0 then row.1 else chain rows g

  skipped : {G : Type 0} (rows : List (List (List ℕ) × G)) (g : G) → list_all (λ (row : List (List ℕ) × G). list_all (is_among known) row.0) rows ≡ true → chain rows g ≡ g
  skipped [] g h = refl
  skipped (row ∷ rows) g h =
      let two = and_parts (list_all (is_among known) row.0) _ h in
      cond-false (list_any (bytes_eq n) row.0) row.1 (chain rows g) (no row.0 two.0) ∙ skipped rows g two.1

  abbrev part_rows : List (List (List ℕ) × T.Group)
  part_rows =
      (words (codes "p"), T.a_paragraph) ∷ (words T.block_names, T.a_block) ∷ (headings, T.a_heading)
      ∷ (words (codes "pre listing"), T.a_preformatted) ∷ (words (codes "li"), T.an_item)
      ∷ (words (codes "dd dt"), T.a_description) ∷ (words (codes "button"), T.a_button) ∷ (words (codes "a"), T.an_anchor)
      ∷ (words T.format_names, T.a_format)
      ∷ (words (codes "nobr"), T.a_nobr) ∷ (words (codes "applet marquee object"), T.a_mark) ∷ (words (codes "br"), T.a_break)
      ∷ (words (codes "area embed img keygen wbr"), T.a_void) ∷ (words (codes "image"), T.an_image)
      ∷ (words (codes "param source track"), T.a_detail) ∷ (words (codes "hr"), T.a_rule) ∷ (words (codes "rb rtc"), T.a_ruby_base)
      ∷ (words (codes "rp rt"), T.a_ruby_text) ∷ (words (codes "table"), T.a_table) ∷ (words (codes "caption"), T.a_caption)
      ∷ (words (codes "colgroup"), T.a_column_group) ∷ (words (codes "col"), T.a_column) ∷ (table_sections, T.a_table_body)
      ∷ (words (codes "tr"), T.a_row) ∷ (words (codes "td th"), T.a_cell) ∷ (words (codes "head frame"), T.misplaced)
      ∷ (words (codes "option optgroup"), T.an_option) ∷ (words T.elsewhere_names, T.elsewhere) ∷ []

  part_other : T.group n ≡ T.any_other
  part_other = skipped part_rows T.any_other refl

  -- tests of one name, and of several
  abbrev either : Bool × D.Group → D.Group → D.Group
  either row g = if row.0 then row.1 else g

  abbrev nest : List (Bool × D.Group) → D.Group → D.Group
  nest [] g = g
  nest (row ∷ rows) g = if row.0 then row.1 else nest rows g

  abbrev AreFalse : List (Bool × D.Group) → Type 0
  AreFalse [] = ⊤
  AreFalse (row ∷ rows) = (row.0 ≡ false) × AreFalse rows

  unnested : (rows : List (Bool × D.Group)) (g : D.Group) → AreFalse rows → nest rows g ≡ g
  unnested [] g h = refl
  unnested (row ∷ rows) g h = cond-false row.0 row.1 (nest rows g) h.0 ∙ unnested rows g h.1

  head_other : D.head_group n ≡ D.any_other
  head_other = unnested (
      (bytes_eq (codes "base") n, D.a_base) ∷ (is_one_of (codes "basefont bgsound link meta") n, D.a_link)
      ∷ (bytes_eq (codes "title") n, D.a_title) ∷ (bytes_eq (codes "noframes") n, D.a_noframes) ∷ (bytes_eq (codes "style") n, D.a_style)
      ∷ (bytes_eq (codes "noscript") n, D.a_noscript) ∷ (bytes_eq (codes "script") n, D.a_script) ∷ (bytes_eq (codes "template") n, D.a_template)
      ∷ (bytes_eq (codes "textarea") n, D.a_textarea) ∷ (bytes_eq (codes "xmp") n, D.an_example) ∷ (bytes_eq (codes "iframe") n, D.an_iframe)
      ∷ (bytes_eq (codes "noembed") n, D.a_noembed) ∷ (bytes_eq (codes "plaintext") n, D.a_plaintext) ∷ [])
      D.any_other (
        turned (codes "base") refl,
        (
          no (words (codes "basefont bgsound link meta")) refl,
          (
            turned (codes "title") refl,
            (
              turned (codes "noframes") refl,
              (
                turned (codes "style") refl,
                (
                  turned (codes "noscript") refl,
                  (
                    turned (codes "script") refl,
                    (
                      turned (codes "template") refl,
                      (
                        turned (codes "textarea") refl,
                        (turned (codes "xmp") refl, (turned (codes "iframe") refl, (turned (codes "noembed") refl, (turned (codes "plaintext") refl, tt)))),
                      ),
                    ),
                  ),
                ),
              ),
            ),
          ),
        ),
      )

  inner_other : D.inner_group n ≡ D.any_other
  inner_other = unnested (
      (bytes_eq (codes "button") n, D.a_button) ∷ (bytes_eq (codes "nobr") n, D.a_nobr) ∷ (is_one_of (codes "applet marquee object") n, D.a_mark)
      ∷ (bytes_eq (codes "br") n, D.a_break) ∷ (is_one_of (codes "area embed img keygen wbr") n, D.a_void) ∷ (bytes_eq (codes "image") n, D.an_image)
      ∷ (bytes_eq (codes "input") n, D.an_input) ∷ (is_one_of (codes "param source track") n, D.a_detail) ∷ (bytes_eq (codes "select") n, D.a_select)
      ∷ (bytes_eq (codes "option") n, D.an_option) ∷ (bytes_eq (codes "optgroup") n, D.an_option_group) ∷ (is_one_of (codes "rb rtc") n, D.a_ruby_base)
      ∷ (is_one_of (codes "rp rt") n, D.a_ruby_text) ∷ (bytes_eq (codes "math") n, D.a_math) ∷ (bytes_eq (codes "svg") n, D.an_svg) ∷ [])
      (D.head_group n) (
        turned (codes "button") refl,
        (
          turned (codes "nobr") refl,
          (
            no (words (codes "applet marquee object")) refl,
            (
              turned (codes "br") refl,
              (
                no (words (codes "area embed img keygen wbr")) refl,
                (
                  turned (codes "image") refl,
                  (
                    turned (codes "input") refl,
                    (
                      no (words (codes "param source track")) refl,
                      (
                        turned (codes "select") refl,
                        (
                          turned (codes "option") refl,
                          (
                            turned (codes "optgroup") refl,
                            (
                              no (words (codes "rb rtc")) refl,
                              (
                                no (words (codes "rp rt")) refl,
                                (turned (codes "math") refl, (turned (codes "svg") refl, tt)),
                              ),
                            ),
                          ),
                        ),
                      ),
                    ),
                  ),
                ),
              ),
            ),
          ),
        ),
      )
      ∙ head_other

  whole_other : D.group n ≡ D.any_other
  whole_other = unnested (
      (bytes_eq (codes "html") n, D.the_html) ∷ (bytes_eq (codes "head") n, D.the_head) ∷ (bytes_eq (codes "body") n, D.the_body)
      ∷ (bytes_eq (codes "p") n, D.a_paragraph) ∷ (bytes_eq (codes "a") n, D.an_anchor) ∷ (is_one_of D.format_names n, D.a_format)
      ∷ (bytes_eq (codes "table") n, D.a_table) ∷ (bytes_eq (codes "caption") n, D.a_caption) ∷ (bytes_eq (codes "colgroup") n, D.a_column_group)
      ∷ (bytes_eq (codes "col") n, D.a_column) ∷ (is_among table_sections n, D.a_table_body) ∷ (bytes_eq (codes "tr") n, D.a_row)
      ∷ (is_one_of (codes "td th") n, D.a_cell) ∷ (is_one_of D.block_names n, D.a_block) ∷ (is_among headings n, D.a_heading)
      ∷ (is_one_of (codes "pre listing") n, D.a_preformatted) ∷ (bytes_eq (codes "form") n, D.a_form) ∷ (bytes_eq (codes "li") n, D.an_item)
      ∷ (is_one_of (codes "dd dt") n, D.a_description) ∷ (bytes_eq (codes "hr") n, D.a_rule) ∷ (bytes_eq (codes "frameset") n, D.a_frameset)
      ∷ (bytes_eq (codes "frame") n, D.a_frame) ∷ [])
      (D.inner_group n) (
        turned (codes "html") refl,
        (
          turned (codes "head") refl,
          (
            turned (codes "body") refl,
            (
              turned (codes "p") refl,
              (
                turned (codes "a") refl,
                (
                  no (words D.format_names) refl,
                  (
                    turned (codes "table") refl,
                    (
                      turned (codes "caption") refl,
                      (
                        turned (codes "colgroup") refl,
                        (
                          turned (codes "col") refl,
                          (
                            no table_sections refl,
                            (
                              turned (codes "tr") refl,
                              (
                                no (words (codes "td th")) refl,
                                (
                                  no (words D.block_names) refl,
                                  (
                                    no headings refl,
                                    (
                                      no (words (codes "pre listing")) refl,
                                      (
                                        turned (codes "form") refl,
                                        (
                                          turned (codes "li") refl,
                                          (
                                            no (words (codes "dd dt")) refl,
                                            (
                                              turned (codes "hr") refl,
                                              (turned (codes "frameset") refl, (turned (codes "frame") refl, tt)),
                                            ),
                                          ),
                                        ),
                                      ),
                                    ),
                                  ),
                                ),
                              ),
                            ),
                          ),
                        ),
                      ),
                    ),
                  ),
                ),
              ),
            ),
          ),
        ),
      )
      ∙ inner_other

  both : (x y : Bool) → x ≡ false → y ≡ false → x ≡ y
  both x y h k = h ∙ sym k

  -- two tests of the partial builder that are one of the whole one
  both_or : (x y z : Bool) → x ≡ false → y ≡ false → z ≡ false → (x || y) ≡ z
  both_or x y z h k l = or_from x y h k ∙ sym l

  other_facts : Facts n
  other_facts =
      let g = part_other in
      record {
        twins = λ _. whole_other ∙ sym (ap twin g);
        lost = λ t. absurd (true≢false (sym t ∙ ap is_misplaced g));
        scope = λ _. both _ _ (no scope_bounds refl) (no (words scope_names) refl);
        paragraph = both _ _ (ap T.is_paragraph_group g) (no (words (codes "p")) refl);
        heading = both _ _ (ap T.is_heading_group g) (no headings refl);
        item = both _ _ (ap T.is_item_group g) (no (words (codes "li")) refl);
        description = both _ _ (ap T.is_description_group g) (no (words (codes "dd dt")) refl);
        implied = both _ _ (ap T.is_implied_group g) (no implied_ends refl);
        table = both _ _ (ap T.is_table_group g) (no (words (codes "table")) refl);
        caption = both _ _ (ap T.is_caption_group g) (no (words (codes "caption")) refl);
        column_group = both _ _ (ap T.is_column_group_group g) (no (words (codes "colgroup")) refl);
        table_body = both _ _ (ap T.is_table_body_group g) (no (words (codes "tbody tfoot thead")) refl);
        row = both _ _ (ap T.is_row_group g) (no (words (codes "tr")) refl);
        cell = both _ _ (ap T.is_cell_group g) (no (words (codes "td th")) refl);
        table_context = both_or _ _ _ (ap T.is_table_group g) (no (words (codes "html template")) refl) (no (words (codes "table template html")) refl);
        body_context = both_or _ _ _ (ap T.is_table_body_group g) (no (words (codes "html template")) refl) (no (words (codes "tbody tfoot thead template html")) refl);
        options = λ t. absurd (true≢false (sym t ∙ ap is_option_group g));
        line_break = both _ _ (ap is_break_group g) (no (words (codes "br")) refl);
        button = both _ _ (ap is_button_group g) (no (words (codes "button")) refl);
        row_context = both_or _ _ _ (ap T.is_row_group g) (no (words (codes "html template")) refl) (no (words (codes "tr template html")) refl);
      }

known_facts : (ws : List (List ℕ)) (n : List ℕ) → list_all agrees ws ≡ true → is_among ws n ≡ true → Facts n
known_facts [] n h k = absurd (true≢false (sym k))
known_facts (w ∷ ws) n h k =
    let two = and_parts (agrees w) (list_all agrees ws) h in
    elim (cases_Bool (bytes_eq n w)) [
      | inl y ↦ subst Facts (sym ((bytes_eq-Decides n w).0 y)) (facts_of w two.0)
      | inr m ↦ known_facts ws n two.1 (or_other (bytes_eq n w) (is_among ws n) k m)
    ]

pub facts : (n : List ℕ) → Facts n
facts n = elim (cases_Bool (is_among known n)) [
  | inl y ↦ known_facts known n known_agree y
  | inr m ↦ other_facts n m
]
