-- The rules of the modes of tables keep what holds of a builder further in.
use Rattle.std.proofs.Common.{Bool, List, None, Option, Some, [], ap, arith, codes, false, inl, inr, not, refl, subst, suc, sym, true, true≢false, ℕ, ◌&&◌, ◌++◌, ◌==◌, ◌∙◌, ◌∷◌, ◌≡◌}
use Rattle.std.specs.Char.{is_ascii_whitespace}
use Rattle.std.specs.List.{list_all}
use Rattle.std.specs.Str.{bytes_eq}
use Rattle.std.proofs.lemmas.Bool.{and_from, and_parts, and_right, cond_both, false_from_ne_true}
use Rattle.std.proofs.lemmas.Slice.Eq.{bytes_eq-Decides}
use Rattle.tl_names.specs.Elements.{is_among, table_sections}
use Rattle.tl_html_spec.specs.Balanced.{is_one_of, words}
use Rattle.tl_dom_spec.specs.Tags.{Tag, bare_tag, has_value, is_any, is_html, is_implied, is_named, is_table, is_table_scope, no_tag}
use Rattle.tl_dom_spec.specs.Groups.{Group, a_caption, a_cell, a_column, a_column_group, a_form, a_frameset, a_row, a_script, a_style, a_table, a_table_body, a_template, an_input, group, the_body, the_html}
use Rattle.tl_dom_spec.specs.Path.{Frame, Path, Place, elements, has_tag, implied_closed, new_frame, popped, popped_through, popped_to}
use Rattle.tl_dom_spec.specs.Builder.{Again, Builder, Done, Entry, Mode, Outcome, Token, a_character, a_comment, a_doctype, a_start, after_after_body, after_after_frameset, after_body, after_frameset, after_head, an_end, appropriate_place, before_head, before_html, clear_stack_back_to, current_tag, end_of_file, fostering, has_in_table_scope, has_template, in_body, in_caption, in_cell, in_column_group, in_frameset, in_head, in_head_noscript, in_row, in_table, in_table_body, in_table_text, in_template, initial, insert_and_pop, insert_bytes, insert_character, insert_element, insert_marker, outcome_map, pop_current_node, switch_to, text_mode, with_path, without_last_marker}
use Rattle.tl_dom_spec.specs.Reset.{mode_of}
use Rattle.tl_dom_spec.specs.Body.{body_character, in_body_step}
use Rattle.tl_dom_spec.specs.Tables.{after_caption, after_cell, after_cell_in, after_column_group, after_row, after_table_body, body_characters, body_closed, body_opened, caption_closed, cell_closed, clear_stack_back_to_table_body_context, clear_stack_back_to_table_context, clear_stack_back_to_table_row_context, column_group_closed, in_caption_step, in_cell_step, in_column_group_step, in_row_step, in_table_body_step, in_table_step, in_table_text_step, is_caption, is_cell, is_in_column_group, is_row, is_table_body_context, is_table_context, is_table_row_context, is_text_in_table, no_bytes, pending_inserted, row_closed, row_opened, table_closed, table_end, table_form, table_start, with_foster_parenting}
use Rattle.tl_dom_spec.proofs.Allowed.{Each}
use Rattle.tl_dom_spec.proofs.Words.{any_word}
use Rattle.tl_dom_spec.proofs.SeatedPaths.{IsCell, IsHtml, Loose, Seated, Sought, bare, bodied, cell, cell_no_body, falling, found, high, inside, one_of_these, past, popped-Sought, popped_through-Seated, rooted, search-Sought, top-Sought, top-off, wider-Seated}
use Rattle.tl_dom_spec.proofs.SeatedBuilders.{Deep, Fits, IsPlain, IsTableMode, Kept, appropriate-Placed, insert-Deep, is_calm, later_listed, later_numbers, new-Loose, number_fresh, one_more, plain-Tagged, without_marker-kept}
use Rattle.tl_dom_spec.proofs.GroupNames.{IsTiedTag, name_of, other_name, plain_of}
use Rattle.tl_dom_spec.proofs.Grounds.{GroundOf, deep, headed, heading, in_noscript, reset}
use Rattle.tl_dom_spec.proofs.SeatedBody.{IsTaking, Stage, StageAfter, alone-Deep, any_not_implied, body_character-Deep, bytes-Deep, character-Deep, comment-Deep, done, form_alone, ground, head_part-Stage, html_start-Deep, if_after, in_text, marker-Deep, pushed_is, switch-Deep, under, under-Seated, unimplied}
use Rattle.tl_dom_spec.proofs.SeatedRules.{Fell, IsEndOf, IsNoCell, IsTied, NoRoot, bare-Deep, fall-Deep, file_ended-Stage, in_body_step-Stage, no_root_any, root_or_body, template_end-Stage}

-- foster parenting ends

unfostered : {path : Path} {entries : List Entry} {next : ℕ} {pointer : Option ℕ} {ok : Bool} {mode own : Mode} {templates : List Mode} {is_fostering has_head : Bool} {context : Option Tag} →
    GroundOf path entries next pointer ok mode own templates is_fostering has_head context → GroundOf path entries next pointer ok mode own templates false has_head context
unfostered (deep d) = deep (record {
  S = d.S;
  L = d.L;
  m = d.m;
  mode_is = d.mode_is;
  tg = d.tg;
  held = d.held;
  quiet = record {
    fits = d.quiet.fits;
    templates_fit = d.quiet.templates_fit;
    fostering = λ e. absurd (true≢false (sym e));
    calm = d.quiet.calm;
    head = d.quiet.head;
    page = d.quiet.page;
    early = d.quiet.early;
  };
})
unfostered (heading m r y) = heading m r (record { S = y.S; L = y.L; active = y.active; form = y.form; numbers = y.numbers; listed = y.listed; above = y.above; templates_fit = y.templates_fit; fostering = λ e. absurd (true≢false (sym e)); head = y.head; page = y.page })
unfostered (in_noscript f rest e m n r y) =
    in_noscript f rest e m n r (record { S = y.S; L = y.L; active = y.active; form = y.form; numbers = y.numbers; listed = y.listed; above = y.above; templates_fit = y.templates_fit; fostering = λ e. absurd (true≢false (sym e)); head = y.head; page = y.page })
unfostered (headed m r y) = headed m r (record { S = y.S; L = y.L; active = y.active; form = y.form; numbers = y.numbers; listed = y.listed; above = y.above; templates_fit = y.templates_fit; fostering = λ e. absurd (true≢false (sym e)); head = y.head; page = y.page })

unfostered-Stage : (b : Builder) → Stage b → Stage (fostering false b)
unfostered-Stage b (ground g) = ground (unfostered g)
unfostered-Stage b (in_text x p e s m h t c w) = in_text x p e s m h t c (λ nodes. unfostered (w nodes))

unfostered-after : (o : Outcome) → StageAfter o → StageAfter (outcome_map (fostering false) o)
unfostered-after (Done b) s = unfostered-Stage b s
unfostered-after (Again b) s = unfostered-Stage b s

-- tests

root_of : (text : List ℕ) (t : Tag) → Each (λ name. is_one_of text name ≡ true) (words (codes "html template")) → is_any (codes "html template") t ≡ true → is_any text t ≡ true
root_of text t k e = one_of_these [] [] 0 true (codes "html template") text t k e

named_no_root : (test : Group → Bool) (g : Group) (name : List ℕ) → Each (λ word. test (group word) ≡ true) (words (codes "html template body frameset")) → group name ≡ g → test g ≡ false → NoRoot (is_named name)
named_no_root test g name k e n t y =
    false_from_ne_true (is_named name t) (λ x.
    true≢false (sym (and_parts (is_html t) (is_one_of (codes "html template body frameset") t.name) y).1
    ∙ (ap (λ z. is_one_of (codes "html template body frameset") z) (sym ((bytes_eq-Decides name t.name).0 (and_parts (is_html t) (bytes_eq name t.name) x).1))
    ∙ other_name (codes "html template body frameset") test g name k e n)))

named_cell : (name : List ℕ) (t : Tag) → group name ≡ a_cell → is_named name t ≡ true → is_cell t ≡ true
named_cell name t k e =
    let y = and_parts (is_html t) (bytes_eq name t.name) e in
    and_from (is_html t) _ y.0 (ap (λ x. is_one_of (codes "td th") x) (sym ((bytes_eq-Decides name t.name).0 y.1)) ∙ name_of a_cell name k)

named_section : (name : List ℕ) (t : Tag) → group name ≡ a_table_body → is_named name t ≡ true → is_table_body_context t ≡ true
named_section name t k e =
    let y = and_parts (is_html t) (bytes_eq name t.name) e in
    and_from (is_html t) _ y.0
    (any_word (λ x. is_one_of (codes "tbody tfoot thead template html") x ≡ true) table_sections t.name (refl, (refl, (refl, tt)))
    (ap (λ x. is_among table_sections x) (sym ((bytes_eq-Decides name t.name).0 y.1)) ∙ name_of a_table_body name k))

cell_is_no : (names : List ℕ) (t : Tag) → Each (λ name. is_one_of (codes "td th") name ≡ false) (words names) → is_any names t ≡ true → IsCell t → ⊥
cell_is_no names t k e i =
    true≢false (sym i ∙ and_right (is_html t) _ (any_word (λ name. is_one_of (codes "td th") name ≡ false) (words names) t.name k (and_parts (is_html t) (is_one_of names t.name) e).1))

-- the cell that stays, as one that is looked for
cell_sought : {S L : List ℕ} {N : ℕ} {ok : Bool} {low m : ℕ} {tg : Tag} {path : Path} → IsCell tg → Seated S L N ok low m tg path →
    (n : ℕ) × (own : Tag) × (is_any (codes "html template body frameset") own ≡ true) × Sought S L N ok (λ _ t. is_cell t) low n own path
cell_sought {tg} c (high t rest b i r) = absurd (cell_is_no (codes "template") tg (refl, tt) i c)
cell_sought {S} {L} {N} {ok} {tg} c (bodied g h d b p i r a w e) = absurd (cell_no_body S L N ok tg c i)
cell_sought {tg} c (rooted h d r e n b) = absurd (cell_is_no (codes "html") tg (refl, tt) (subst IsHtml e r.tag) c)
cell_sought {S} {L} {N} {ok} c (cell f p b l i s) = let t = bare S L N ok s in (t.0, t.1, t.2, found f p l b.open_still (ap (λ x. is_cell x) b.tag ∙ i) t.3)
cell_sought c (inside f p l s) = let t = cell_sought c s in (t.0, t.1, t.2, past f p l t.3)

abbrev is_four : Group → Bool
is_four the_html = true
is_four the_body = true
is_four a_template = true
is_four a_frameset = true
is_four _ = false

module _ (low : ℕ) (md : Mode) where
  wild_ok : (b : Builder) → is_calm md ≡ false → Deep low md b → b.is_frameset_ok ≡ true → ⊥
  wild_ok b w d e = true≢false (sym (d.quiet.calm e) ∙ (ap is_calm d.mode_is ∙ w))

  pub fostered-Stage : (b : Builder) (token : Token) → is_calm md ≡ false → IsTaking md → IsTied token → IsEndOf md token → Deep low md b → StageAfter (with_foster_parenting b token)
  fostered-Stage b token w k i e d =
      unfostered-after (in_body_step (fostering true b) token)
      (in_body_step-Stage low md (fostering true b) token k i e (record {
        S = d.S;
        L = d.L;
        m = d.m;
        mode_is = d.mode_is;
        tg = d.tg;
        held = d.held;
        quiet = record {
          fits = d.quiet.fits;
          templates_fit = d.quiet.templates_fit;
          fostering = λ _. false_from_ne_true b.is_frameset_ok (wild_ok b w d);
          calm = d.quiet.calm;
          head = d.quiet.head;
          page = d.quiet.page;
          early = d.quiet.early;
        };
      }))

  -- a mode of a table is left for another one
  turned-Deep : (mode : Mode) (b : Builder) (path : Path) (entries : List Entry) (m : ℕ) (tg : Tag) → (d : Deep low md b) → Seated d.S d.L b.next b.is_frameset_ok low m tg path → Each (Kept d.S d.L) entries → Fits low tg mode b.original →
      is_calm md ≡ false → Deep low mode (record b { path = path; active = entries; mode = mode })
  turned-Deep mode b path entries m tg d s k f w = record {
    S = d.S;
    L = d.L;
    m = m;
    mode_is = refl;
    tg = tg;
    held = record { seats = s; active = k; form = d.held.form; numbers = d.held.numbers; listed = d.held.listed; above = d.held.above };
    quiet = record {
      fits = f;
      templates_fit = d.quiet.templates_fit;
      fostering = d.quiet.fostering;
      calm = λ e. absurd (wild_ok b w d e);
      head = d.quiet.head;
      page = d.quiet.page;
      early = d.quiet.early;
    };
  }

  -- the stack is cleared back to a context
  back-Fell : (test : Tag → Bool) (b : Builder) → ((t : Tag) → is_any (codes "html template") t ≡ true → test t ≡ true) → IsNoCell md → Deep low md b → Fell md (clear_stack_back_to test b)
  back-Fell test b k n e =
      let r = bare-Deep low md b n e in
      let d : Deep low md b = r.0 in
      fall-Deep low md b (popped_to (has_tag test) b.path) n d
      (falling d.S d.L b.next b.is_frameset_ok (λ _ t. not (test t)) b.path b.path (elim (root_or_body d.tg r.1) [ inl z ↦ inr (ap not (k d.tg z)) | inr z ↦ inl z ])
      (λ t z. ap not (k t (one_of_these [] [] 0 true (codes "html") (codes "html template") t (refl, tt) z))) d.held.seats)

  -- one is open in table scope
  scoped-Sought : (s : Tag → Bool) (b : Builder) → NoRoot s → has_in_table_scope s b ≡ true → (d : Deep low md b) → (n : ℕ) × (tg : Tag) × (is_any (codes "html template body frameset") tg ≡ true) × Sought d.S d.L b.next b.is_frameset_ok (λ _ t. s t) low n tg b.path
  scoped-Sought s b n e d =
      let t = bare d.S d.L b.next b.is_frameset_ok d.held.seats in (
        t.0,
        t.1,
        t.2,
        search-Sought d.S d.L b.next b.is_frameset_ok (λ _ t. s t) is_table_scope (record {
          bar = n t.1 t.2;
          root = λ x z. n x (one_of_these [] [] 0 true (codes "html") (codes "html template body frameset") x (refl, tt) z);
          bounds_root = λ x z. one_of_these [] [] 0 true (codes "html") (codes "html table template") x (refl, tt) z;
          bounds_bar = elim (root_or_body t.1 t.2) [ inl z ↦ inr (root_of (codes "html table template") t.1 (refl, (refl, tt)) z) | inr z ↦ inl z ];
        }) e t.3,
      )

  table_context : (t : Tag) → is_any (codes "html template") t ≡ true → is_table_context t ≡ true
  table_context t e = root_of (codes "table template html") t (refl, (refl, tt)) e

  body_context : (t : Tag) → is_any (codes "html template") t ≡ true → is_table_body_context t ≡ true
  body_context t e = root_of (codes "tbody tfoot thead template html") t (refl, (refl, tt)) e

  row_context : (t : Tag) → is_any (codes "html template") t ≡ true → is_table_row_context t ≡ true
  row_context t e = root_of (codes "tr template html") t (refl, (refl, tt)) e

  in_fell_at : (mode : Mode) {b : Builder} → Fell mode b → Stage b
  in_fell_at mode r = ground (deep r.1)

  -- a form in a table is empty
  table_form-Deep : (pointer : Option ℕ) (b : Builder) (t : Tag) → Deep low md b → Deep low md (table_form pointer b t)
  table_form-Deep (Some k) b t d = d
  table_form-Deep None b t d = cond_both (has_template b) b (record (insert_and_pop t b) { form = Some b.next }) (Deep low md) (λ _. d) (λ _. form_alone low md t b d)

  -- what is opened in a table
  turned_new : (mode : Mode) (t : Tag) (c : Builder) → is_calm md ≡ false → IsPlain t → ((l : ℕ) (tg : Tag) (own : Mode) → Fits l tg mode own) → Fell md c → Fell mode (switch_to mode (insert_element t c))
  turned_new mode t c w p f r =
      let put : Deep r.0 md (insert_element t c) = insert-Deep r.0 md t c p r.1 in
      (r.0, switch-Deep r.0 md mode (insert_element t c) put (f r.0 put.tg c.original) (λ e. absurd (true≢false (sym (put.quiet.calm e) ∙ (ap is_calm put.mode_is ∙ w)))))

  table_closed-Stage : (b : Builder) → is_calm md ≡ false → has_in_table_scope is_table b ≡ true → Deep low md b → Stage (table_closed b)
  table_closed-Stage b w e d =
      let ok : Bool = b.is_frameset_ok in
      let t = scoped-Sought is_table b (no_root_any (codes "table") (refl, (refl, (refl, (refl, tt))))) e d in
      let path : Path = popped_through (has_tag is_table) b.path in
      let c : Builder = with_path b path in
      let r = reset c d.S d.L b.next ok b.original d.quiet.head d.quiet.page d.quiet.templates_fit (popped_through-Seated d.S d.L b.next ok (λ _ x. is_table x) b.path t.3) in
      ground (deep (turned-Deep (mode_of c (elements path)) b path b.active r.0 r.1 d r.2 d.held.active r.3 w))

  body_opened-Fell : (b : Builder) (t : Tag) → IsNoCell md → is_calm md ≡ false → IsPlain t → Deep low md b → Fell in_table_body (body_opened b t)
  body_opened-Fell b t n w p d = turned_new in_table_body t (clear_stack_back_to_table_context b) w p (λ _ _ _. tt) (back-Fell is_table_context b table_context n d)

  table_start-Stage : (b : Builder) (g : Group) (t : Tag) (closes : Bool) → IsNoCell md → is_calm md ≡ false → IsTaking md → IsTiedTag g t → Deep low md b → StageAfter (table_start b g t closes)
  table_start-Stage b a_caption t closes n w k i d =
      let c : Builder = clear_stack_back_to_table_context b in
      let r = back-Fell is_table_context b table_context n d in
      in_fell_at in_caption (turned_new in_caption t (insert_marker c) w (plain_of a_caption t i refl) (λ _ _ _. tt) (r.0, marker-Deep r.0 md c r.1))
  table_start-Stage b a_column_group t closes n w k i d =
      in_fell_at in_column_group (turned_new in_column_group t (clear_stack_back_to_table_context b) w (plain_of a_column_group t i refl) (λ _ _ _. tt) (back-Fell is_table_context b table_context n d))
  table_start-Stage b a_column t closes n w k i d =
      in_fell_at in_column_group (turned_new in_column_group (bare_tag (codes "colgroup")) (clear_stack_back_to_table_context b) w refl (λ _ _ _. tt) (back-Fell is_table_context b table_context n d))
  table_start-Stage b a_table_body t closes n w k i d = in_fell_at in_table_body (body_opened-Fell b t n w (plain_of a_table_body t i refl) d)
  table_start-Stage b a_cell t closes n w k i d = in_fell_at in_table_body (body_opened-Fell b (bare_tag (codes "tbody")) n w refl d)
  table_start-Stage b a_row t closes n w k i d = in_fell_at in_table_body (body_opened-Fell b (bare_tag (codes "tbody")) n w refl d)
  table_start-Stage b a_table t closes n w k i d = if_after (has_in_table_scope is_table b) (Again (table_closed b)) (Done b) (λ e. table_closed-Stage b w e d) (λ _. done low md d)
  table_start-Stage b a_style t closes n w k i d = head_part-Stage low md b a_style t k i refl d
  table_start-Stage b a_script t closes n w k i d = head_part-Stage low md b a_script t k i refl d
  table_start-Stage b a_template t closes n w k i d = head_part-Stage low md b a_template t k i refl d
  table_start-Stage b an_input t closes n w k i d =
      if_after (has_value (codes "type") (codes "hidden") t.attributes) (Done (insert_and_pop t b)) (with_foster_parenting b (a_start an_input t closes)) (λ _. done low md (alone-Deep low md t b d)) (λ _. fostered-Stage b (a_start an_input t closes) w k i tt d)
  table_start-Stage b a_form t closes n w k i d = done low md (table_form-Deep b.form b t d)
  table_start-Stage b g t closes n w k i d = fostered-Stage b (a_start g t closes) w k i tt d

  table_end-Stage : (b : Builder) (g : Group) (name : List ℕ) → is_calm md ≡ false → IsTaking md → group name ≡ g → Deep low md b → StageAfter (table_end b g name)
  table_end-Stage b a_table name w k i d = cond_both (has_in_table_scope is_table b) (table_closed b) b Stage (λ e. table_closed-Stage b w e d) (λ _. done low md d)
  table_end-Stage b the_body name w k i d = done low md d
  table_end-Stage b a_caption name w k i d = done low md d
  table_end-Stage b a_column name w k i d = done low md d
  table_end-Stage b a_column_group name w k i d = done low md d
  table_end-Stage b the_html name w k i d = done low md d
  table_end-Stage b a_table_body name w k i d = done low md d
  table_end-Stage b a_cell name w k i d = done low md d
  table_end-Stage b a_row name w k i d = done low md d
  table_end-Stage b a_template name w k i d = template_end-Stage low md b d
  table_end-Stage b g name w k i d = fostered-Stage b (an_end g name) w k i tt d

  pub pend-Deep : (b : Builder) → IsTableMode md → is_calm md ≡ false → Deep low md b → Deep low in_table_text (record b { pending = []; original = b.mode; mode = in_table_text })
  pend-Deep b k w d = record {
    S = d.S;
    L = d.L;
    m = d.m;
    mode_is = refl;
    tg = d.tg;
    held = d.held;
    quiet = record {
      fits = subst IsTableMode (sym d.mode_is) k;
      templates_fit = d.quiet.templates_fit;
      fostering = d.quiet.fostering;
      calm = λ e. absurd (wild_ok b w d e);
      head = d.quiet.head;
      page = d.quiet.page;
      early = d.quiet.early;
    };
  }

  pub in_table_step-Stage : (b : Builder) (token : Token) → IsTableMode md → IsNoCell md → is_calm md ≡ false → IsTaking md → IsTied token → Deep low md b → StageAfter (in_table_step b token)
  in_table_step-Stage b (a_character c) m n w k i d =
      if_after (is_text_in_table (current_tag b)) (Again (record b { pending = []; original = b.mode; mode = in_table_text })) (with_foster_parenting b (a_character c)) (λ _. done low in_table_text (pend-Deep b m w d))
      (λ _. fostered-Stage b (a_character c) w k i tt d)
  in_table_step-Stage b (a_comment bytes) m n w k i d = done low md (comment-Deep low md bytes b d)
  in_table_step-Stage b (a_doctype own) m n w k i d = done low md d
  in_table_step-Stage b (a_start g t closes) m n w k i d = table_start-Stage b g t closes n w k i d
  in_table_step-Stage b (an_end g name) m n w k i d = table_end-Stage b g name w k i d
  in_table_step-Stage b end_of_file m n w k i d = file_ended-Stage low md b d

  -- characters that wait

  characters-Deep : (bytes : List ℕ) (b : Builder) → Deep low md b → Deep low md (body_characters bytes b)
  characters-Deep [] b d = d
  characters-Deep (c ∷ bytes) b d = characters-Deep bytes (body_character c b) (body_character-Deep low md c b d)

  fostering-Deep : (b : Builder) → is_calm md ≡ false → Deep low md b → Deep low md (fostering true b)
  fostering-Deep b w d = record {
    S = d.S;
    L = d.L;
    m = d.m;
    mode_is = d.mode_is;
    tg = d.tg;
    held = d.held;
    quiet = record {
      fits = d.quiet.fits;
      templates_fit = d.quiet.templates_fit;
      fostering = λ _. false_from_ne_true b.is_frameset_ok (wild_ok b w d);
      calm = d.quiet.calm;
      head = d.quiet.head;
      page = d.quiet.page;
      early = d.quiet.early;
    };
  }

  unfostering-Deep : (b : Builder) → Deep low md b → Deep low md (fostering false b)
  unfostering-Deep b d = record {
    S = d.S;
    L = d.L;
    m = d.m;
    mode_is = d.mode_is;
    tg = d.tg;
    held = d.held;
    quiet = record { fits = d.quiet.fits; templates_fit = d.quiet.templates_fit; fostering = λ e. absurd (true≢false (sym e)); calm = d.quiet.calm; head = d.quiet.head; page = d.quiet.page; early = d.quiet.early };
  }

  pending-Deep : (b : Builder) → is_calm md ≡ false → Deep low md b → Deep low md (pending_inserted b)
  pending-Deep b w d =
      cond_both (no_bytes b.pending) b _ (Deep low md) (λ _. d)
      (λ _. cond_both (list_all is_ascii_whitespace b.pending) (insert_bytes b.pending b) (fostering false (body_characters b.pending (fostering true b))) (Deep low md) (λ _. bytes-Deep low md b.pending b d)
      (λ _. unfostering-Deep (body_characters b.pending (fostering true b)) (characters-Deep b.pending (fostering true b) (fostering-Deep b w d))))

  -- captions

  caption_closed-Deep : (b : Builder) → is_calm md ≡ false → has_in_table_scope is_caption b ≡ true → Deep low md b → Deep low in_table (caption_closed b)
  caption_closed-Deep b w e d =
      let ok : Bool = b.is_frameset_ok in
      let t = scoped-Sought is_caption b (no_root_any (codes "caption") (refl, (refl, (refl, (refl, tt))))) e d in
      let s = popped_through-Seated d.S d.L b.next ok (λ _ x. is_caption x) (implied_closed no_tag b.path)
      (popped-Sought d.S d.L b.next ok (λ _ x. is_caption x) (λ _ x. is_implied x && not (no_tag x)) b.path b.path (λ _ x y. unimplied no_tag x (any_not_implied (codes "caption") x (refl, tt) y)) t.3) in
      turned-Deep in_table b _ (without_last_marker b.active) t.0 t.1 d s (without_marker-kept (Kept d.S d.L) b.active d.held.active) tt w

  after_caption-Stage : (b : Builder) → is_calm md ≡ false → Deep low md b → StageAfter (after_caption b)
  after_caption-Stage b w d = if_after (has_in_table_scope is_caption b) (Again (caption_closed b)) (Done b) (λ e. done low in_table (caption_closed-Deep b w e d)) (λ _. done low md d)

  pub in_caption_step-Stage : (b : Builder) (token : Token) → IsNoCell md → is_calm md ≡ false → IsTaking md → IsTied token → Deep low md b → StageAfter (in_caption_step b token)
  in_caption_step-Stage b (a_start a_caption t closes) n w k i d = after_caption-Stage b w d
  in_caption_step-Stage b (a_start a_column t closes) n w k i d = after_caption-Stage b w d
  in_caption_step-Stage b (a_start a_column_group t closes) n w k i d = after_caption-Stage b w d
  in_caption_step-Stage b (a_start a_table_body t closes) n w k i d = after_caption-Stage b w d
  in_caption_step-Stage b (a_start a_cell t closes) n w k i d = after_caption-Stage b w d
  in_caption_step-Stage b (a_start a_row t closes) n w k i d = after_caption-Stage b w d
  in_caption_step-Stage b (a_start g t closes) n w k i d = in_body_step-Stage low md b (a_start g t closes) k i tt d
  in_caption_step-Stage b (an_end a_caption name) n w k i d = cond_both (has_in_table_scope is_caption b) (caption_closed b) b Stage (λ e. done low in_table (caption_closed-Deep b w e d)) (λ _. done low md d)
  in_caption_step-Stage b (an_end a_table name) n w k i d = after_caption-Stage b w d
  in_caption_step-Stage b (an_end the_body name) n w k i d = done low md d
  in_caption_step-Stage b (an_end a_column name) n w k i d = done low md d
  in_caption_step-Stage b (an_end a_column_group name) n w k i d = done low md d
  in_caption_step-Stage b (an_end the_html name) n w k i d = done low md d
  in_caption_step-Stage b (an_end a_table_body name) n w k i d = done low md d
  in_caption_step-Stage b (an_end a_cell name) n w k i d = done low md d
  in_caption_step-Stage b (an_end a_row name) n w k i d = done low md d
  in_caption_step-Stage b (an_end g name) n w k i d = in_body_step-Stage low md b (an_end g name) k i tt d
  in_caption_step-Stage b (a_character c) n w k i d = in_body_step-Stage low md b (a_character c) k i tt d
  in_caption_step-Stage b (a_comment bytes) n w k i d = in_body_step-Stage low md b (a_comment bytes) k i tt d
  in_caption_step-Stage b (a_doctype own) n w k i d = in_body_step-Stage low md b (a_doctype own) k i tt d
  in_caption_step-Stage b end_of_file n w k i d = in_body_step-Stage low md b end_of_file k i tt d

  -- column groups

  column_closed-Deep : (b : Builder) → is_calm md ≡ false → is_in_column_group b ≡ true → Deep low md b → Deep low in_table (column_group_closed b)
  column_closed-Deep b w e d =
      let t = bare d.S d.L b.next b.is_frameset_ok d.held.seats in
      turned-Deep in_table b (popped b.path) b.active t.0 t.1 d
      (top-Sought d.S d.L b.next b.is_frameset_ok (λ _ x. is_any (codes "colgroup") x) (no_root_any (codes "colgroup") (refl, (refl, (refl, (refl, tt)))) t.1 t.2) e t.3) d.held.active tt w

  after_column-Stage : (b : Builder) → is_calm md ≡ false → Deep low md b → StageAfter (after_column_group b)
  after_column-Stage b w d = if_after (is_in_column_group b) (Again (column_group_closed b)) (Done b) (λ e. done low in_table (column_closed-Deep b w e d)) (λ _. done low md d)

  pub in_column_group_step-Stage : (b : Builder) (token : Token) → is_calm md ≡ false → IsTaking md → IsTied token → Deep low md b → StageAfter (in_column_group_step b token)
  in_column_group_step-Stage b (a_character c) w k i d =
      if_after (is_ascii_whitespace c) (Done (insert_character c b)) (after_column_group b) (λ _. done low md (character-Deep low md c b d)) (λ _. after_column-Stage b w d)
  in_column_group_step-Stage b (a_comment bytes) w k i d = done low md (comment-Deep low md bytes b d)
  in_column_group_step-Stage b (a_doctype own) w k i d = done low md d
  in_column_group_step-Stage b (a_start the_html t closes) w k i d = done low md (html_start-Deep low md b t d)
  in_column_group_step-Stage b (a_start a_column t closes) w k i d = done low md (alone-Deep low md t b d)
  in_column_group_step-Stage b (a_start a_template t closes) w k i d = head_part-Stage low md b a_template t k i refl d
  in_column_group_step-Stage b (a_start g t closes) w k i d = after_column-Stage b w d
  in_column_group_step-Stage b (an_end a_column_group name) w k i d = cond_both (is_in_column_group b) (column_group_closed b) b Stage (λ e. done low in_table (column_closed-Deep b w e d)) (λ _. done low md d)
  in_column_group_step-Stage b (an_end a_column name) w k i d = done low md d
  in_column_group_step-Stage b (an_end a_template name) w k i d = template_end-Stage low md b d
  in_column_group_step-Stage b (an_end g name) w k i d = after_column-Stage b w d
  in_column_group_step-Stage b end_of_file w k i d = file_ended-Stage low md b d

  -- table bodies and rows

  -- an element of a table in scope is cleared back to, and popped
  cleared-Deep : (mode : Mode) (s ctx : Tag → Bool) (b : Builder) → NoRoot s → ((t : Tag) → s t ≡ true → ctx t ≡ true) → ((tg : Tag) → Fits low tg mode b.original) → is_calm md ≡ false → has_in_table_scope s b ≡ true → Deep low md b →
      Deep low mode (switch_to mode (pop_current_node (clear_stack_back_to ctx b)))
  cleared-Deep mode s ctx b n c f w e d =
      let ok : Bool = b.is_frameset_ok in
      let t = scoped-Sought s b n e d in
      turned-Deep mode b (popped (popped_to (has_tag ctx) b.path)) b.active t.0 t.1 d
      (top-off d.S d.L b.next ok (popped_to (has_tag ctx) b.path) (popped-Sought d.S d.L b.next ok (λ _ x. s x) (λ _ x. not (ctx x)) b.path b.path (λ _ x y. ap not (c x y)) t.3)) d.held.active (f t.1) w

  section_closed-Deep : (b : Builder) → is_calm md ≡ false → has_in_table_scope (is_any (codes "tbody tfoot thead")) b ≡ true → Deep low md b → Deep low in_table (body_closed b)
  section_closed-Deep b w e d =
      cleared-Deep in_table (λ t. is_any (codes "tbody tfoot thead") t) is_table_body_context b (no_root_any (codes "tbody tfoot thead") (refl, (refl, (refl, (refl, tt)))))
      (λ t y. one_of_these [] [] 0 true (codes "tbody tfoot thead") (codes "tbody tfoot thead template html") t (refl, (refl, (refl, tt))) y) (λ _. tt) w e d

  after_section-Stage : (b : Builder) → is_calm md ≡ false → Deep low md b → StageAfter (after_table_body b)
  after_section-Stage b w d = if_after (has_in_table_scope (is_any (codes "tbody tfoot thead")) b) (Again (body_closed b)) (Done b) (λ e. done low in_table (section_closed-Deep b w e d)) (λ _. done low md d)

  row_opened-Fell : (b : Builder) (t : Tag) → IsNoCell md → is_calm md ≡ false → IsPlain t → Deep low md b → Fell in_row (row_opened b t)
  row_opened-Fell b t n w p d = turned_new in_row t (clear_stack_back_to_table_body_context b) w p (λ _ _ _. tt) (back-Fell is_table_body_context b body_context n d)

  pub in_table_body_step-Stage : (b : Builder) (token : Token) → IsTableMode md → IsNoCell md → is_calm md ≡ false → IsTaking md → IsTied token → Deep low md b → StageAfter (in_table_body_step b token)
  in_table_body_step-Stage b (a_start a_row t closes) m n w k i d = in_fell_at in_row (row_opened-Fell b t n w (plain_of a_row t i refl) d)
  in_table_body_step-Stage b (a_start a_cell t closes) m n w k i d = in_fell_at in_row (row_opened-Fell b (bare_tag (codes "tr")) n w refl d)
  in_table_body_step-Stage b (a_start a_caption t closes) m n w k i d = after_section-Stage b w d
  in_table_body_step-Stage b (a_start a_column t closes) m n w k i d = after_section-Stage b w d
  in_table_body_step-Stage b (a_start a_column_group t closes) m n w k i d = after_section-Stage b w d
  in_table_body_step-Stage b (a_start a_table_body t closes) m n w k i d = after_section-Stage b w d
  in_table_body_step-Stage b (a_start g t closes) m n w k i d = table_start-Stage b g t closes n w k i d
  in_table_body_step-Stage b (an_end a_table_body name) m n w k i d =
      cond_both (has_in_table_scope (is_named name) b) (body_closed b) b Stage
      (λ e. done low in_table (cleared-Deep in_table (is_named name) is_table_body_context b (named_no_root is_four a_table_body name (refl, (refl, (refl, (refl, tt)))) i refl) (λ t y. named_section name t i y) (λ _. tt) w e d)) (λ _. done low md d)
  in_table_body_step-Stage b (an_end a_table name) m n w k i d = after_section-Stage b w d
  in_table_body_step-Stage b (an_end g name) m n w k i d = table_end-Stage b g name w k i d
  in_table_body_step-Stage b (a_character c) m n w k i d = in_table_step-Stage b (a_character c) m n w k i d
  in_table_body_step-Stage b (a_comment bytes) m n w k i d = in_table_step-Stage b (a_comment bytes) m n w k i d
  in_table_body_step-Stage b (a_doctype own) m n w k i d = in_table_step-Stage b (a_doctype own) m n w k i d
  in_table_body_step-Stage b end_of_file m n w k i d = in_table_step-Stage b end_of_file m n w k i d

  row_closed-Deep : (b : Builder) → is_calm md ≡ false → has_in_table_scope is_row b ≡ true → Deep low md b → Deep low in_table_body (row_closed b)
  row_closed-Deep b w e d =
      cleared-Deep in_table_body is_row is_table_row_context b (no_root_any (codes "tr") (refl, (refl, (refl, (refl, tt)))))
      (λ t y. one_of_these [] [] 0 true (codes "tr") (codes "tr template html") t (refl, tt) y) (λ _. tt) w e d

  after_row-Stage : (b : Builder) → is_calm md ≡ false → Deep low md b → StageAfter (after_row b)
  after_row-Stage b w d = if_after (has_in_table_scope is_row b) (Again (row_closed b)) (Done b) (λ e. done low in_table_body (row_closed-Deep b w e d)) (λ _. done low md d)

  -- a cell, which stays
  cell_opened-Fell : (t : Tag) (c : Builder) → is_calm md ≡ false → IsTiedTag a_cell t → Fell md c → Fell in_cell (switch_to in_cell (insert_marker (insert_element t c)))
  cell_opened-Fell t c w i r =
      let d : Deep r.0 md c = r.1 in
      let ok : Bool = c.is_frameset_ok in
      let N : ℕ = c.next in
      let h = d.held in
      let place : Place = appropriate_place c in
      let f : Frame = new_frame N t place in
      let is_one : IsCell t = and_from (is_html t) _ i.html (name_of a_cell t.name i.named) in
      let loose : Loose d.S d.L (suc N) ok r.0 f =
      new-Loose d.S d.L r.0 N ok t place h.above (appropriate-Placed r.0 md c d) (plain-Tagged r.0 ok t (plain_of a_cell t i refl)) (λ x. absurd (number_fresh d.S N h.numbers x)) in
      let s = under-Seated place (wider-Seated d.S d.L N ok d.S d.L (suc N) ok (one_more d.S d.L N ok) h.seats) in (
        r.0,
        record {
          S = d.S;
          L = d.L;
          m = N;
          mode_is = refl;
          tg = t;
          held = record {
            seats = subst (Seated d.S d.L (suc N) ok r.0 N t) (sym (pushed_is place f c.path))
                (cell f (under place c.path) (record { number = refl; above = h.above; below = omega arith; open_still = refl; tag = refl; bars = number_fresh d.S N h.numbers }) loose is_one s);
            active = (tt, h.active);
            form = h.form;
            numbers = later_numbers d.S N h.numbers;
            listed = later_listed d.L N h.listed;
            above = omega (arith, h.above);
          };
          quiet = record {
            fits = is_one;
            templates_fit = d.quiet.templates_fit;
            fostering = d.quiet.fostering;
            calm = λ e. absurd (true≢false (sym (d.quiet.calm e) ∙ (ap is_calm d.mode_is ∙ w)));
            head = d.quiet.head;
            page = d.quiet.page;
            early = d.quiet.early;
          };
        },
      )

  pub in_row_step-Stage : (b : Builder) (token : Token) → IsTableMode md → IsNoCell md → is_calm md ≡ false → IsTaking md → IsTied token → Deep low md b → StageAfter (in_row_step b token)
  in_row_step-Stage b (a_start a_cell t closes) m n w k i d = in_fell_at in_cell (cell_opened-Fell t (clear_stack_back_to_table_row_context b) w i (back-Fell is_table_row_context b row_context n d))
  in_row_step-Stage b (a_start a_caption t closes) m n w k i d = after_row-Stage b w d
  in_row_step-Stage b (a_start a_column t closes) m n w k i d = after_row-Stage b w d
  in_row_step-Stage b (a_start a_column_group t closes) m n w k i d = after_row-Stage b w d
  in_row_step-Stage b (a_start a_table_body t closes) m n w k i d = after_row-Stage b w d
  in_row_step-Stage b (a_start a_row t closes) m n w k i d = after_row-Stage b w d
  in_row_step-Stage b (a_start g t closes) m n w k i d = table_start-Stage b g t closes n w k i d
  in_row_step-Stage b (an_end a_row name) m n w k i d = cond_both (has_in_table_scope is_row b) (row_closed b) b Stage (λ e. done low in_table_body (row_closed-Deep b w e d)) (λ _. done low md d)
  in_row_step-Stage b (an_end a_table name) m n w k i d = after_row-Stage b w d
  in_row_step-Stage b (an_end a_table_body name) m n w k i d = if_after (has_in_table_scope (is_named name) b) (after_row b) (Done b) (λ _. after_row-Stage b w d) (λ _. done low md d)
  in_row_step-Stage b (an_end g name) m n w k i d = table_end-Stage b g name w k i d
  in_row_step-Stage b (a_character c) m n w k i d = in_table_step-Stage b (a_character c) m n w k i d
  in_row_step-Stage b (a_comment bytes) m n w k i d = in_table_step-Stage b (a_comment bytes) m n w k i d
  in_row_step-Stage b (a_doctype own) m n w k i d = in_table_step-Stage b (a_doctype own) m n w k i d
  in_row_step-Stage b end_of_file m n w k i d = in_table_step-Stage b end_of_file m n w k i d

  -- a cell is closed

  cell_closed-Deep : (test : Tag → Bool) (b : Builder) (n : ℕ) (tg : Tag) → ((t : Tag) → test t ≡ true → is_implied t ≡ false) → is_calm md ≡ false → (d : Deep low md b) → Sought d.S d.L b.next b.is_frameset_ok (λ _ t. test t) low n tg b.path → Deep low in_row (cell_closed test b)
  cell_closed-Deep test b n tg y w d t =
      let ok : Bool = b.is_frameset_ok in
      turned-Deep in_row b _ (without_last_marker b.active) n tg d
      (popped_through-Seated d.S d.L b.next ok (λ _ x. test x) (implied_closed no_tag b.path) (popped-Sought d.S d.L b.next ok (λ _ x. test x) (λ _ x. is_implied x && not (no_tag x)) b.path b.path (λ _ x z. unimplied no_tag x (y x z)) t))
      (without_marker-kept (Kept d.S d.L) b.active d.held.active) tt w

  cell_implied : (t : Tag) → is_cell t ≡ true → is_implied t ≡ false
  cell_implied t e = any_not_implied (codes "td th") t (refl, (refl, tt)) e

  after_cell-Stage : (b : Builder) → is_calm md ≡ false → Deep low md b → StageAfter (after_cell b)
  after_cell-Stage b w d =
      if_after (has_in_table_scope is_cell b) (Again (cell_closed is_cell b)) (Done b)
      (λ e. let t = scoped-Sought is_cell b (no_root_any (codes "td th") (refl, (refl, (refl, (refl, tt))))) e d in done low in_row (cell_closed-Deep is_cell b t.0 t.1 cell_implied w d t.3)) (λ _. done low md d)

  after_cell_in-Stage : (name : List ℕ) (b : Builder) → is_calm md ≡ false → (d : Deep low md b) → IsCell d.tg → StageAfter (after_cell_in name b)
  after_cell_in-Stage name b w d c =
      if_after (has_in_table_scope (is_named name) b) (Again (cell_closed is_cell b)) (Done b)
      (λ _. let t = cell_sought c d.held.seats in done low in_row (cell_closed-Deep is_cell b t.0 t.1 cell_implied w d t.3)) (λ _. done low md d)

  pub in_cell_step-Stage : (b : Builder) (token : Token) → is_calm md ≡ false → IsTaking md → IsTied token → (d : Deep low md b) → IsCell d.tg → StageAfter (in_cell_step b token)
  in_cell_step-Stage b (a_start a_caption t closes) w k i d c = after_cell-Stage b w d
  in_cell_step-Stage b (a_start a_column t closes) w k i d c = after_cell-Stage b w d
  in_cell_step-Stage b (a_start a_column_group t closes) w k i d c = after_cell-Stage b w d
  in_cell_step-Stage b (a_start a_table_body t closes) w k i d c = after_cell-Stage b w d
  in_cell_step-Stage b (a_start a_cell t closes) w k i d c = after_cell-Stage b w d
  in_cell_step-Stage b (a_start a_row t closes) w k i d c = after_cell-Stage b w d
  in_cell_step-Stage b (a_start g t closes) w k i d c = in_body_step-Stage low md b (a_start g t closes) k i tt d
  in_cell_step-Stage b (an_end a_cell name) w k i d c =
      cond_both (has_in_table_scope (is_named name) b) (cell_closed (is_named name) b) b Stage
      (λ e. let t = scoped-Sought (is_named name) b (named_no_root is_four a_cell name (refl, (refl, (refl, (refl, tt)))) i refl) e d in
      done low in_row (cell_closed-Deep (is_named name) b t.0 t.1 (λ x y. cell_implied x (named_cell name x i y)) w d t.3)) (λ _. done low md d)
  in_cell_step-Stage b (an_end the_body name) w k i d c = done low md d
  in_cell_step-Stage b (an_end a_caption name) w k i d c = done low md d
  in_cell_step-Stage b (an_end a_column name) w k i d c = done low md d
  in_cell_step-Stage b (an_end a_column_group name) w k i d c = done low md d
  in_cell_step-Stage b (an_end the_html name) w k i d c = done low md d
  in_cell_step-Stage b (an_end a_table name) w k i d c = after_cell_in-Stage name b w d c
  in_cell_step-Stage b (an_end a_table_body name) w k i d c = after_cell_in-Stage name b w d c
  in_cell_step-Stage b (an_end a_row name) w k i d c = after_cell_in-Stage name b w d c
  in_cell_step-Stage b (an_end g name) w k i d c = in_body_step-Stage low md b (an_end g name) k i tt d
  in_cell_step-Stage b (a_character x) w k i d c = in_body_step-Stage low md b (a_character x) k i tt d
  in_cell_step-Stage b (a_comment bytes) w k i d c = in_body_step-Stage low md b (a_comment bytes) k i tt d
  in_cell_step-Stage b (a_doctype own) w k i d c = in_body_step-Stage low md b (a_doctype own) k i tt d
  in_cell_step-Stage b end_of_file w k i d c = in_body_step-Stage low md b end_of_file k i tt d

-- pending characters

pended-Fits : (low : ℕ) (tg : Tag) (mode own : Mode) → IsTableMode mode → Fits low tg mode own
pended-Fits low tg in_table own k = tt
pended-Fits low tg in_table_body own k = tt
pended-Fits low tg in_row own k = tt
pended-Fits low tg initial own k = absurd k
pended-Fits low tg before_html own k = absurd k
pended-Fits low tg before_head own k = absurd k
pended-Fits low tg in_head own k = absurd k
pended-Fits low tg in_head_noscript own k = absurd k
pended-Fits low tg after_head own k = absurd k
pended-Fits low tg in_body own k = absurd k
pended-Fits low tg text_mode own k = absurd k
pended-Fits low tg in_table_text own k = absurd k
pended-Fits low tg in_caption own k = absurd k
pended-Fits low tg in_column_group own k = absurd k
pended-Fits low tg in_cell own k = absurd k
pended-Fits low tg in_template own k = absurd k
pended-Fits low tg after_body own k = absurd k
pended-Fits low tg in_frameset own k = absurd k
pended-Fits low tg after_frameset own k = absurd k
pended-Fits low tg after_after_body own k = absurd k
pended-Fits low tg after_after_frameset own k = absurd k

waited-Stage : (low : ℕ) (b : Builder) → Deep low in_table_text b → Stage (switch_to b.original (pending_inserted b))
waited-Stage low b d =
    let e : Deep low in_table_text (pending_inserted b) = pending-Deep low in_table_text b refl d in
    let own : IsTableMode b.original = subst (λ x. Fits low d.tg x b.original) d.mode_is d.quiet.fits in
    done low b.original (switch-Deep low in_table_text b.original (pending_inserted b) e (pended-Fits low e.tg b.original (pending_inserted b).original own)
    (λ x. absurd (true≢false (sym (e.quiet.calm x) ∙ ap is_calm e.mode_is))))

pub in_table_text_step-Stage : (low : ℕ) (b : Builder) (token : Token) → Deep low in_table_text b → StageAfter (in_table_text_step b token)
in_table_text_step-Stage low b (a_character c) d = cond_both (c == 0) b (record b { pending = b.pending ++ c ∷ [] }) Stage (λ _. done low in_table_text d) (λ _. done low in_table_text d)
in_table_text_step-Stage low b (a_start g t closes) d = waited-Stage low b d
in_table_text_step-Stage low b (an_end g name) d = waited-Stage low b d
in_table_text_step-Stage low b (a_comment bytes) d = waited-Stage low b d
in_table_text_step-Stage low b (a_doctype own) d = waited-Stage low b d
in_table_text_step-Stage low b end_of_file d = waited-Stage low b d
