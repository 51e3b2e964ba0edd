-- The rules of all modes further in, by the mode, and of foreign content: each keeps what holds of a builder there.
use Rattle.std.proofs.Common.{Bool, List, [], ap, arith, codes, false, if◌then◌else◌, inl, inr, map, not, refl, subst, sym, true, true≢false, ℕ, ◌==◌, ◌∙◌, ◌∷◌, ◌≡◌, ◌||◌}
use Rattle.std.specs.Char.{is_ascii_whitespace, to_ascii_lowercase}
use Rattle.std.specs.Str.{bytes_eq}
use Rattle.std.proofs.lemmas.Bool.{and_parts, cases_Bool, cond_both}
use Rattle.std.proofs.lemmas.Bool.Decides.{nat_tests}
use Rattle.tl_html_spec.specs.Balanced.{is_one_of}
use Rattle.tl_html_spec.specs.HtmlTokenizer.{replacement}
use Rattle.tl_dom_spec.specs.Tags.{Namespace, Tag, is_html, is_html_integration_point, is_text_integration_point}
use Rattle.tl_dom_spec.specs.Groups.{Group, a_break, a_cell, a_paragraph, group}
use Rattle.tl_dom_spec.specs.Path.{Frame, Path, elements, has_number, popped_through, top}
use Rattle.tl_dom_spec.specs.Builder.{Builder, Done, Mode, Token, a_character, a_comment, a_doctype, a_start, adjusted_current_node, adjusted_tag, after_after_body, after_after_frameset, after_body, after_frameset, after_head, an_end, before_head, before_html, end_of_file, frameset_not_ok, in_body, in_caption, in_cell, in_column_group, in_frameset, in_head, in_head_noscript, in_row, in_table, in_table_body, in_table_text, in_template, initial, insert_bytes, insert_character, text_mode}
use Rattle.tl_dom_spec.specs.Adjusted.{foreign_name, insert_foreign_element}
use Rattle.tl_dom_spec.specs.Dispatcher.{Found, breaks_out, broken_out, by_mode, dispatch, foreign_character, foreign_end, foreign_end_at, foreign_start, foreign_step, found_in, html_step, is_html_content, mode_step, nothing, the_frame}
use Rattle.tl_dom_spec.proofs.DispatcherRules.{first_of_three, no_html}
use Rattle.tl_dom_spec.proofs.SeatedPaths.{Seated, Sought, bar_names, bodied, cell, found, high, inside, past, popped_through-Seated, rooted}
use Rattle.tl_dom_spec.proofs.SeatedBuilders.{Deep, Fits, NoBar, on_path, while-Deep}
use Rattle.tl_dom_spec.proofs.Grounds.{closed_off, opened, seated_open}
use Rattle.tl_dom_spec.proofs.SeatedBody.{Stage, StageAfter, bytes-Deep, character-Deep, comment-Deep, done, foreign-Deep, not_ok-Deep}
use Rattle.tl_dom_spec.proofs.SeatedRules.{IsEndOf, IsTied, in_body_step-Stage}
use Rattle.tl_dom_spec.proofs.SeatedTables.{in_caption_step-Stage, in_cell_step-Stage, in_column_group_step-Stage, in_row_step-Stage, in_table_body_step-Stage, in_table_step-Stage, in_table_text_step-Stage}
use Rattle.tl_dom_spec.proofs.SeatedOuter.{after_after_body_step-Stage, after_after_frameset_step-Stage, after_body_step-Stage, after_frameset_step-Stage, after_head_step-Stage, in_frameset_step-Stage, in_template_step-Stage}

-- the rules of the mode

ends_in_body : (token : Token) → IsEndOf in_body token
ends_in_body (an_end a_cell name) = tt
ends_in_body (an_end g name) = tt
ends_in_body (a_start g t closes) = tt
ends_in_body (a_character c) = tt
ends_in_body (a_comment bytes) = tt
ends_in_body (a_doctype own) = tt
ends_in_body end_of_file = tt

pub fits_in : (low : ℕ) (md : Mode) (b : Builder) → (d : Deep low md b) → Fits low d.tg md b.original
fits_in low md b d = subst (λ x. Fits low d.tg x b.original) d.mode_is d.quiet.fits

mode_step-Stage : (low : ℕ) (md : Mode) (b : Builder) (token : Token) → IsTied token → Deep low md b → StageAfter (mode_step md b token)
mode_step-Stage low initial b token i d = absurd (fits_in low initial b d)
mode_step-Stage low before_html b token i d = absurd (fits_in low before_html b d)
mode_step-Stage low before_head b token i d = absurd (fits_in low before_head b d)
mode_step-Stage low in_head b token i d = absurd (fits_in low in_head b d)
mode_step-Stage low in_head_noscript b token i d = absurd (fits_in low in_head_noscript b d)
mode_step-Stage low text_mode b token i d = absurd (fits_in low text_mode b d)
mode_step-Stage low after_head b token i d = after_head_step-Stage low b token i d
mode_step-Stage low in_body b token i d = in_body_step-Stage low in_body b token tt i (ends_in_body token) d
mode_step-Stage low in_table b token i d = in_table_step-Stage low in_table b token tt tt refl tt i d
mode_step-Stage low in_table_text b token i d = in_table_text_step-Stage low b token d
mode_step-Stage low in_caption b token i d = in_caption_step-Stage low in_caption b token tt refl tt i d
mode_step-Stage low in_column_group b token i d = in_column_group_step-Stage low in_column_group b token refl tt i d
mode_step-Stage low in_table_body b token i d = in_table_body_step-Stage low in_table_body b token tt tt refl tt i d
mode_step-Stage low in_row b token i d = in_row_step-Stage low in_row b token tt tt refl tt i d
mode_step-Stage low in_cell b token i d = in_cell_step-Stage low in_cell b token refl tt i d (fits_in low in_cell b d)
mode_step-Stage low in_template b token i d = in_template_step-Stage low b token i d
mode_step-Stage low after_body b token i d = after_body_step-Stage low b token i d
mode_step-Stage low in_frameset b token i d = in_frameset_step-Stage low b token i d
mode_step-Stage low after_frameset b token i d = after_frameset_step-Stage low b token i d
mode_step-Stage low after_after_body b token i d = after_after_body_step-Stage low b token i d
mode_step-Stage low after_after_frameset b token i d = after_after_frameset_step-Stage low b token i d

-- the current node, where it is no HTML element

abbrev is_html_first : List Frame → Bool
is_html_first [] = true
is_html_first (f ∷ fs) = is_html f.tag

abbrev number_of : Found → ℕ
number_of (the_frame k) = k
number_of _ = 0

abbrev is_frame : Found → Bool
is_frame (the_frame k) = true
is_frame _ = false

same : (j k : ℕ) → j ≡ k → (j == k) ≡ true
same j k e = grind (arith, nat_tests, e)

module _ (S L : List ℕ) (N : ℕ) (ok : Bool) where
  bar_first : (f : Frame) (path : Path) → f.is_open ≡ true → is_html f.tag ≡ true → is_html_first (elements (f ∷ path)) ≡ false → ⊥
  bar_first f path o h n = true≢false (sym h ∙ (sym (ap is_html_first (opened f path o)) ∙ n))

  found-Sought : {low m : ℕ} {tg : Tag} (name : List ℕ) (k : ℕ) (path : Path) → found_in name (elements path) ≡ the_frame k → is_html_first (elements path) ≡ false → Seated S L N ok low m tg path →
      Sought S L N ok (λ n t. n == k) low m tg path
  found-Sought {tg} name k path e n (high t rest b i r) = absurd (bar_first t rest b.open_still (ap (λ x. is_html x) b.tag ∙ (and_parts (is_html tg) (is_one_of (codes "template") tg.name) i).0) n)
  found-Sought {tg} name k path e n (bodied g h d b p i r a w z) =
      absurd (bar_first g (h ∷ d ∷ []) b.open_still (ap (λ x. is_html x) b.tag ∙ (and_parts (is_html tg) (is_one_of (codes "body frameset") tg.name) i).0) n)
  found-Sought name k path e n (rooted h d r z x b) = absurd (bar_first h (d ∷ []) r.open_still (and_parts (is_html h.tag) (is_one_of (codes "html") h.tag.name) r.tag).0 n)
  found-Sought {tg} name k path e n (cell f p b l i s) = absurd (bar_first f p b.open_still (ap (λ x. is_html x) b.tag ∙ (and_parts (is_html tg) (is_one_of (codes "td th") tg.name) i).0) n)
  found-Sought name k path e n (inside f p l s) =
      elim (cases_Bool f.is_open) [
        | inr c ↦ past f p l (found-Sought name k p (sym (ap (found_in name) (closed_off f p c)) ∙ e) (sym (ap is_html_first (closed_off f p c)) ∙ n) s)
        | inl o ↦ (
            let t = seated_open s in
            let q : found_in name (f ∷ t.0 ∷ t.1) ≡ the_frame k = sym (ap (found_in name) (opened f p o ∙ ap (λ x. f ∷ x) t.2)) ∙ e in
            let own : Bool = bytes_eq (map to_ascii_lowercase f.tag.name) name in
            elim (cases_Bool own) [
              | inl y ↦ found f p l o (same f.number k (ap number_of
                  (sym (ap (λ (x : Bool). if x then the_frame f.number else (if is_html t.0.tag then by_mode else found_in name (t.0 ∷ t.1))) y) ∙ q))) s
              | inr y ↦ (
                  let q2 : (if is_html t.0.tag then by_mode else found_in name (t.0 ∷ t.1)) ≡ the_frame k =
                  sym (ap (λ (x : Bool). if x then the_frame f.number else (if is_html t.0.tag then by_mode else found_in name (t.0 ∷ t.1))) y) ∙ q in
                  elim (cases_Bool (is_html t.0.tag)) [
                    | inl z ↦ absurd (true≢false (sym (ap is_frame (sym (ap (λ (x : Bool). if x then by_mode else found_in name (t.0 ∷ t.1)) z) ∙ q2))))
                    | inr z ↦ past f p l (found-Sought name k p (ap (found_in name) t.2 ∙ (sym (ap (λ (x : Bool). if x then by_mode else found_in name (t.0 ∷ t.1)) z) ∙ q2))
                        (ap is_html_first t.2 ∙ z) s)
                  ])
            ])
      ]

  top_first : {low m : ℕ} {tg : Tag} (path : Path) → is_html (top path).tag ≡ false → Seated S L N ok low m tg path → is_html_first (elements path) ≡ false
  top_first path n (high t rest b i r) = ap is_html_first (opened t rest b.open_still) ∙ n
  top_first path n (bodied g h d b p i r a w z) = ap is_html_first (opened g (h ∷ d ∷ []) b.open_still) ∙ n
  top_first path n (rooted h d r z x b) = ap is_html_first (opened h (d ∷ []) r.open_still) ∙ n
  top_first path n (cell f p b l i s) = ap is_html_first (opened f p b.open_still) ∙ n
  top_first path n (inside f p l s) =
      elim (cases_Bool f.is_open) [
        | inl o ↦ ap is_html_first (opened f p o) ∙ n
        | inr c ↦ absurd (true≢false (sym (l.shut c) ∙ n))
      ]

abbrev is_outside : Tag → Bool
is_outside t = not (is_html t || is_html_integration_point t || is_text_integration_point t)

no_bar_outside : NoBar is_outside
no_bar_outside t e = ap not (first_of_three (is_html t) (is_html_integration_point t) (is_text_integration_point t) (and_parts (is_html t) (is_one_of bar_names t.name) e).0)

module _ (low : ℕ) (md : Mode) where
  html_step-Stage : (b : Builder) (token : Token) → IsTied token → Deep low md b → StageAfter (html_step b token)
  html_step-Stage b token i d = subst (λ x. StageAfter (mode_step x b token)) (sym d.mode_is) (mode_step-Stage low md b token i d)

  broken-Deep : (b : Builder) → Deep low md b → Deep low md (broken_out b)
  broken-Deep b d = while-Deep low md is_outside b no_bar_outside d

  foreign_character-Stage : (c : ℕ) (b : Builder) → Deep low md b → Stage (foreign_character c b)
  foreign_character-Stage c b d =
      cond_both (c == 0) (insert_bytes replacement b) (if is_ascii_whitespace c then insert_character c b else frameset_not_ok (insert_character c b)) Stage
      (λ _. done low md (bytes-Deep low md replacement b d))
      (λ _. cond_both (is_ascii_whitespace c) (insert_character c b) (frameset_not_ok (insert_character c b)) Stage (λ _. done low md (character-Deep low md c b d))
      (λ _. done low md (not_ok-Deep low md (insert_character c b) (character-Deep low md c b d))))

  foreign_start-Stage : (b : Builder) (g : Group) (t : Tag) (closes : Bool) → is_html (adjusted_current_node b) ≡ false → IsTied (a_start g t closes) → Deep low md b → StageAfter (foreign_start b g t closes)
  foreign_start-Stage b g t closes n i d =
      let space : Namespace = (adjusted_current_node b).space in
      let own : Tag = record t { name = foreign_name space t.name } in
      cond_both (breaks_out t) (html_step (broken_out b) (a_start g t closes)) (Done (insert_foreign_element space own closes b)) StageAfter
      (λ _. html_step-Stage (broken_out b) (a_start g t closes) i (broken-Deep b d))
      (λ _. done low md (foreign-Deep low md space own closes b n d))

  end_at-Stage : (r : Found) (b : Builder) (g : Group) (name : List ℕ) → found_in name (elements b.path) ≡ r → is_html (top b.path).tag ≡ false → group name ≡ g → Deep low md b → StageAfter (foreign_end_at r b g name)
  end_at-Stage (the_frame k) b g name e n i d =
      done low md (on_path low md b (popped_through (has_number k) b.path) d
      (popped_through-Seated d.S d.L b.next b.is_frameset_ok (λ x t. x == k) b.path
      (found-Sought d.S d.L b.next b.is_frameset_ok name k b.path e (top_first d.S d.L b.next b.is_frameset_ok b.path n d.held.seats) d.held.seats)))
  end_at-Stage by_mode b g name e n i d = html_step-Stage b (an_end g name) i d
  end_at-Stage nothing b g name e n i d = done low md d

  foreign_end-Stage : (b : Builder) (g : Group) (name : List ℕ) → is_html (top b.path).tag ≡ false → group name ≡ g → Deep low md b → StageAfter (foreign_end b g name)
  foreign_end-Stage b a_break name n i d = html_step-Stage (broken_out b) (an_end a_break name) i (broken-Deep b d)
  foreign_end-Stage b a_paragraph name n i d = html_step-Stage (broken_out b) (an_end a_paragraph name) i (broken-Deep b d)
  foreign_end-Stage b g name n i d = end_at-Stage (found_in name (elements b.path)) b g name refl n i d

  foreign_step-Stage : (b : Builder) (token : Token) → is_html_content (adjusted_current_node b) token ≡ false → IsTied token → Deep low md b → StageAfter (foreign_step b token)
  foreign_step-Stage b (a_character c) n i d = foreign_character-Stage c b d
  foreign_step-Stage b (a_comment bytes) n i d = done low md (comment-Deep low md bytes b d)
  foreign_step-Stage b (a_doctype own) n i d = done low md d
  foreign_step-Stage b (a_start g t closes) n i d = foreign_start-Stage b g t closes (no_html (adjusted_current_node b) g t closes n) i d
  foreign_step-Stage b (an_end g name) n i d = foreign_end-Stage b g name (sym (ap (λ c. is_html (adjusted_tag c b.path)) d.quiet.page) ∙ n) i d
  foreign_step-Stage b end_of_file n i d = html_step-Stage b end_of_file i d

  pub dispatch-Stage : (b : Builder) (token : Token) → IsTied token → Deep low md b → StageAfter (dispatch token b)
  dispatch-Stage b token i d =
      cond_both (is_html_content (adjusted_current_node b) token) (html_step b token) (foreign_step b token) StageAfter
      (λ _. html_step-Stage b token i d) (λ n. foreign_step-Stage b token n i d)
