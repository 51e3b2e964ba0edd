-- The rules of the modes of templates, after the head where the body is settled, after the body, and of framesets keep what holds of a builder further in.
use Rattle.std.proofs.Common.{Bool, List, [], ap, arith, codes, false, refl, subst, sym, true, true≢false, ℕ, ◌||◌, ◌∙◌, ◌∷◌, ◌≡◌, ◌≤◌}
use Rattle.std.specs.Char.{is_ascii_whitespace}
use Rattle.std.proofs.lemmas.Bool.{and_right, cond_both}
use Rattle.tl_dom_spec.specs.Tags.{Tag, bare_tag, is_any, is_html}
use Rattle.tl_dom_spec.specs.Groups.{Group, a_base, a_caption, a_cell, a_column, a_column_group, a_frame, a_frameset, a_link, a_noframes, a_row, a_script, a_style, a_table_body, a_template, a_title, the_body, the_head, the_html}
use Rattle.tl_dom_spec.specs.Marks.{Marked}
use Rattle.tl_dom_spec.specs.Path.{Path, behind, elements, into_head, popped, top_settled}
use Rattle.tl_dom_spec.specs.Builder.{Builder, Done, Mode, Token, a_character, a_comment, a_doctype, a_start, after_after_body, after_after_frameset, after_body, after_frameset, after_head, an_end, appropriate_place, current_tag, end_of_file, frameset_not_ok, in_body, in_frameset, in_template, insert_character, insert_comment_at, insert_element, is_fragment, is_only, pop_current_node, switch_to}
use Rattle.tl_dom_spec.specs.Head.{after_head_step, body_implied, is_body_end}
use Rattle.tl_dom_spec.specs.Body.{in_body_step}
use Rattle.tl_dom_spec.specs.Outer.{after_after_body_step, after_after_frameset_step, after_body_step, after_frameset_step, back_in_body, frameset_closed, in_frameset_step, in_template_step, template_mode, template_turned}
use Rattle.tl_dom_spec.proofs.SeatedPaths.{Falls, Seated, Tagged, bodied, body-settled, cell, high, inside, note-Seated, off-Seated, rooted, settled-Seated}
use Rattle.tl_dom_spec.proofs.SeatedBuilders.{Deep, Fits, IsTemplateMode, alone_at-Deep, appropriate-Placed, insert_at-Deep, is_calm, on_path}
use Rattle.tl_dom_spec.proofs.GroupNames.{IsTiedTag, other_name}
use Rattle.tl_dom_spec.proofs.Grounds.{closed_off, deep, opened, popped_fit}
use Rattle.tl_dom_spec.proofs.SeatedBody.{Stage, StageAfter, alone-Deep, character-Deep, comment-Deep, done, ground, head_part-Stage, html_start-Deep, if_after, not_ok-Deep, raw_at-Stage, switch-Deep, template_at-Deep}
use Rattle.tl_dom_spec.proofs.SeatedRules.{Fell, IsTied, fall-Deep, in_body_step-Stage, template_end-Stage}

-- templates

template_fits : (low : ℕ) (tg : Tag) (own : Mode) (g : Group) → Fits low tg (template_mode g) own
template_fits low tg own a_caption = tt
template_fits low tg own a_column_group = tt
template_fits low tg own a_table_body = tt
template_fits low tg own a_column = tt
template_fits low tg own a_row = tt
template_fits low tg own a_cell = tt
template_fits low tg own g = tt

template_is : (g : Group) → IsTemplateMode (template_mode g)
template_is a_caption = tt
template_is a_column_group = tt
template_is a_table_body = tt
template_is a_column = tt
template_is a_row = tt
template_is a_cell = tt
template_is g = tt

abbrev is_no_frameset : Group → Bool
is_no_frameset the_html = true
is_no_frameset the_head = true
is_no_frameset a_template = true
is_no_frameset _ = false

module _ (low : ℕ) where
  turned-Deep : (g : Group) (b : Builder) → Deep low in_template b → Deep low (template_mode g) (template_turned (template_mode g) b)
  turned-Deep g b d = record {
    S = d.S;
    L = d.L;
    m = d.m;
    mode_is = refl;
    tg = d.tg;
    held = d.held;
    quiet = record {
      fits = template_fits low d.tg b.original g;
      templates_fit = (template_is g, popped_fit b.templates d.quiet.templates_fit);
      fostering = d.quiet.fostering;
      calm = λ e. absurd (true≢false (sym (d.quiet.calm e) ∙ ap is_calm d.mode_is));
      head = d.quiet.head;
      page = d.quiet.page;
      early = d.quiet.early;
    };
  }

  pub in_template_step-Stage : (b : Builder) (token : Token) → IsTied token → Deep low in_template b → StageAfter (in_template_step b token)
  in_template_step-Stage b (a_start a_base t closes) i d = head_part-Stage low in_template b a_base t tt i refl d
  in_template_step-Stage b (a_start a_link t closes) i d = head_part-Stage low in_template b a_link t tt i refl d
  in_template_step-Stage b (a_start a_noframes t closes) i d = head_part-Stage low in_template b a_noframes t tt i refl d
  in_template_step-Stage b (a_start a_script t closes) i d = head_part-Stage low in_template b a_script t tt i refl d
  in_template_step-Stage b (a_start a_style t closes) i d = head_part-Stage low in_template b a_style t tt i refl d
  in_template_step-Stage b (a_start a_template t closes) i d = head_part-Stage low in_template b a_template t tt i refl d
  in_template_step-Stage b (a_start a_title t closes) i d = head_part-Stage low in_template b a_title t tt i refl d
  in_template_step-Stage b (a_start g t closes) i d = done low (template_mode g) (turned-Deep g b d)
  in_template_step-Stage b (an_end a_template name) i d = template_end-Stage low in_template b d
  in_template_step-Stage b (an_end g name) i d = done low in_template d
  in_template_step-Stage b (a_character c) i d = in_body_step-Stage low in_template b (a_character c) tt i tt d
  in_template_step-Stage b (a_comment bytes) i d = in_body_step-Stage low in_template b (a_comment bytes) tt i tt d
  in_template_step-Stage b (a_doctype own) i d = in_body_step-Stage low in_template b (a_doctype own) tt i tt d
  in_template_step-Stage b end_of_file i d = in_body_step-Stage low in_template b end_of_file tt i tt d

  -- after the body

  pub noted-Deep : (md : Mode) (k : ℕ) (bytes : Marked (List ℕ)) (b : Builder) → Deep low md b → Deep low md (insert_comment_at (behind k) bytes b)
  noted-Deep md k bytes b d = on_path low md b _ d (note-Seated d.S d.L b.next b.is_frameset_ok k bytes d.held.seats)

  back-Stage : (md : Mode) (b : Builder) → Deep low md b → StageAfter (back_in_body b)
  back-Stage md b d = done low in_body (switch-Deep low md in_body b d tt (λ _. refl))

  pub after_body_step-Stage : (b : Builder) (token : Token) → IsTied token → Deep low after_body b → StageAfter (after_body_step b token)
  after_body_step-Stage b (a_character c) i d =
      if_after (is_ascii_whitespace c) (in_body_step b (a_character c)) (back_in_body b) (λ _. in_body_step-Stage low after_body b (a_character c) tt tt tt d) (λ _. back-Stage after_body b d)
  after_body_step-Stage b (a_comment bytes) i d = done low after_body (noted-Deep after_body 1 bytes b d)
  after_body_step-Stage b (a_doctype own) i d = done low after_body d
  after_body_step-Stage b (a_start the_html t closes) i d = done low after_body (html_start-Deep low after_body b t d)
  after_body_step-Stage b (a_start g t closes) i d = back-Stage after_body b d
  after_body_step-Stage b (an_end the_html name) i d =
      cond_both (is_fragment b) b (switch_to after_after_body b) Stage (λ _. done low after_body d)
      (λ _. done low after_after_body (switch-Deep low after_body after_after_body b d (subst (λ x. Fits low d.tg x b.original) d.mode_is d.quiet.fits) (λ _. refl)))
  after_body_step-Stage b (an_end g name) i d = back-Stage after_body b d
  after_body_step-Stage b end_of_file i d = done low after_body d

  pub after_after_body_step-Stage : (b : Builder) (token : Token) → IsTied token → Deep low after_after_body b → StageAfter (after_after_body_step b token)
  after_after_body_step-Stage b (a_character c) i d =
      if_after (is_ascii_whitespace c) (in_body_step b (a_character c)) (back_in_body b) (λ _. in_body_step-Stage low after_after_body b (a_character c) tt tt tt d) (λ _. back-Stage after_after_body b d)
  after_after_body_step-Stage b (a_comment bytes) i d = done low after_after_body (noted-Deep after_after_body 0 bytes b d)
  after_after_body_step-Stage b (a_doctype own) i d = done low after_after_body d
  after_after_body_step-Stage b (a_start the_html t closes) i d = done low after_after_body (html_start-Deep low after_after_body b t d)
  after_after_body_step-Stage b (a_start g t closes) i d = back-Stage after_after_body b d
  after_after_body_step-Stage b (an_end g name) i d = back-Stage after_after_body b d
  after_after_body_step-Stage b end_of_file i d = done low after_after_body d

  -- framesets

  frameset_Tagged : (ok : Bool) (t : Tag) → low ≤ 2 → IsTiedTag a_frameset t → Tagged low ok t
  frameset_Tagged ok t two k = record {
    no_root = and_right (is_html t) _ (other_name (codes "html head") is_no_frameset a_frameset t.name (refl, (refl, tt)) k.named refl);
    no_body = λ x. absurd (omega (arith, x, two));
    no_template = λ _. and_right (is_html t) _ (other_name (codes "template") is_no_frameset a_frameset t.name (refl, tt) k.named refl);
  }

  frameset-Deep : (md : Mode) (t : Tag) (b : Builder) → low ≤ 2 → IsTiedTag a_frameset t → Deep low md b → Deep low md (insert_element t b)
  frameset-Deep md t b two k d = insert_at-Deep low md (appropriate_place b) t b d (appropriate-Placed low md b d) (frameset_Tagged b.is_frameset_ok t two k)

  pop-falls : {S L : List ℕ} {N : ℕ} {ok : Bool} {from m : ℕ} {tg : Tag} (path : Path) → from ≤ 2 → is_only (elements path) ≡ false → Seated S L N ok from m tg path → Falls S L N ok from (popped path)
  pop-falls path two e (high t rest b i r) = absurd (omega (arith, two))
  pop-falls {S} {L} {N} {ok} path two e (bodied g h d b p i r a w k) =
      (1, 1, h.tag, omega arith, (λ x. absurd (omega (arith, x))), settled-Seated S L N ok (top_settled (g ∷ h ∷ d ∷ [])) (body-settled S L N ok g h d b p i r a k))
  pop-falls path two e (rooted h d r k n b) =
      absurd (true≢false (sym (ap is_only (opened h (d ∷ []) r.open_still ∙ ap (λ x. h ∷ x) (closed_off d [] b.closed))) ∙ e))
  pop-falls {S} {L} {N} {ok} {from} path two e (cell f p b l i s) = (from, _, _, omega arith, (λ x. x), settled-Seated S L N ok (top_settled (f ∷ p)) (off-Seated S L N ok f l.place s))
  pop-falls {S} {L} {N} {ok} {from} {m} {tg} path two e (inside f p l s) = (from, m, tg, omega arith, (λ x. x), settled-Seated S L N ok (top_settled (f ∷ p)) (off-Seated S L N ok f l.place s))

  frames_low : (md : Mode) (b : Builder) → (d : Deep low md b) → Fits low d.tg md b.original
  frames_low md b d = subst (λ x. Fits low d.tg x b.original) d.mode_is d.quiet.fits

  frameset_closed-Stage : (b : Builder) → is_only (elements b.path) ≡ false → Deep low in_frameset b → Stage (frameset_closed b)
  frameset_closed-Stage b e d =
      let outside : Builder = pop_current_node b in
      let r : Fell in_frameset outside = fall-Deep low in_frameset b (popped b.path) tt d (pop-falls b.path (frames_low in_frameset b d) e d.held.seats) in
      cond_both (is_fragment outside || is_any (codes "frameset") (current_tag outside)) outside (switch_to after_frameset outside) Stage (λ _. done r.0 in_frameset r.1)
      (λ _. done r.0 after_frameset (switch-Deep r.0 in_frameset after_frameset outside r.1 (subst (λ x. Fits r.0 r.1.tg x b.original) r.1.mode_is r.1.quiet.fits) (λ _. refl)))

  pub in_frameset_step-Stage : (b : Builder) (token : Token) → IsTied token → Deep low in_frameset b → StageAfter (in_frameset_step b token)
  in_frameset_step-Stage b (a_character c) i d = cond_both (is_ascii_whitespace c) (insert_character c b) b Stage (λ _. done low in_frameset (character-Deep low in_frameset c b d)) (λ _. done low in_frameset d)
  in_frameset_step-Stage b (a_comment bytes) i d = done low in_frameset (comment-Deep low in_frameset bytes b d)
  in_frameset_step-Stage b (a_doctype own) i d = done low in_frameset d
  in_frameset_step-Stage b (a_start the_html t closes) i d = done low in_frameset (html_start-Deep low in_frameset b t d)
  in_frameset_step-Stage b (a_start a_frameset t closes) i d = done low in_frameset (frameset-Deep in_frameset t b (frames_low in_frameset b d) i d)
  in_frameset_step-Stage b (a_start a_frame t closes) i d = done low in_frameset (alone-Deep low in_frameset t b d)
  in_frameset_step-Stage b (a_start a_noframes t closes) i d = head_part-Stage low in_frameset b a_noframes t tt i refl d
  in_frameset_step-Stage b (a_start g t closes) i d = done low in_frameset d
  in_frameset_step-Stage b (an_end a_frameset name) i d = cond_both (is_only (elements b.path)) b (frameset_closed b) Stage (λ _. done low in_frameset d) (λ e. frameset_closed-Stage b e d)
  in_frameset_step-Stage b (an_end g name) i d = done low in_frameset d
  in_frameset_step-Stage b end_of_file i d = done low in_frameset d

  pub after_frameset_step-Stage : (b : Builder) (token : Token) → IsTied token → Deep low after_frameset b → StageAfter (after_frameset_step b token)
  after_frameset_step-Stage b (a_character c) i d = cond_both (is_ascii_whitespace c) (insert_character c b) b Stage (λ _. done low after_frameset (character-Deep low after_frameset c b d)) (λ _. done low after_frameset d)
  after_frameset_step-Stage b (a_comment bytes) i d = done low after_frameset (comment-Deep low after_frameset bytes b d)
  after_frameset_step-Stage b (a_doctype own) i d = done low after_frameset d
  after_frameset_step-Stage b (a_start the_html t closes) i d = done low after_frameset (html_start-Deep low after_frameset b t d)
  after_frameset_step-Stage b (a_start a_noframes t closes) i d = head_part-Stage low after_frameset b a_noframes t tt i refl d
  after_frameset_step-Stage b (a_start g t closes) i d = done low after_frameset d
  after_frameset_step-Stage b (an_end the_html name) i d = done low after_after_frameset (switch-Deep low after_frameset after_after_frameset b d (frames_low after_frameset b d) (λ _. refl))
  after_frameset_step-Stage b (an_end g name) i d = done low after_frameset d
  after_frameset_step-Stage b end_of_file i d = done low after_frameset d

  pub after_after_frameset_step-Stage : (b : Builder) (token : Token) → IsTied token → Deep low after_after_frameset b → StageAfter (after_after_frameset_step b token)
  after_after_frameset_step-Stage b (a_character c) i d =
      if_after (is_ascii_whitespace c) (in_body_step b (a_character c)) (Done b) (λ _. in_body_step-Stage low after_after_frameset b (a_character c) tt tt tt d) (λ _. done low after_after_frameset d)
  after_after_frameset_step-Stage b (a_comment bytes) i d = done low after_after_frameset (noted-Deep after_after_frameset 0 bytes b d)
  after_after_frameset_step-Stage b (a_doctype own) i d = done low after_after_frameset d
  after_after_frameset_step-Stage b (a_start the_html t closes) i d = done low after_after_frameset (html_start-Deep low after_after_frameset b t d)
  after_after_frameset_step-Stage b (a_start a_noframes t closes) i d = head_part-Stage low after_after_frameset b a_noframes t tt i refl d
  after_after_frameset_step-Stage b (a_start g t closes) i d = done low after_after_frameset d
  after_after_frameset_step-Stage b (an_end g name) i d = done low after_after_frameset d
  after_after_frameset_step-Stage b end_of_file i d = done low after_after_frameset d

  -- after the head, where the body is settled

  body_Tagged : (ok : Bool) (t : Tag) → low ≤ 2 → IsTiedTag the_body t → Tagged low ok t
  body_Tagged ok t two k = record {
    no_root = and_right (is_html t) _ (other_name (codes "html head") is_no_frameset the_body t.name (refl, (refl, tt)) k.named refl);
    no_body = λ x. absurd (omega (arith, x, two));
    no_template = λ _. and_right (is_html t) _ (other_name (codes "template") is_no_frameset the_body t.name (refl, tt) k.named refl);
  }

  implied-Stage : (b : Builder) → low ≡ 1 → Deep low after_head b → StageAfter (body_implied b)
  implied-Stage b one d =
      let t : Tag = bare_tag (codes "body") in
      let put : Deep low after_head (insert_element t b) = insert_at-Deep low after_head (appropriate_place b) t b d (appropriate-Placed low after_head b d) (record { no_root = refl; no_body = λ x. absurd (omega (arith, x, one)); no_template = λ _. refl }) in
      done low in_body (switch-Deep low after_head in_body (insert_element t b) put tt (λ _. refl))

  pub after_head_step-Stage : (b : Builder) (token : Token) → IsTied token → Deep low after_head b → StageAfter (after_head_step b token)
  after_head_step-Stage b (a_character c) i d =
      if_after (is_ascii_whitespace c) (Done (insert_character c b)) (body_implied b) (λ _. done low after_head (character-Deep low after_head c b d)) (λ _. implied-Stage b (frames_low after_head b d) d)
  after_head_step-Stage b (a_comment bytes) i d = done low after_head (comment-Deep low after_head bytes b d)
  after_head_step-Stage b (a_doctype own) i d = done low after_head d
  after_head_step-Stage b (a_start the_html t closes) i d = done low after_head (html_start-Deep low after_head b t d)
  after_head_step-Stage b (a_start the_body t closes) i d =
      let one : low ≡ 1 = frames_low after_head b d in
      let put : Deep low after_head (insert_element t b) = insert_at-Deep low after_head (appropriate_place b) t b d (appropriate-Placed low after_head b d) (body_Tagged b.is_frameset_ok t (omega (arith, one)) i) in
      done low in_body (switch-Deep low after_head in_body (frameset_not_ok (insert_element t b)) (not_ok-Deep low after_head (insert_element t b) put) tt (λ _. refl))
  after_head_step-Stage b (a_start a_frameset t closes) i d =
      let one : low ≡ 1 = frames_low after_head b d in
      let put : Deep low after_head (insert_element t b) = frameset-Deep after_head t b (omega (arith, one)) i d in
      done low in_frameset (switch-Deep low after_head in_frameset (insert_element t b) put (omega (arith, one)) (λ _. refl))
  after_head_step-Stage b (a_start the_head t closes) i d = done low after_head d
  after_head_step-Stage b (a_start a_base t closes) i d = done low after_head (alone_at-Deep low after_head into_head t b d (frames_low after_head b d))
  after_head_step-Stage b (a_start a_link t closes) i d = done low after_head (alone_at-Deep low after_head into_head t b d (frames_low after_head b d))
  after_head_step-Stage b (a_start a_title t closes) i d = raw_at-Stage low after_head into_head a_title t b tt i refl refl (frames_low after_head b d) d
  after_head_step-Stage b (a_start a_noframes t closes) i d = raw_at-Stage low after_head into_head a_noframes t b tt i refl refl (frames_low after_head b d) d
  after_head_step-Stage b (a_start a_style t closes) i d = raw_at-Stage low after_head into_head a_style t b tt i refl refl (frames_low after_head b d) d
  after_head_step-Stage b (a_start a_script t closes) i d = raw_at-Stage low after_head into_head a_script t b tt i refl refl (frames_low after_head b d) d
  after_head_step-Stage b (a_start a_template t closes) i d = ground (deep (template_at-Deep low after_head into_head t b (frames_low after_head b d) i d))
  after_head_step-Stage b (a_start g t closes) i d = implied-Stage b (frames_low after_head b d) d
  after_head_step-Stage b (an_end a_template name) i d = template_end-Stage low after_head b d
  after_head_step-Stage b (an_end g name) i d = if_after (is_body_end g) (body_implied b) (Done b) (λ _. implied-Stage b (frames_low after_head b d) d) (λ _. done low after_head d)
  after_head_step-Stage b end_of_file i d = implied-Stage b (frames_low after_head b d) d
