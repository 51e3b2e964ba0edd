-- The rules of text, and of `noscript` in the head: what is open there goes to its place once it is closed.
use Rattle.std.proofs.Common.{Bool, List, None, [], ap, false, if◌then◌else◌, refl, subst, sym, true, ◌==◌, ◌∙◌, ◌∷◌, ◌≡◌}
use Rattle.std.specs.Char.{is_ascii_whitespace}
use Rattle.std.proofs.lemmas.Bool.{and_right, cond_both}
use Rattle.tl_dom_spec.specs.Tags.{Attribute, Tag, is_foster_target, is_html}
use Rattle.tl_dom_spec.specs.Groups.{Group, a_break, a_link, a_noframes, a_noscript, a_style, the_head, the_html}
use Rattle.tl_dom_spec.specs.Marks.{marked}
use Rattle.tl_dom_spec.specs.Path.{Frame, Nodes, Path, and_comment, and_element, and_text, at_number, caught_up, foster_place, here, new_frame, no_nodes, node_of, on_top, place_in, popped, put, settled, settled_at, top, top_settled, with_nodes}
use Rattle.tl_dom_spec.specs.Builder.{Again, Builder, Done, Token, a_character, a_comment, a_doctype, a_start, add_attributes, an_end, appropriate_place, end_of_file, has_template, in_head_noscript, insert_and_pop_at, insert_character, parse_raw_text_at, text_mode, with_more, with_path}
use Rattle.tl_dom_spec.specs.Head.{html_start, in_head_noscript_step, noscript_closed, text_closed, text_step}
use Rattle.tl_dom_spec.proofs.SeatedPaths.{Rest, rest-more}
use Rattle.tl_dom_spec.proofs.Grounds.{Early, Ground, GroundOf, IsNoscript, heading, in_noscript, rest-settled, rest-stays, rest_tail}
use Rattle.tl_dom_spec.proofs.GroupNames.{IsTiedTag}
use Rattle.tl_dom_spec.proofs.SeatedBody.{IsSome_path, Stage, StageAfter, ground, if_after, in_text, is_table_group}
use Rattle.tl_dom_spec.proofs.SeatedRules.{IsTied}
use Rattle.tl_dom_spec.proofs.SeatedHead.{one_later, raw_target}

-- the current node is no target of foster parenting
untargeted : (is_fostering : Bool) (x : Frame) (p path : Path) → path ≡ x ∷ p → is_foster_target x.tag ≡ false → place_in is_fostering path ≡ here
untargeted is_fostering x p path e n =
    ap (λ (v : Bool). if v then foster_place path else here) (and_right is_fostering (is_foster_target (top path).tag) (ap (λ q. is_foster_target (top q).tag) e ∙ n))

-- text

some_settled : (x : Frame) (p : Path) → IsSome_path p → top_settled (x ∷ p) ≡ settled_at x.place (node_of x) p
some_settled x p s = subst (λ q. top_settled (x ∷ q) ≡ settled_at x.place (node_of x) q) (sym s.2) refl

module _ (b : Builder) (x : Frame) (p : Path) (e : b.path ≡ x ∷ p) (s : IsSome_path p) (m : b.mode ≡ text_mode) (h : is_html x.tag ≡ true) (t : is_foster_target x.tag ≡ false) (c : b.context ≡ None)
    (w : (nodes : Nodes) → GroundOf (settled (settled_at x.place nodes p)) b.active b.next b.form b.is_frameset_ok b.original b.original b.templates b.is_fostering b.has_head b.context) where
  text_put : (nodes : Nodes) → Stage (with_path b (put (appropriate_place b) nodes b.path))
  text_put nodes =
      subst (λ y. Stage (with_path b (put y nodes b.path))) (sym (untargeted b.is_fostering x p b.path e t))
      (in_text (with_nodes nodes (caught_up x)) p (ap (put here nodes) e) s m h t c w)

  text_closed-Ground : Ground (text_closed b)
  text_closed-Ground =
      subst (λ q. GroundOf q b.active b.next b.form b.is_frameset_ok b.original b.original b.templates b.is_fostering b.has_head b.context)
      (sym (ap popped e ∙ ap settled (some_settled x p s))) (w (node_of x))

  pub text_step-Stage : (token : Token) → StageAfter (text_step b token)
  text_step-Stage (a_character k) = text_put (and_text no_nodes (marked b.marks (k ∷ [])))
  text_step-Stage (a_start g own closes) = ground text_closed-Ground
  text_step-Stage (an_end g name) = ground text_closed-Ground
  text_step-Stage (a_comment bytes) = ground text_closed-Ground
  text_step-Stage (a_doctype own) = ground text_closed-Ground
  text_step-Stage end_of_file = ground text_closed-Ground

-- `noscript` in the head

module _ (b : Builder) (f : Frame) (rest : Path) (e : b.path ≡ f ∷ rest) (m : b.mode ≡ in_head_noscript) (n : IsNoscript f) (r : Rest here rest) (y : Early b) where
  noscript_place : place_in b.is_fostering b.path ≡ here
  noscript_place = untargeted b.is_fostering f rest b.path e n.target

  grown_noscript : (nodes : Nodes) → IsNoscript (with_nodes nodes (caught_up f))
  grown_noscript nodes = record { place = n.place; open_still = n.open_still; html = n.html; target = n.target }

  noscript_put : (nodes : Nodes) → Ground (with_path b (put (appropriate_place b) nodes b.path))
  noscript_put nodes =
      subst (λ x. Ground (with_path b (put x nodes b.path))) (sym noscript_place)
      (in_noscript (with_nodes nodes (caught_up f)) rest (ap (put here nodes) e) m (grown_noscript nodes) r y)

  noscript_alone : (t : Tag) → Ground (insert_and_pop_at (appropriate_place b) t b)
  noscript_alone t =
      let nodes : Nodes = and_element no_nodes t no_nodes in
      subst (λ x. Ground (insert_and_pop_at x t b)) (sym noscript_place)
      (in_noscript (with_nodes nodes (caught_up f)) rest (ap (put here nodes) e) m (grown_noscript nodes) r (one_later b y))

  noscript_raw : (g : Group) (t : Tag) → IsTiedTag g t → is_table_group g ≡ false → Stage (parse_raw_text_at (appropriate_place b) t b)
  noscript_raw g t k z =
      subst (λ x. Stage (parse_raw_text_at x t b)) (sym noscript_place)
      (in_text (new_frame b.next t here) (on_top caught_up b.path) refl (caught_up f, rest, ap (on_top caught_up) e) refl k.html (raw_target g t k z) y.page
      (λ nodes.
      let filled : Frame = caught_up (with_nodes nodes (caught_up f)) in
      in_noscript filled rest (ap (λ q. settled (settled_at here nodes (on_top caught_up q))) e ∙ rest-stays filled rest (filled ∷ rest) n.open_still) m
      (record { place = n.place; open_still = n.open_still; html = n.html; target = n.target }) r (one_later b y)))

  noscript_closed-Ground : Ground (noscript_closed b)
  noscript_closed-Ground =
      heading refl
      (subst (Rest here) (sym (ap popped e ∙ ap settled (rest_tail f here rest r ∙ ap (λ z. settled_at z (node_of f) rest) n.place))) (rest-settled here rest (node_of f) r)) y

  added_noscript : (more : List Attribute) → IsNoscript (if f.number == 1 then record f { tag = with_more more f.tag } else f)
  added_noscript more =
      cond_both (f.number == 1) (record f { tag = with_more more f.tag }) f IsNoscript (λ _. record { place = n.place; open_still = n.open_still; html = n.html; target = n.target }) (λ _. n)

  noscript_html : (t : Tag) → Stage (html_start b t)
  noscript_html t =
      cond_both (has_template b) b (add_attributes 1 t.attributes b) Stage (λ _. ground (in_noscript f rest e m n r y))
      (λ _. ground (in_noscript (if f.number == 1 then record f { tag = with_more t.attributes f.tag } else f) _
      (ap (at_number 1 (λ (g : Frame). record g { tag = with_more t.attributes g.tag })) e) m (added_noscript t.attributes) (rest-more [] [] 0 true 1 t.attributes r) y))

  noscript_stays : Stage b
  noscript_stays = ground (in_noscript f rest e m n r y)

  pub in_head_noscript_step-Stage : (token : Token) → IsTied token → StageAfter (in_head_noscript_step b token)
  in_head_noscript_step-Stage (a_character k) i =
      if_after (is_ascii_whitespace k) (Done (insert_character k b)) (Again (noscript_closed b)) (λ _. ground (noscript_put (and_text no_nodes (marked b.marks (k ∷ []))))) (λ _. ground noscript_closed-Ground)
  in_head_noscript_step-Stage (a_comment bytes) i = ground (noscript_put (and_comment no_nodes bytes))
  in_head_noscript_step-Stage (a_doctype own) i = noscript_stays
  in_head_noscript_step-Stage (a_start the_html t closes) i = noscript_html t
  in_head_noscript_step-Stage (a_start a_link t closes) i = ground (noscript_alone t)
  in_head_noscript_step-Stage (a_start a_noframes t closes) i = noscript_raw a_noframes t i refl
  in_head_noscript_step-Stage (a_start a_style t closes) i = noscript_raw a_style t i refl
  in_head_noscript_step-Stage (a_start the_head t closes) i = noscript_stays
  in_head_noscript_step-Stage (a_start a_noscript t closes) i = noscript_stays
  in_head_noscript_step-Stage (a_start g t closes) i = ground noscript_closed-Ground
  in_head_noscript_step-Stage (an_end a_noscript name) i = ground noscript_closed-Ground
  in_head_noscript_step-Stage (an_end a_break name) i = ground noscript_closed-Ground
  in_head_noscript_step-Stage (an_end g name) i = noscript_stays
  in_head_noscript_step-Stage end_of_file i = ground noscript_closed-Ground
