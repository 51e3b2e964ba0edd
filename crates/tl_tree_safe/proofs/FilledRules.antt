-- What the rules do to a builder whose nodes are changed all alike: they do it to the builder, and then they are changed.
use Rattle.std.proofs.Common.{Bool, List, None, Option, Some, ap, ap₂, codes, false, if◌then◌else◌, refl, true, ℕ, ◌∙◌, ◌∷◌, ◌≡◌}
use Rattle.std.specs.Prelude.{option_map, ⊤}
use Rattle.tl_html_spec.specs.HtmlTokenizer.{after_start}
use Rattle.tl_dom_spec.specs.Adjusted as J
use Rattle.tl_dom_spec.specs.Adoption as A
use Rattle.tl_dom_spec.specs.Body as D
use Rattle.tl_dom_spec.specs.Builder as B
use Rattle.tl_dom_spec.specs.Formatting as F
use Rattle.tl_dom_spec.specs.Groups as K
use Rattle.tl_dom_spec.specs.Head as Q
use Rattle.tl_dom_spec.specs.Path as W
use Rattle.tl_dom_spec.specs.Reset as E
use Rattle.tl_dom_spec.specs.Tags as T
use Rattle.tl_dom_spec.specs.Tags.{Tag}
use Rattle.tl_tree_safe.proofs.FilledPaths.{Fills, body_number-m, earlier-m, elements-m, from_html-m, is_open_number-m, mp, open-m, taken_out-m}
use Rattle.tl_tree_safe.proofs.FilledBuilders as R

module _ (h : W.Nodes → W.Nodes) (H : Fills h) where
  abbrev mb : B.Builder → B.Builder
  mb b = R.mb h H b

  abbrev mo : B.Outcome → B.Outcome
  mo o = R.mo h H o

  -- a token whose comment stays one
  abbrev pub Keeps : B.Token → Type 0
  Keeps (B.a_comment own) = R.Stays h H own
  Keeps _ = ⊤

  when-m : (v w : Bool) (f : B.Builder → B.Builder) (b : B.Builder) → v ≡ w → mb (f b) ≡ f (mb b) → mb (if v then f b else b) ≡ (if w then f (mb b) else mb b)
  when-m v w f b e g = R.if-m h H v w (f b) b (f (mb b)) (mb b) e g refl

  when-o : (v w : Bool) (x x' : B.Outcome) (b : B.Builder) → v ≡ w → mo x ≡ x' → mo (if v then x else B.Done b) ≡ (if w then x' else B.Done (mb b))
  when-o v w x x' b e g = R.if-o h H v w x (B.Done b) x' (B.Done (mb b)) e g refl

  -- "in body"

  close_p-m : (b : B.Builder) → mb (D.close_p b) ≡ D.close_p (mb b)
  close_p-m b = when-m _ _ (B.close_except_for T.is_paragraph T.is_paragraph) b (R.scope-m h H T.is_paragraph T.is_button_scope b) (R.close-m h H T.is_paragraph T.is_paragraph b)

  close_in-m : (but test : Tag → Bool) (b : B.Builder) → mb (D.close_in_scope but test b) ≡ D.close_in_scope but test (mb b)
  close_in-m but test b = when-m _ _ (B.close_except_for but test) b (R.scope-m h H test T.is_scope b) (R.close-m h H but test b)

  heading-m : (b : B.Builder) → mb (D.heading_closed b) ≡ D.heading_closed (mb b)
  heading-m b = when-m _ _ B.pop_current_node b (ap T.is_heading (R.current-m h H b)) (R.pop-m h H b)

  item_at-m : (o : Option Tag) (b : B.Builder) → mb (D.item_closed_at o b) ≡ D.item_closed_at o (mb b)
  item_at-m None b = refl
  item_at-m (Some t) b = R.close-m h H (T.is_named t.name) (T.is_named t.name) b

  item-m : (test : Tag → Bool) (b : B.Builder) → mb (D.item_closed test b) ≡ D.item_closed test (mb b)
  item-m test b =
      let bounds : Tag → Bool = T.is_item_bound b.flags.counts_search in
      let o : Option Tag = D.earlier_item test bounds (W.elements b.path) in
      close_p-m (D.item_closed_at o b)
      ∙ ap D.close_p (item_at-m o b ∙ ap (λ x. D.item_closed_at x (mb b)) (earlier-m h H test bounds (W.elements b.path) ∙ ap (D.earlier_item test bounds) (elements-m h H b.path)))

  ruby-m : (but : Tag → Bool) (b : B.Builder) → mb (D.ruby_closed but b) ≡ D.ruby_closed but (mb b)
  ruby-m but b = when-m _ _ (B.generate_implied_end_tags_except_for but) b (R.scope-m h H (T.is_any (codes "ruby")) T.is_scope b) (R.implied-m h H but b)

  body_at-m : (o : Option ℕ) (b : B.Builder) (t : Tag) → mb (D.body_start_at o b t) ≡ D.body_start_at o (mb b) t
  body_at-m None b t = refl
  body_at-m (Some k) b t =
      R.if-m h H _ _ b (B.frameset_not_ok (B.add_attributes k t.attributes b)) (mb b) (B.frameset_not_ok (B.add_attributes k t.attributes (mb b)))
      (R.template-m h H b) refl (ap B.frameset_not_ok (R.attributes-m h H k t.attributes b))

  frameset_at-m : (o : Option ℕ) (b : B.Builder) (t : Tag) → mb (D.frameset_start_at o b t) ≡ D.frameset_start_at o (mb b) t
  frameset_at-m None b t = refl
  frameset_at-m (Some k) b t =
      let f : W.Path → B.Builder = λ (p : W.Path). B.switch_to B.in_frameset (B.insert_element t (B.with_path b p)) in
      R.if-m h H b.is_frameset_ok b.is_frameset_ok (f (D.from_html b.path)) b (f (D.from_html (mp h H b.path))) (mb b) refl
      (ap (B.switch_to B.in_frameset) (R.insert-m h H t (B.with_path b (D.from_html b.path))) ∙ ap f (from_html-m h H b.path)) refl

  body_number-is : (b : B.Builder) → D.body_number (W.elements b.path) ≡ D.body_number (W.elements (mb b).path)
  body_number-is b = body_number-m h H (W.elements b.path) ∙ ap D.body_number (elements-m h H b.path)

  insert_after : (f : B.Builder → B.Builder) (t : Tag) (b : B.Builder) → mb (f b) ≡ f (mb b) → mb (B.insert_element t (f b)) ≡ B.insert_element t (f (mb b))
  insert_after f t b e = R.insert-m h H t (f b) ∙ ap (B.insert_element t) e

  alone_after : (f : B.Builder → B.Builder) (t : Tag) (b : B.Builder) → mb (f b) ≡ f (mb b) → mb (B.insert_and_pop t (f b)) ≡ B.insert_and_pop t (f (mb b))
  alone_after f t b e = R.alone-m h H t (f b) ∙ ap (B.insert_and_pop t) e

  form_at-m : (v : Bool) (form : Option ℕ) (b : B.Builder) (t : Tag) → mb (D.form_at v form b t) ≡ D.form_at v form (mb b) t
  form_at-m true form b t = insert_after D.close_p t b (close_p-m b)
  form_at-m false (Some k) b t = refl
  form_at-m false None b t =
      ap (λ (c : B.Builder). record c { form = Some (D.close_p b).next }) (R.insert-m h H t (D.close_p b))
      ∙ ap (λ (c : B.Builder). record (B.insert_element t c) { form = Some c.next }) (close_p-m b)

  abbrev ended : ℕ → B.Builder → B.Builder
  ended k c = record c {
    active = F.unlisted k c.active;
    path = if W.is_open_number k c.path then W.taken_out k c.path else c.path;
  }

  out-m : (v : Bool) (k : ℕ) (p : W.Path) → mp h H (if v then W.taken_out k p else p) ≡ (if v then W.taken_out k (mp h H p) else mp h H p)
  out-m true k p = taken_out-m h H k p
  out-m false k p = refl

  ended-m : (k : ℕ) (c : B.Builder) → mb (ended k c) ≡ ended k (mb c)
  ended-m k c =
      ap (λ (p : W.Path). record c { active = F.unlisted k c.active; path = p })
      (out-m (W.is_open_number k c.path) k c.path ∙ ap (λ v. if v then W.taken_out k (mp h H c.path) else mp h H c.path) (is_open_number-m h H k c.path))

  anchor-m : (o : Option F.Listed) (b : B.Builder) → mb (D.anchor_ended o b) ≡ D.anchor_ended o (mb b)
  anchor-m None b = refl
  anchor-m (Some own) b = ended-m own.number (A.adoption_agency own.tag.name b) ∙ ap (ended own.number) (R.agency-m h H own.tag.name b)

  nobr-m : (name : List ℕ) (b : B.Builder) → mb (D.nobr_ended name b) ≡ D.nobr_ended name (mb b)
  nobr-m name b =
      when-m _ _ (λ (c : B.Builder). F.reconstruct_formatting (A.adoption_agency name c)) b (R.scope-m h H (T.is_named name) T.is_scope b)
      (R.reconstruct-m h H (A.adoption_agency name b) ∙ ap F.reconstruct_formatting (R.agency-m h H name b))

  select_closed-m : (b : B.Builder) → mb (D.select_closed b) ≡ D.select_closed (mb b)
  select_closed-m b = when-m _ _ (B.pop_until T.is_select) b (R.scope-m h H T.is_select T.is_scope b) (R.until-m h H T.is_select b)

  void-m : (b : B.Builder) (t : Tag) → mb (D.void_start b t) ≡ D.void_start (mb b) t
  void-m b t = ap B.frameset_not_ok (alone_after F.reconstruct_formatting t b (R.reconstruct-m h H b))

  input-m : (t : Tag) (b : B.Builder) → mb (D.input_inserted t b) ≡ D.input_inserted t (mb b)
  input-m t b =
      let v : Bool = T.has_value (codes "type") (codes "hidden") t.attributes in
      let f : B.Builder → B.Builder = λ (c : B.Builder). B.insert_and_pop t (F.reconstruct_formatting (D.select_closed c)) in
      let e : mb (f b) ≡ f (mb b) =
      R.alone-m h H t (F.reconstruct_formatting (D.select_closed b))
      ∙ ap (B.insert_and_pop t) (R.reconstruct-m h H (D.select_closed b) ∙ ap F.reconstruct_formatting (select_closed-m b)) in
      R.if-m h H v v (f b) (B.frameset_not_ok (f b)) (f (mb b)) (B.frameset_not_ok (f (mb b))) refl e (ap B.frameset_not_ok e)

  select-m : (b : B.Builder) (t : Tag) → mb (D.select_start b t) ≡ D.select_start (mb b) t
  select-m b t =
      R.if-m h H _ _ b _ (mb b) _ refl refl
      (R.if-m h H _ _ (B.pop_until T.is_select b) _ (B.pop_until T.is_select (mb b)) _ (R.scope-m h H T.is_select T.is_scope b) (R.until-m h H T.is_select b)
      (ap B.frameset_not_ok (insert_after F.reconstruct_formatting t b (R.reconstruct-m h H b))))

  option_ended-m : (but : Tag → Bool) (b : B.Builder) → mb (D.option_ended but b) ≡ D.option_ended but (mb b)
  option_ended-m but b =
      R.if-m h H _ _ (B.generate_implied_end_tags_except_for but b) _ (B.generate_implied_end_tags_except_for but (mb b)) _ (R.scope-m h H T.is_select T.is_scope b) (R.implied-m h H but b)
      (when-m _ _ B.pop_current_node b (ap (T.is_any (codes "option")) (R.current-m h H b)) (R.pop-m h H b))

  option-m : (but : Tag → Bool) (b : B.Builder) (t : Tag) → mb (D.option_start but b t) ≡ D.option_start but (mb b) t
  option-m but b t = insert_after (λ (c : B.Builder). F.reconstruct_formatting (D.option_ended but c)) t b (R.reconstruct-m h H (D.option_ended but b) ∙ ap F.reconstruct_formatting (option_ended-m but b))

  rule-m : (b : B.Builder) (t : Tag) → mb (D.rule_start b t) ≡ D.rule_start (mb b) t
  rule-m b t =
      alone_after (λ (c : B.Builder). if B.has_in_scope T.is_select c then B.generate_implied_end_tags c else c) t b
      (when-m _ _ B.generate_implied_end_tags b (R.scope-m h H T.is_select T.is_scope b) (R.implied-m h H T.no_tag b))

  noscript-m : (b : B.Builder) (t : Tag) → mb (D.noscript_start_in_body b t) ≡ D.noscript_start_in_body (mb b) t
  noscript-m b t =
      R.if-m h H b.flags.is_scripting b.flags.is_scripting (B.parse_raw_text t b) _ (B.parse_raw_text t (mb b)) _ refl (R.raw_text-m h H t b)
      (insert_after F.reconstruct_formatting t b (R.reconstruct-m h H b))

  table-m : (b : B.Builder) (t : Tag) → mb (D.table_start_in_body b t) ≡ D.table_start_in_body (mb b) t
  table-m b t =
      ap (λ (c : B.Builder). B.switch_to B.in_table (B.frameset_not_ok c))
      (insert_after (λ (c : B.Builder). if c.is_quirks then c else D.close_p c) t b
      (R.if-m h H b.is_quirks b.is_quirks b (D.close_p b) (mb b) (D.close_p (mb b)) refl refl (close_p-m b)))

  pub foreign-m : (space : T.Namespace) (t : Tag) (closes : Bool) (b : B.Builder) → mb (J.insert_foreign_element space t closes b) ≡ J.insert_foreign_element space t closes (mb b)
  foreign-m space t true b = R.alone-m h H (J.foreign_tag space t) b
  foreign-m space t false b = R.insert-m h H (J.foreign_tag space t) b

  -- the head

  pub html-m : (b : B.Builder) (t : Tag) → mb (Q.html_start b t) ≡ Q.html_start (mb b) t
  html-m b t =
      R.if-m h H _ _ b (B.add_attributes 1 t.attributes b) (mb b) (B.add_attributes 1 t.attributes (mb b)) (R.template-m h H b) refl (R.attributes-m h H 1 t.attributes b)

  pub head_closed-m : (b : B.Builder) → mb (Q.head_closed b) ≡ Q.head_closed (mb b)
  head_closed-m b = ap (B.switch_to B.after_head) (R.pop-m h H b)

  template_opened-m : (place : W.Place) (t : Tag) (b : B.Builder) → mb (Q.template_opened place t b) ≡ Q.template_opened place t (mb b)
  template_opened-m place t b =
      ap (λ (c : B.Builder). B.switch_to B.in_template (record c { templates = B.in_template ∷ c.templates })) (R.insert_at-m h H place t (B.frameset_not_ok (B.insert_marker b)))

  head_part-m : (place : W.Place) (g : K.Group) (t : Tag) (b : B.Builder) → option_map mb (Q.head_part place g t b) ≡ Q.head_part place g t (mb b)
  head_part-m place K.a_base t b = ap Some (R.alone_at-m h H place t b)
  head_part-m place K.a_link t b = ap Some (R.alone_at-m h H place t b)
  head_part-m place K.a_title t b = ap Some (R.raw_text_at-m h H place t b)
  head_part-m place K.a_noframes t b = ap Some (R.raw_text_at-m h H place t b)
  head_part-m place K.a_style t b = ap Some (R.raw_text_at-m h H place t b)
  head_part-m place K.a_script t b = ap Some (R.raw_text_at-m h H place t b)
  head_part-m place K.a_template t b = ap Some (template_opened-m place t b)
  head_part-m place _ t b = refl

  done_or-m : (other : B.Outcome) (o : Option B.Builder) → mo (Q.done_or other o) ≡ Q.done_or (mo other) (option_map mb o)
  done_or-m other None = refl
  done_or-m other (Some b) = refl

  pub part_or : (place : W.Place) (g : K.Group) (t : Tag) (b : B.Builder) (other others : B.Outcome) → mo other ≡ others → mo (Q.done_or other (Q.head_part place g t b)) ≡ Q.done_or others (Q.head_part place g t (mb b))
  part_or place g t b other others e = done_or-m other (Q.head_part place g t b) ∙ ap₂ Q.done_or e (head_part-m place g t b)

  noscript_in_head-m : (b : B.Builder) (t : Tag) → mb (Q.noscript_in_head b t) ≡ Q.noscript_in_head (mb b) t
  noscript_in_head-m b t =
      R.if-m h H b.flags.is_scripting b.flags.is_scripting (B.parse_raw_text t b) _ (B.parse_raw_text t (mb b)) _ refl (R.raw_text-m h H t b)
      (ap (B.switch_to B.in_head_noscript) (R.insert-m h H t b))

  pub head_start-m : (b : B.Builder) (g : K.Group) (t : Tag) → mo (Q.in_head_start b g t) ≡ Q.in_head_start (mb b) g t
  head_start-m b K.the_html t = ap B.Done (html-m b t)
  head_start-m b K.the_head t = refl
  head_start-m b K.a_noscript t = ap B.Done (noscript_in_head-m b t)
  head_start-m b g t =
      part_or (B.appropriate_place b) g t b (B.Again (Q.head_closed b)) (B.Again (Q.head_closed (mb b))) (ap B.Again (head_closed-m b))
      ∙ ap (λ p. Q.done_or (B.Again (Q.head_closed (mb b))) (Q.head_part p g t (mb b))) (R.place-m h H b)

  -- start tags of "in body"

  body_start-m : (b : B.Builder) (g : K.Group) (t : Tag) (closes : Bool) → mo (D.body_start b g t closes) ≡ D.body_start (mb b) g t closes
  body_start-m b K.the_html t closes = ap B.Done (html-m b t)
  body_start-m b K.a_base t closes = head_start-m b K.a_base t
  body_start-m b K.a_link t closes = head_start-m b K.a_link t
  body_start-m b K.a_noframes t closes = head_start-m b K.a_noframes t
  body_start-m b K.a_script t closes = head_start-m b K.a_script t
  body_start-m b K.a_style t closes = head_start-m b K.a_style t
  body_start-m b K.a_template t closes = head_start-m b K.a_template t
  body_start-m b K.a_title t closes = head_start-m b K.a_title t
  body_start-m b K.the_body t closes = ap B.Done (body_at-m (D.body_number (W.elements b.path)) b t ∙ ap (λ o. D.body_start_at o (mb b) t) (body_number-is b))
  body_start-m b K.a_frameset t closes = ap B.Done (frameset_at-m (D.body_number (W.elements b.path)) b t ∙ ap (λ o. D.frameset_start_at o (mb b) t) (body_number-is b))
  body_start-m b K.a_paragraph t closes = ap B.Done (insert_after D.close_p t b (close_p-m b))
  body_start-m b K.a_block t closes = ap B.Done (insert_after D.close_p t b (close_p-m b))
  body_start-m b K.a_heading t closes =
      ap B.Done (insert_after (λ (c : B.Builder). D.heading_closed (D.close_p c)) t b (heading-m (D.close_p b) ∙ ap D.heading_closed (close_p-m b)))
  body_start-m b K.a_preformatted t closes =
      ap (λ (c : B.Builder). B.Done (record (B.frameset_not_ok c) { skips = true })) (insert_after D.close_p t b (close_p-m b))
  body_start-m b K.a_form t closes = ap B.Done (form_at-m (B.has_template b) b.form b t ∙ ap (λ v. D.form_at v b.form (mb b) t) (R.template-m h H b))
  body_start-m b K.an_item t closes = ap B.Done (insert_after (D.item_closed (T.is_any (codes "li"))) t (B.frameset_not_ok b) (item-m (T.is_any (codes "li")) (B.frameset_not_ok b)))
  body_start-m b K.a_description t closes =
      ap B.Done (insert_after (D.item_closed (T.is_any (codes "dd dt"))) t (B.frameset_not_ok b) (item-m (T.is_any (codes "dd dt")) (B.frameset_not_ok b)))
  body_start-m b K.a_plaintext t closes =
      ap (λ (c : B.Builder). B.Done (record c { reads = after_start t.name })) (insert_after D.close_p t b (close_p-m b))
  body_start-m b K.a_button t closes =
      ap (λ (c : B.Builder). B.Done (B.frameset_not_ok c))
      (insert_after (λ (c : B.Builder). F.reconstruct_formatting (D.close_in_scope T.no_tag (T.is_any (codes "button")) c)) t b
      (R.reconstruct-m h H (D.close_in_scope T.no_tag (T.is_any (codes "button")) b) ∙ ap F.reconstruct_formatting (close_in-m T.no_tag (T.is_any (codes "button")) b)))
  body_start-m b K.an_anchor t closes =
      ap B.Done (R.formatting-m h H t (F.reconstruct_formatting (D.anchor_ended (F.listed t.name b.active) b))
      ∙ ap (F.insert_formatting_element t) (R.reconstruct-m h H (D.anchor_ended (F.listed t.name b.active) b) ∙ ap F.reconstruct_formatting (anchor-m (F.listed t.name b.active) b)))
  body_start-m b K.a_format t closes = ap B.Done (R.formatting-m h H t (F.reconstruct_formatting b) ∙ ap (F.insert_formatting_element t) (R.reconstruct-m h H b))
  body_start-m b K.a_nobr t closes =
      ap B.Done (R.formatting-m h H t (D.nobr_ended t.name (F.reconstruct_formatting b))
      ∙ ap (F.insert_formatting_element t) (nobr-m t.name (F.reconstruct_formatting b) ∙ ap (D.nobr_ended t.name) (R.reconstruct-m h H b)))
  body_start-m b K.a_mark t closes =
      ap (λ (c : B.Builder). B.Done (B.frameset_not_ok (B.insert_marker c))) (insert_after F.reconstruct_formatting t b (R.reconstruct-m h H b))
  body_start-m b K.a_table t closes = ap B.Done (table-m b t)
  body_start-m b K.a_break t closes = ap B.Done (void-m b t)
  body_start-m b K.a_void t closes = ap B.Done (void-m b t)
  body_start-m b K.an_image t closes = ap B.Done (void-m b (record t { name = codes "img" }))
  body_start-m b K.an_input t closes = ap B.Done (R.if-m h H _ _ b (D.input_inserted t b) (mb b) (D.input_inserted t (mb b)) refl refl (input-m t b))
  body_start-m b K.a_detail t closes = ap B.Done (R.alone-m h H t b)
  body_start-m b K.a_rule t closes = ap (λ (c : B.Builder). B.Done (B.frameset_not_ok c)) (rule-m (D.close_p b) t ∙ ap (λ (c : B.Builder). D.rule_start c t) (close_p-m b))
  body_start-m b K.a_textarea t closes = ap (λ (c : B.Builder). B.Done (record c { skips = true })) (R.raw_text-m h H t (B.frameset_not_ok b))
  body_start-m b K.an_example t closes =
      ap B.Done (R.raw_text-m h H t (B.frameset_not_ok (F.reconstruct_formatting (D.close_p b)))
      ∙ ap (λ (c : B.Builder). B.parse_raw_text t (B.frameset_not_ok c)) (R.reconstruct-m h H (D.close_p b) ∙ ap F.reconstruct_formatting (close_p-m b)))
  body_start-m b K.an_iframe t closes = ap B.Done (R.raw_text-m h H t (B.frameset_not_ok b))
  body_start-m b K.a_noembed t closes = ap B.Done (R.raw_text-m h H t b)
  body_start-m b K.a_noscript t closes = ap B.Done (noscript-m b t)
  body_start-m b K.a_select t closes = ap B.Done (select-m b t)
  body_start-m b K.an_option t closes = ap B.Done (option-m (T.is_any (codes "optgroup")) b t)
  body_start-m b K.an_option_group t closes = ap B.Done (option-m T.no_tag b t)
  body_start-m b K.a_ruby_base t closes = ap B.Done (insert_after (D.ruby_closed T.no_tag) t b (ruby-m T.no_tag b))
  body_start-m b K.a_ruby_text t closes = ap B.Done (insert_after (D.ruby_closed (T.is_any (codes "rtc"))) t b (ruby-m (T.is_any (codes "rtc")) b))
  body_start-m b K.a_math t closes =
      ap B.Done (foreign-m T.math_space t closes (F.reconstruct_formatting b) ∙ ap (J.insert_foreign_element T.math_space t closes) (R.reconstruct-m h H b))
  body_start-m b K.an_svg t closes =
      ap B.Done (foreign-m T.svg_space t closes (F.reconstruct_formatting b) ∙ ap (J.insert_foreign_element T.svg_space t closes) (R.reconstruct-m h H b))
  body_start-m b K.a_caption t closes = refl
  body_start-m b K.a_column t closes = refl
  body_start-m b K.a_column_group t closes = refl
  body_start-m b K.a_frame t closes = refl
  body_start-m b K.the_head t closes = refl
  body_start-m b K.a_table_body t closes = refl
  body_start-m b K.a_cell t closes = refl
  body_start-m b K.a_row t closes = refl
  body_start-m b K.any_other t closes = ap B.Done (insert_after F.reconstruct_formatting t b (R.reconstruct-m h H b))

  -- end tags

  p_ended-m : (b : B.Builder) → mb (D.p_ended b) ≡ D.p_ended (mb b)
  p_ended-m b =
      let f : B.Builder → B.Builder = λ (c : B.Builder). if B.has_in_button_scope T.is_paragraph c then c else B.insert_implied (codes "p") c in
      R.close-m h H T.is_paragraph T.is_paragraph (f b)
      ∙ ap (B.close_except_for T.is_paragraph T.is_paragraph)
      (R.if-m h H _ _ b (B.insert_implied (codes "p") b) (mb b) (B.insert_implied (codes "p") (mb b)) (R.scope-m h H T.is_paragraph T.is_button_scope b) refl (R.implied_element-m h H (codes "p") b))

  item_ended-m : (b : B.Builder) → mb (D.item_ended b) ≡ D.item_ended (mb b)
  item_ended-m b =
      when-m _ _ (B.close_except_for (T.is_any (codes "li")) (T.is_any (codes "li"))) b (R.scope-m h H (T.is_any (codes "li")) T.is_list_scope b)
      (R.close-m h H (T.is_any (codes "li")) (T.is_any (codes "li")) b)

  mark_ended-m : (name : List ℕ) (b : B.Builder) → mb (D.mark_ended name b) ≡ D.mark_ended name (mb b)
  mark_ended-m name b =
      when-m _ _ (λ (c : B.Builder). B.clear_to_last_marker (B.close_except_for T.no_tag (T.is_named name) c)) b (R.scope-m h H (T.is_named name) T.is_scope b)
      (ap B.clear_to_last_marker (R.close-m h H T.no_tag (T.is_named name) b))

  form_out-m : (o : Option ℕ) (b : B.Builder) → mb (D.form_taken_out o b) ≡ D.form_taken_out o (mb b)
  form_out-m None b = refl
  form_out-m (Some k) b =
      when-m _ _ (λ (c : B.Builder). B.with_path (B.generate_implied_end_tags c) (W.taken_out k (B.generate_implied_end_tags c).path)) b
      (open-m h H (W.has_number k) (W.has_tag T.is_scope) (λ _. refl) (λ _. refl) b.path)
      (ap (B.with_path b) (taken_out-m h H k (B.generate_implied_end_tags b).path)
      ∙ ap (λ (c : B.Builder). B.with_path c (W.taken_out k c.path)) (R.implied-m h H T.no_tag b))

  form_ended-m : (b : B.Builder) → mb (D.form_ended b) ≡ D.form_ended (mb b)
  form_ended-m b =
      R.if-m h H _ _ (D.close_in_scope T.no_tag (T.is_any (codes "form")) b) _ (D.close_in_scope T.no_tag (T.is_any (codes "form")) (mb b)) _ (R.template-m h H b)
      (close_in-m T.no_tag (T.is_any (codes "form")) b) (form_out-m b.form (record b { form = None }))

  body_end-m : (b : B.Builder) (g : K.Group) (name : List ℕ) → mo (D.body_end b g name) ≡ D.body_end (mb b) g name
  body_end-m b K.a_template name = ap B.Done (R.template_end-m h H b)
  body_end-m b K.the_body name = ap B.Done (when-m _ _ (B.switch_to B.after_body) b (R.scope-m h H (T.is_any (codes "body")) T.is_scope b) refl)
  body_end-m b K.the_html name = when-o _ _ (B.Again (B.switch_to B.after_body b)) (B.Again (B.switch_to B.after_body (mb b))) b (R.scope-m h H (T.is_any (codes "body")) T.is_scope b) refl
  body_end-m b K.a_block name = ap B.Done (close_in-m T.no_tag (T.is_named name) b)
  body_end-m b K.a_button name = ap B.Done (close_in-m T.no_tag (T.is_named name) b)
  body_end-m b K.a_preformatted name = ap B.Done (close_in-m T.no_tag (T.is_named name) b)
  body_end-m b K.a_select name = ap B.Done (close_in-m T.no_tag (T.is_named name) b)
  body_end-m b K.a_form name = ap B.Done (form_ended-m b)
  body_end-m b K.a_paragraph name = ap B.Done (p_ended-m b)
  body_end-m b K.an_item name = ap B.Done (item_ended-m b)
  body_end-m b K.a_description name = ap B.Done (close_in-m (T.is_named name) (T.is_named name) b)
  body_end-m b K.a_heading name = ap B.Done (close_in-m T.no_tag T.is_heading b)
  body_end-m b K.an_anchor name = ap B.Done (R.agency-m h H name b)
  body_end-m b K.a_format name = ap B.Done (R.agency-m h H name b)
  body_end-m b K.a_nobr name = ap B.Done (R.agency-m h H name b)
  body_end-m b K.a_mark name = ap B.Done (mark_ended-m name b)
  body_end-m b K.a_break name = ap (λ (c : B.Builder). B.Done (B.add_one c)) (void-m b (T.bare_tag (codes "br")))
  body_end-m b _ name = ap B.Done (R.other_end-m h H name b)

  -- other tokens

  pub body_character-m : (c : ℕ) (b : B.Builder) → mb (D.body_character c b) ≡ D.body_character c (mb b)
  body_character-m c b =
      let e : mb (B.insert_character c (F.reconstruct_formatting b)) ≡ B.insert_character c (F.reconstruct_formatting (mb b)) =
      R.character-m h H c (F.reconstruct_formatting b) ∙ ap (B.insert_character c) (R.reconstruct-m h H b) in
      R.if-m h H _ _ b _ (mb b) _ refl refl
      (R.if-m h H _ _ _ _ _ _ refl e (ap B.frameset_not_ok e))

  pub file_ended-m : (b : B.Builder) → mo (D.file_ended b) ≡ D.file_ended (mb b)
  file_ended-m b = when-o _ _ (B.Again (E.close_template b)) (B.Again (E.close_template (mb b))) b (R.template-m h H b) (ap B.Again (R.close_template-m h H b))

  pub in_body-m : (b : B.Builder) (t : B.Token) → Keeps t → mo (D.in_body_step b t) ≡ D.in_body_step (mb b) t
  in_body-m b (B.a_character c) s = ap B.Done (body_character-m c b)
  in_body-m b (B.a_comment own) s = ap B.Done (R.comment-m h H own b s)
  in_body-m b (B.a_doctype own) s = refl
  in_body-m b (B.a_start g t closes) s = body_start-m b g t closes
  in_body-m b (B.an_end g name) s = body_end-m b g name
  in_body-m b B.end_of_file s = file_ended-m b
