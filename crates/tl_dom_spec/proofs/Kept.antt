-- What holds of a builder, whole: of its nodes, and that `bound` suffices. Each operation that the rules are made of keeps it.
use Rattle.std.proofs.Common.{Bool, List, Option, [], false, if◌then◌else◌, suc, zero, ℕ, ◌++◌, ◌∷◌, ◌≡◌}
use Rattle.std.proofs.lemmas.Bool.{cond_both}
use Rattle.tl_html_spec.specs.HtmlTokenizer.{State}
use Rattle.tl_html_spec.specs.Doctypes.{Doctype}
use Rattle.tl_dom_spec.specs.Tags.{Attribute, Tag, is_implied_thoroughly, is_template}
use Rattle.tl_dom_spec.specs.Marks.{Marked, marked}
use Rattle.tl_dom_spec.specs.Path.{Frame, Place, and_comment, and_doctype, and_element, and_text, here, no_nodes, popped_through, popped_to, popped_while, put, taken_out}
use Rattle.tl_dom_spec.specs.Builder.{Again, Builder, Done, Outcome, add_attributes, appropriate_place, clear_stack_back_to, clear_to_last_marker, close_except_for, generate_implied_end_tags_except_for, has_template, insert_and_pop, insert_and_pop_at, insert_bytes, insert_character, insert_comment, insert_comment_at, insert_element, insert_element_at, insert_marker, outcome_map, parse_raw_text, parse_raw_text_at, pop_current_node, pop_until, repeated, state_inside, with_path}
use Rattle.tl_dom_spec.specs.Formatting.{insert_formatting_element, reconstruct_formatting, unlisted}
use Rattle.tl_dom_spec.specs.Adoption.{adoption_agency, any_other_end_tag}
use Rattle.tl_dom_spec.specs.Reset.{close_template, template_end_tag}
use Rattle.tl_dom_spec.specs.Body.{from_html}
use Rattle.tl_dom_spec.proofs.Allowed.{Allowed, AreWords, each_append}
use Rattle.tl_dom_spec.proofs.Paths.{from_html-Frames, popped_through-Frames, popped_to-Frames, popped_while-Frames, put-Frames, taken_out-Frames}
use Rattle.tl_dom_spec.proofs.Builders as B
use Rattle.tl_dom_spec.proofs.Adopting as A
use Rattle.tl_dom_spec.specs.Lawful.{IsSteady, is_text_mode}
use Rattle.tl_dom_spec.proofs.Pending.{IsPlain}
use Rattle.tl_dom_spec.proofs.Staying as Y
use Rattle.tl_dom_spec.proofs.Steady as X

-- in no mode of a text
abbrev pub Roams : Builder → Type 0
Roams b = is_text_mode b.mode ≡ false

module _ (R : Allowed) where
  abbrev pub Holds : Builder → Type 0
  Holds b = B.Holds R b × (R.Grouped → IsSteady b)

  abbrev pub HoldsAfter : Outcome → Type 0
  HoldsAfter (Done b) = Holds b
  HoldsAfter (Again b) = Holds b

  pub repeated-Holds : (n : ℕ) (step : Builder → Outcome) (o : Outcome) → ((b : Builder) → Holds b → HoldsAfter (step b)) → HoldsAfter o → Holds (repeated n step o)
  repeated-Holds n step (Done b) s h = h
  repeated-Holds zero step (Again b) s h = h
  repeated-Holds (suc n) step (Again b) s h = repeated-Holds n step (step b) s (s b h)

  pub map-Holds : (f : Builder → Builder) (o : Outcome) → ((b : Builder) → Holds b → Holds (f b)) → HoldsAfter o → HoldsAfter (outcome_map f o)
  map-Holds f (Done b) s h = s b h
  map-Holds f (Again b) s h = s b h

  pub either : (v : Bool) (x y : Builder) → Holds x → Holds y → Holds (if v then x else y)
  either v x y h k = cond_both v x y Holds (λ _. h) (λ _. k)

  pub either-after : (v : Bool) (x y : Outcome) → HoldsAfter x → HoldsAfter y → HoldsAfter (if v then x else y)
  either-after v x y h k = cond_both v x y HoldsAfter (λ _. h) (λ _. k)

  -- what is set

  pub reads-Holds : (state : State) (b : Builder) → R.Reads state → Holds b → Holds (record b { reads = state })
  reads-Holds state b r h = ((h.0.0, h.0.1, h.0.2, record { state = r; around = h.0.3.around; scripts = h.0.3.scripts; excess = h.0.3.excess; gaps = h.0.3.gaps }), h.1)

  pub excess-Holds : (n : ℕ) (b : Builder) → R.Exceeds n → Holds b → Holds (record b { excess = n })
  excess-Holds n b x h = ((h.0.0, h.0.1, h.0.2, record { state = h.0.3.state; around = h.0.3.around; scripts = h.0.3.scripts; excess = x; gaps = h.0.3.gaps }), h.1)

  pub marks-Holds : (n : ℕ) (b : Builder) → R.Gaps n → Holds b → Holds (record b { marks = n })
  marks-Holds n b x h = ((h.0.0, h.0.1, h.0.2, record { state = h.0.3.state; around = h.0.3.around; scripts = h.0.3.scripts; excess = h.0.3.excess; gaps = x }), h.1)

  pub none_pending-Holds : (b : Builder) → Holds b → Holds (record b { pending = [] })
  none_pending-Holds b h = ((h.0.0, h.0.1, tt, h.0.3), h.1)

  pub pending-Holds : (c : ℕ) (b : Builder) → R.Says c → Holds b → Holds (record b { pending = b.pending ++ c ∷ [] })
  pending-Holds c b k h = ((h.0.0, h.0.1, each_append R.Says b.pending (c ∷ []) h.0.2 (k, tt), h.0.3), h.1)

  pub form-Holds : (form : Option ℕ) (b : Builder) → Holds b → Holds (record b { form = form })
  form-Holds form b h = (h.0, h.1)

  pub clear-Holds : (b : Builder) → Holds b → Holds (clear_to_last_marker b)
  clear-Holds b h =
      (B.clear-Holds R b h.0, λ g. Y.cleared b (h.1 g))

  pub marker-Holds : (b : Builder) → Holds b → Holds (insert_marker b)
  marker-Holds b h =
      (B.marker-Holds R b h.0, h.1)

  -- what is popped

  pub pop-Holds : (b : Builder) → Holds b → Holds (pop_current_node b)
  pop-Holds b h = (B.pop-Holds R b h.0, λ g. Y.popped b (h.1 g))

  pub popped_to-Holds : (test : Frame → Bool) (b : Builder) → Holds b → Holds (with_path b (popped_to test b.path))
  popped_to-Holds test b h =
      ((popped_to-Frames R test b.path h.0.0, h.0.1, h.0.2, h.0.3), λ g. Y.while _ b (h.1 g))

  pub popped_through-Holds : (test : Frame → Bool) (b : Builder) → Holds b → Holds (with_path b (popped_through test b.path))
  popped_through-Holds test b h =
      ((popped_through-Frames R test b.path h.0.0, h.0.1, h.0.2, h.0.3), λ g. Y.through test b (h.1 g))

  pub pop_until-Holds : (test : Tag → Bool) (b : Builder) → Holds b → Holds (pop_until test b)
  pop_until-Holds test b h = popped_through-Holds _ b h

  pub implied-Holds : (but : Tag → Bool) (b : Builder) → Holds b → Holds (generate_implied_end_tags_except_for but b)
  implied-Holds but b h = (B.implied-Holds R but b h.0, λ g. Y.while _ b (h.1 g))

  pub close-Holds : (but test : Tag → Bool) (b : Builder) → Holds b → Holds (close_except_for but test b)
  close-Holds but test b h = pop_until-Holds test (generate_implied_end_tags_except_for but b) (implied-Holds but b h)

  pub back_to-Holds : (test : Tag → Bool) (b : Builder) → Holds b → Holds (clear_stack_back_to test b)
  back_to-Holds test b h = popped_to-Holds _ b h

  pub taken_out-Holds : (k : ℕ) (b : Builder) → Holds b → Holds (with_path b (taken_out k b.path))
  taken_out-Holds k b h =
      ((taken_out-Frames R k b.path h.0.0, h.0.1, h.0.2, h.0.3), λ g. X.taken_out-steady k b (h.1 g))

  pub from_html-Holds : (b : Builder) → Holds b → Holds (with_path b (from_html b.path))
  from_html-Holds b h =
      ((from_html-Frames R b.path h.0.0, h.0.1, h.0.2, h.0.3), λ g. X.from_html-steady b (h.1 g))

  -- what is inserted

  pub insert_at-Holds : (place : Place) (tag : Tag) (b : Builder) → R.Opens tag → Holds b → Holds (insert_element_at place tag b)
  insert_at-Holds place tag b o h = (B.insert_at-Holds R place tag b o h.0, λ g. X.at-steady place tag b (h.1 g))

  pub insert-Holds : (tag : Tag) (b : Builder) → R.Opens tag → Holds b → Holds (insert_element tag b)
  insert-Holds tag b o h = insert_at-Holds (appropriate_place b) tag b o h

  pub alone_at-Holds : (place : Place) (tag : Tag) (b : Builder) → R.Stands tag → Holds b → Holds (insert_and_pop_at place tag b)
  alone_at-Holds place tag b o h = (B.alone_at-Holds R place tag b o h.0, λ g. X.put-steady place (and_element no_nodes tag no_nodes) b (h.1 g))

  pub alone-Holds : (tag : Tag) (b : Builder) → R.Stands tag → Holds b → Holds (insert_and_pop tag b)
  alone-Holds tag b o h = alone_at-Holds (appropriate_place b) tag b o h

  pub bytes-Holds : (bytes : List ℕ) (b : Builder) → AreWords R bytes → Holds b → Holds (insert_bytes bytes b)
  bytes-Holds bytes b t h = (B.bytes-Holds R bytes b t h.0, λ g. X.put-steady (appropriate_place b) (and_text no_nodes (marked b.marks bytes)) b (h.1 g))

  pub character-Holds : (c : ℕ) (b : Builder) → R.Says c → Holds b → Holds (insert_character c b)
  character-Holds c b k h = bytes-Holds (c ∷ []) b ((λ _. tt), (k, tt)) h

  pub comment_at-Holds : (place : Place) (bytes : Marked (List ℕ)) (b : Builder) → R.Notes bytes → Holds b → Holds (insert_comment_at place bytes b)
  comment_at-Holds place bytes b n h = (B.comment_at-Holds R place bytes b n h.0, λ g. X.put-steady place (and_comment no_nodes bytes) b (h.1 g))

  pub comment-Holds : (bytes : Marked (List ℕ)) (b : Builder) → R.Notes bytes → Holds b → Holds (insert_comment bytes b)
  comment-Holds bytes b n h = comment_at-Holds (appropriate_place b) bytes b n h

  pub doctype-Holds : (own : Marked Doctype) (b : Builder) → R.Types own → Holds b → Holds (with_path b (put here (and_doctype no_nodes own) b.path))
  doctype-Holds own b t h = (
    (put-Frames R here (and_doctype no_nodes own) b.path (t, tt) h.0.0, h.0.1, h.0.2, h.0.3),
    λ g. X.put-steady here (and_doctype no_nodes own) b (h.1 g),
  )

  pub attributes-Holds : (k : ℕ) (more : List Attribute) (b : Builder) → R.Adds more → Holds b → Holds (add_attributes k more b)
  attributes-Holds k more b a h = (B.attributes-Holds R k more b a h.0, λ g. X.attributes-steady k more b (h.1 g))

  pub raw_text_at-Holds : (place : Place) (tag : Tag) (b : Builder) → R.Opens tag → R.Reads (state_inside tag.name) → Roams b → Holds b → Holds (parse_raw_text_at place tag b)
  raw_text_at-Holds place tag b o r n h =
      let x = reads-Holds (state_inside tag.name) (insert_element_at place tag b) r (insert_at-Holds place tag b o h) in
      (x.0, λ g. let s = x.1 g in (s.0, n, s.2, s.3))

  pub raw_text-Holds : (tag : Tag) (b : Builder) → R.Opens tag → R.Reads (state_inside tag.name) → Roams b → Holds b → Holds (parse_raw_text tag b)
  raw_text-Holds tag b o r n h = raw_text_at-Holds (appropriate_place b) tag b o r n h

  -- the list of active formatting elements

  pub formatting-Holds : (tag : Tag) (b : Builder) → R.Opens tag → (R.Grouped → IsPlain tag) → Holds b → Holds (insert_formatting_element tag b)
  formatting-Holds tag b o l h = (B.formatting-Holds R tag b o h.0, λ g. X.formatting-steady tag b (l g) (h.1 g))

  pub reconstruct-Holds : (b : Builder) → Holds b → Holds (reconstruct_formatting b)
  reconstruct-Holds b h = (B.reconstruct-Holds R b h.0, λ g. X.reconstruct-steady b (h.1 g))

  pub other_end-Holds : (name : List ℕ) (b : Builder) → Holds b → Holds (any_other_end_tag name b)
  other_end-Holds name b h = (A.other_end-Holds R name b h.0, λ g. X.other_end-steady name b (h.1 g))

  pub agency-Holds : (name : List ℕ) (b : Builder) → Holds b → Holds (adoption_agency name b)
  agency-Holds name b h = (A.agency-Holds R name b h.0, λ g. X.agency-steady name b (h.1 g))

  pub unlisted-Holds : (k : ℕ) (b : Builder) → Holds b → Holds (record b { active = unlisted k b.active })
  unlisted-Holds k b h = (A.unlisted-Holds R k b h.0, λ g. X.unlisted-steady k b (h.1 g))

  -- templates

  pub close_template-Holds : (b : Builder) → Holds b → Holds (close_template b)
  close_template-Holds b h =
      let x = clear-Holds (pop_until is_template b) (pop_until-Holds is_template b h) in
      (x.0, λ g. Y.template_closed b (h.1 g))

  pub template_end_tag-Holds : (b : Builder) → Holds b → Holds (template_end_tag b)
  template_end_tag-Holds b h =
      let closed : Builder = with_path b (popped_while (λ (f : Frame). is_implied_thoroughly f.tag) b.path) in
      either (has_template b) (close_template closed) b
      (close_template-Holds closed (
        (popped_while-Frames R (λ (f : Frame). is_implied_thoroughly f.tag) b.path h.0.0, h.0.1, h.0.2, h.0.3),
        λ g. Y.while _ b (h.1 g),
      ))
      h
