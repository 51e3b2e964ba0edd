-- What holds of a builder between two rules, and what is done to it: it keeps that.
use Rattle.std.proofs.Common.{ℕ, zero, suc, ◌==◌, Bool, true, false, ◌&&◌, List, [], ◌∷◌, Option, refl, if◌then◌else◌}
use Rattle.std.specs.Prelude.{⊤, nat_lt}
use Rattle.std.proofs.lemmas.Bool.{cond_both}
use Rattle.tl_html_spec.specs.HtmlTokenizer.{State}
use Rattle.tl_dom_spec.specs.Tags.{Attribute, Tag, is_implied_thoroughly, is_template}
use Rattle.tl_dom_spec.specs.Marks.{Marked, marked}
use Rattle.tl_dom_spec.specs.Path.{Frame, Path, Place, and_comment, and_element, and_text, is_open_number, no_nodes, popped_while}
use Rattle.tl_dom_spec.specs.Builder.{Again, Builder, Done, Entry, Outcome, add_attributes, appropriate_place, clear_stack_back_to, clear_to_last_marker, close_except_for, formatting, generate_implied_end_tags_except_for, has_template, insert_and_pop, insert_and_pop_at, insert_bytes, insert_character, insert_comment, insert_comment_at, insert_element, insert_element_at, insert_marker, marker, outcome_map, parse_raw_text, parse_raw_text_at, pop_current_node, pop_until, repeated, state_inside, with_path, without_last_marker}
use Rattle.tl_dom_spec.specs.Formatting.{alike_count, insert_formatting_element, is_alike, reconstruct_formatting, reopen, reopen_each, with_room, without_earliest}
use Rattle.tl_dom_spec.specs.Reset.{close_template, reset_insertion_mode, template_end_tag}
use Rattle.tl_dom_spec.proofs.Allowed.{Allowed, AreWords, Each, IfSome, alone-Good}
use Rattle.tl_dom_spec.proofs.Paths.{Frames, implied_closed-Frames, more-Frames, popped-Frames, popped_through-Frames, popped_to-Frames, popped_while-Frames, pushed_at-Frames, put-Frames}

-- beside the path and what waits for it: what drives the tokenizer, which is the state that is set, the context element, and whether
-- scripting is on; by how many the elements were too many, and how many marks were taken
pub record Drives (Reads : State → Type 0) (Around : Tag → Type 0) (Scripts : Bool → Type 0) (Exceeds Gaps : ℕ → Type 0)
    (reads : State) (context : Option Tag) (is_scripting : Bool) (number marks : ℕ) : Type 0 where
  pub state : Reads reads
  pub around : IfSome Around context
  pub scripts : Scripts is_scripting
  pub excess : Exceeds number
  pub gaps : Gaps marks

module _ (R : Allowed) where
  abbrev pub Entered : Entry → Type 0
  Entered marker = ⊤
  Entered (formatting k tag) = R.Opens tag

  abbrev pub Entries : List Entry → Type 0
  Entries entries = Each Entered entries

  abbrev pub Holds : Builder → Type 0
  Holds b = Frames R b.path × Entries b.active × Each R.Says b.pending × Drives R.Reads R.Around R.Scripts R.Exceeds R.Gaps b.reads b.context b.flags.is_scripting b.excess b.marks

  abbrev pub HoldsAfter : Outcome → Type 0
  HoldsAfter (Done b) = Holds b
  HoldsAfter (Again b) = Holds b

  pub repeated-Holds : (n : ℕ) (step : Builder → Outcome) (o : Outcome) → ((b : Builder) → Holds b → HoldsAfter (step b)) → HoldsAfter o → Holds (repeated n step o)
  repeated-Holds n step (Done b) s h = h
  repeated-Holds zero step (Again b) s h = h
  repeated-Holds (suc n) step (Again b) s h = repeated-Holds n step (step b) s (s b h)

  pub map-Holds : (f : Builder → Builder) (o : Outcome) → ((b : Builder) → Holds b → Holds (f b)) → HoldsAfter o → HoldsAfter (outcome_map f o)
  map-Holds f (Done b) s h = s b h
  map-Holds f (Again b) s h = s b h

  -- one of two
  pub either : (v : Bool) (x y : Builder) → Holds x → Holds y → Holds (if v then x else y)
  either v x y h k = cond_both v x y Holds (λ _. h) (λ _. k)

  pub either-after : (v : Bool) (x y : Outcome) → HoldsAfter x → HoldsAfter y → HoldsAfter (if v then x else y)
  either-after v x y h k = cond_both v x y HoldsAfter (λ _. h) (λ _. k)

  -- the path alone
  pub at_path : (b : Builder) (path : Path) → Frames R path → Holds b → Holds (record b { path = path })
  at_path b path f h = (f, h.1, h.2, h.3)

  without_marker-Entries : (entries : List Entry) → Entries entries → Entries (without_last_marker entries)
  without_marker-Entries [] h = tt
  without_marker-Entries (marker ∷ entries) h = h.1
  without_marker-Entries (formatting k tag ∷ entries) h = without_marker-Entries entries h.1

  pub clear-Holds : (b : Builder) → Holds b → Holds (clear_to_last_marker b)
  clear-Holds b h = (h.0, without_marker-Entries b.active h.1, h.2, h.3)

  pub marker-Holds : (b : Builder) → Holds b → Holds (insert_marker b)
  marker-Holds b h = (h.0, (tt, h.1), h.2, h.3)

  -- what is popped

  pub pop-Holds : (b : Builder) → Holds b → Holds (pop_current_node b)
  pop-Holds b h = (popped-Frames R b.path h.0, h.1, h.2, h.3)

  pub pop_until-Holds : (test : Tag → Bool) (b : Builder) → Holds b → Holds (pop_until test b)
  pop_until-Holds test b h = (popped_through-Frames R _ b.path h.0, h.1, h.2, h.3)

  pub implied-Holds : (but : Tag → Bool) (b : Builder) → Holds b → Holds (generate_implied_end_tags_except_for but b)
  implied-Holds but b h = (implied_closed-Frames R but b.path h.0, h.1, h.2, h.3)

  pub close-Holds : (but test : Tag → Bool) (b : Builder) → Holds b → Holds (close_except_for but test b)
  close-Holds but test b h = pop_until-Holds test (generate_implied_end_tags_except_for but b) (implied-Holds but b h)

  pub back_to-Holds : (test : Tag → Bool) (b : Builder) → Holds b → Holds (clear_stack_back_to test b)
  back_to-Holds test b h = (popped_to-Frames R _ b.path h.0, h.1, h.2, h.3)

  -- what is inserted

  pub insert_at-Holds : (place : Place) (tag : Tag) (b : Builder) → R.Opens tag → Holds b → Holds (insert_element_at place tag b)
  insert_at-Holds place tag b o h = (pushed_at-Frames R place b.next tag place b.path o h.0, h.1, h.2, h.3)

  pub insert-Holds : (tag : Tag) (b : Builder) → R.Opens tag → Holds b → Holds (insert_element tag b)
  insert-Holds tag b o h = insert_at-Holds (appropriate_place b) tag b o h

  pub alone_at-Holds : (place : Place) (tag : Tag) (b : Builder) → R.Stands tag → Holds b → Holds (insert_and_pop_at place tag b)
  alone_at-Holds place tag b s h = (put-Frames R place (and_element no_nodes tag no_nodes) b.path (alone-Good R tag s) h.0, h.1, h.2, h.3)

  pub alone-Holds : (tag : Tag) (b : Builder) → R.Stands tag → Holds b → Holds (insert_and_pop tag b)
  alone-Holds tag b s h = alone_at-Holds (appropriate_place b) tag b s h

  pub bytes-Holds : (bytes : List ℕ) (b : Builder) → AreWords R bytes → Holds b → Holds (insert_bytes bytes b)
  bytes-Holds bytes b t h = (put-Frames R (appropriate_place b) (and_text no_nodes (marked b.marks bytes)) b.path ((t, h.3.gaps), (λ _. refl), tt) h.0, h.1, h.2, h.3)

  pub character-Holds : (c : ℕ) (b : Builder) → R.Says c → Holds b → Holds (insert_character c b)
  character-Holds c b s h = bytes-Holds (c ∷ []) b ((λ _. tt), (s, tt)) h

  pub comment_at-Holds : (place : Place) (bytes : Marked (List ℕ)) (b : Builder) → R.Notes bytes → Holds b → Holds (insert_comment_at place bytes b)
  comment_at-Holds place bytes b n h = (put-Frames R place (and_comment no_nodes bytes) b.path (n, tt) h.0, h.1, h.2, h.3)

  pub comment-Holds : (bytes : Marked (List ℕ)) (b : Builder) → R.Notes bytes → Holds b → Holds (insert_comment bytes b)
  comment-Holds bytes b n h = comment_at-Holds (appropriate_place b) bytes b n h

  pub attributes-Holds : (k : ℕ) (more : List Attribute) (b : Builder) → R.Adds more → Holds b → Holds (add_attributes k more b)
  attributes-Holds k more b a h = (more-Frames R k more b.path a h.0, h.1, h.2, h.3)

  pub raw_text_at-Holds : (place : Place) (tag : Tag) (b : Builder) → R.Opens tag → R.Reads (state_inside tag.name) → Holds b → Holds (parse_raw_text_at place tag b)
  raw_text_at-Holds place tag b o r h = let put = insert_at-Holds place tag b o h in (put.0, put.1, put.2, record { state = r; around = h.3.around; scripts = h.3.scripts; excess = h.3.excess; gaps = h.3.gaps })

  pub raw_text-Holds : (tag : Tag) (b : Builder) → R.Opens tag → R.Reads (state_inside tag.name) → Holds b → Holds (parse_raw_text tag b)
  raw_text-Holds tag b o r h = raw_text_at-Holds (appropriate_place b) tag b o r h

  -- the list of active formatting elements

  earliest-Entries : (own : Tag) (entries : List Entry) → Entries entries → Entries (without_earliest own entries)
  earliest-Entries own [] h = tt
  earliest-Entries own (marker ∷ entries) h = h
  earliest-Entries own (formatting k tag ∷ entries) h =
      cond_both (is_alike own tag && (alike_count own entries == 0)) _ _ Entries (λ _. h.1) (λ _. (h.0, earliest-Entries own entries h.1))

  room-Entries : (own : Tag) (entries : List Entry) → Entries entries → Entries (with_room own entries)
  room-Entries own entries h =
      cond_both (nat_lt 2 (alike_count own entries)) _ _ Entries (λ _. earliest-Entries own entries h) (λ _. h)

  pub formatting-Holds : (tag : Tag) (b : Builder) → R.Opens tag → Holds b → Holds (insert_formatting_element tag b)
  formatting-Holds tag b o h = let put = insert-Holds tag b o h in (put.0, (o, room-Entries tag b.active h.1), h.2, h.3)

  reopen-Holds : (tag : Tag) (b : Builder) → R.Opens tag → Holds b → Holds (reopen tag b)
  reopen-Holds tag b o h = let put = insert-Holds tag b o h in (put.0, (o, h.1), h.2, h.3)

  reopen_each-Holds : (b : Builder) (entries : List Entry) → Holds b → Entries entries → Holds (reopen_each b entries)
  reopen_each-Holds b [] h e = (h.0, tt, h.2, h.3)
  reopen_each-Holds b (marker ∷ entries) h e = (h.0, e, h.2, h.3)
  reopen_each-Holds b (formatting k tag ∷ entries) h e =
      elim (is_open_number k b.path) as (λ v. Holds (elim v as (λ _. Builder) [
        | true ↦ record b { active = formatting k tag ∷ entries }
        | false ↦ reopen tag (reopen_each b entries)
      ])) [
        | true ↦ (h.0, e, h.2, h.3)
        | false ↦ reopen-Holds tag (reopen_each b entries) e.0 (reopen_each-Holds b entries h e.1)
      ]

  pub reconstruct-Holds : (b : Builder) → Holds b → Holds (reconstruct_formatting b)
  reconstruct-Holds b h = reopen_each-Holds b b.active h h.1

  -- templates

  pub reset-Holds : (b : Builder) → Holds b → Holds (reset_insertion_mode b)
  reset-Holds b h = h

  pub close_template-Holds : (b : Builder) → Holds b → Holds (close_template b)
  close_template-Holds b h = clear-Holds (pop_until is_template b) (pop_until-Holds is_template b h)

  pub template_end_tag-Holds : (b : Builder) → Holds b → Holds (template_end_tag b)
  template_end_tag-Holds b h =
      let closed : Builder = with_path b (popped_while (λ (f : Frame). is_implied_thoroughly f.tag) b.path) in
      either (has_template b) (close_template closed) b
      (close_template-Holds closed (popped_while-Frames R (λ (f : Frame). is_implied_thoroughly f.tag) b.path h.0, h.1, h.2, h.3))
      h
