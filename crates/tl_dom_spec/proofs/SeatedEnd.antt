-- The end of a page: where the end of the file is done with, the body is there, and all that is open is settled.
use Rattle.std.proofs.Common.{Bool, List, [], ap, arith, false, if◌then◌else◌, inl, inr, length, map, not, refl, subst, suc, sym, true, true≢false, zero, ℕ, ◌&&◌, ◌∙◌, ◌∷◌, ◌≡◌, ◌≤◌, ◌⊎◌}
use Rattle.std.specs.Prelude.{nat_lt, ⊤}
use Rattle.std.proofs.lemmas.Bool.{and_right, cases_Bool, cond_both, or_left, or_right}
use Rattle.tl_dom_spec.specs.Tags.{Tag, is_template}
use Rattle.tl_dom_spec.specs.Path.{Frame, Nodes, Path, Place, and_element, behind, caught_up, elements, has_tag, here, into, into_head, joined, no_frame, node_of, on_top, settled_at, settled_while, top_settled, with_nodes, within}
use Rattle.tl_dom_spec.specs.Builder.{Again, Builder, Done, Mode, Outcome, after_after_body, after_after_frameset, after_body, after_frameset, after_head, before_head, before_html, end_of_file, has_template, in_body, in_caption, in_cell, in_column_group, in_frameset, in_head, in_head_noscript, in_row, in_table, in_table_body, in_table_text, in_template, initial, repeated, text_mode}
use Rattle.tl_dom_spec.specs.Reset.{close_template}
use Rattle.tl_dom_spec.specs.Body.{file_ended}
use Rattle.tl_dom_spec.specs.Dispatcher.{bound, calm, dispatch, excess_of, is_line_feed, mode_step, token_done}
use Rattle.tl_dom_spec.specs.HtmlTree.{any_frame}
use Rattle.tl_dom_spec.specs.Lawful.{IsDoneWith, is_done_within}
use Rattle.tl_dom_spec.proofs.SeatedPaths.{AreComments, HtmlAlone, Rest, Seated, behind_head, body-settled, bodied, cell, high, inside, joined-body, joined-html, off-Seated, rooted, under_head}
use Rattle.tl_dom_spec.proofs.SeatedBuilders.{Deep}
use Rattle.tl_dom_spec.proofs.Grounds.{Ground, below_three, closed_off, deep, headed, heading, in_noscript, low_most, opened}
use Rattle.tl_dom_spec.proofs.SeatedBody.{Stage, ground, in_text}
use Rattle.tl_dom_spec.proofs.SeatedRules.{three_is}
use Rattle.tl_dom_spec.proofs.SeatedForeign.{fits_in}
use Rattle.tl_dom_spec.proofs.SeatedPages.{PageAfter, PageStage, at_head, at_html, at_initial, calm-Page, page-dispatch, staged}

-- a template is open, where the body isn't there

high_template : {S L : List ℕ} {N : ℕ} {ok : Bool} {low m : ℕ} {tg : Tag} {path : Path} → low ≡ 3 → Seated S L N ok low m tg path → within (has_tag is_template) no_frame (elements path) ≡ true
high_template e (high t rest b i r) =
    ap (within (has_tag is_template) no_frame) (opened t rest b.open_still) ∙ or_left (is_template t.tag) _ (ap (λ x. is_template x) b.tag ∙ i)
high_template e (bodied g h d b p i r a w z) = absurd (omega (arith, e))
high_template e (rooted h d r z n b) = absurd (omega (arith, e))
high_template e (cell f p b l i s) = ap (within (has_tag is_template) no_frame) (opened f p b.open_still) ∙ or_right (is_template f.tag) _ (high_template e s)
high_template e (inside f p l s) =
    elim (cases_Bool f.is_open) [
      | inr c ↦ ap (within (has_tag is_template) no_frame) (closed_off f p c) ∙ high_template e s
      | inl o ↦ ap (within (has_tag is_template) no_frame) (opened f p o) ∙ or_right (is_template f.tag) _ (high_template e s)
    ]

-- the end of the file

abbrev pub Settled : Builder → Type 0
Settled b = (low : ℕ) × (md : Mode) × (low ≤ 2) × Deep low md b

abbrev WhereDone : Outcome → Type 0
WhereDone (Done b) = Settled b
WhereDone (Again b) = ⊤

file-done : (low : ℕ) (md : Mode) (b : Builder) → Deep low md b → WhereDone (file_ended b)
file-done low md b d =
    cond_both (has_template b) (Again (close_template b)) (Done b) WhereDone (λ _. tt)
    (λ n. (low, md, below_three low (λ three. true≢false (sym (high_template (three_is low three (low_most d.held.seats)) d.held.seats) ∙ n)), d))

mode-done : (low : ℕ) (md : Mode) (b : Builder) → Deep low md b → WhereDone (mode_step md b end_of_file)
mode-done low initial b d = tt
mode-done low before_html b d = tt
mode-done low before_head b d = tt
mode-done low in_head b d = tt
mode-done low in_head_noscript b d = tt
mode-done low after_head b d = tt
mode-done low text_mode b d = tt
mode-done low in_body b d = file-done low in_body b d
mode-done low in_table b d = file-done low in_table b d
mode-done low in_table_text b d = tt
mode-done low in_caption b d = file-done low in_caption b d
mode-done low in_column_group b d = file-done low in_column_group b d
mode-done low in_table_body b d = file-done low in_table_body b d
mode-done low in_row b d = file-done low in_row b d
mode-done low in_cell b d = file-done low in_cell b d
mode-done low in_template b d = file-done low in_template b d
mode-done low after_body b d = (low, after_body, fits_in low after_body b d, d)
mode-done low in_frameset b d = (low, in_frameset, fits_in low in_frameset b d, d)
mode-done low after_frameset b d = (low, after_frameset, fits_in low after_frameset b d, d)
mode-done low after_after_body b d = (low, after_after_body, fits_in low after_after_body b d, d)
mode-done low after_after_frameset b d = (low, after_after_frameset, fits_in low after_after_frameset b d, d)

at_mode : (b : Builder) (m : Mode) → b.mode ≡ m → WhereDone (mode_step m b end_of_file) → WhereDone (dispatch end_of_file b)
at_mode b m e h = subst (λ x. WhereDone (mode_step x b end_of_file)) (sym e) h

ground-done : (b : Builder) → Ground b → WhereDone (dispatch end_of_file b)
ground-done b (deep {low} {md} d) = at_mode b md d.mode_is (mode-done low md b d)
ground-done b (heading e r y) = at_mode b in_head e tt
ground-done b (in_noscript f rest e m n r y) = at_mode b in_head_noscript m tt
ground-done b (headed e r y) = at_mode b after_head e tt

stage-done : (b : Builder) → Stage b → WhereDone (dispatch end_of_file b)
stage-done b (ground g) = ground-done b g
stage-done b (in_text x p e s m h t c w) = at_mode b text_mode m tt

page-done : (b : Builder) → PageStage b → WhereDone (dispatch end_of_file b)
page-done b (at_initial d e k h m f) = at_mode b initial m tt
page-done b (at_html d e k h m f) = at_mode b before_html m tt
page-done b (at_head h d e r c w k m f) = at_mode b before_head m tt
page-done b (staged s) = stage-done b s

repeated-done : (n : ℕ) (o : Outcome) → PageAfter o → WhereDone o → is_done_within n (dispatch end_of_file) o ≡ true → Settled (repeated n (dispatch end_of_file) o)
repeated-done n (Done b) s h e = h
repeated-done zero (Again b) s h e = absurd (true≢false (sym e))
repeated-done (suc n) (Again b) s h e = repeated-done n (dispatch end_of_file b) (page-dispatch b end_of_file tt s) (page-done b s) e

pub file-Settled : (b : Builder) → PageStage b → IsDoneWith b end_of_file → Settled (token_done b end_of_file)
file-Settled b s e =
    let taken : Builder = if b.skips && is_line_feed end_of_file then calm b else repeated (bound b) (dispatch end_of_file) (Again (calm b)) in
    let done : Settled taken =
    cond_both (b.skips && is_line_feed end_of_file) (calm b) (repeated (bound b) (dispatch end_of_file) (Again (calm b))) Settled
    (λ y. absurd (true≢false (sym y ∙ and_right b.skips false refl)))
    (λ _. repeated-done (bound b) (Again (calm b)) (calm-Page b s) tt e) in
    let counted : Builder = record taken { tokens = suc taken.tokens } in
    cond_both (nat_lt counted.excess (excess_of counted)) (record counted { excess = excess_of counted }) counted Settled (λ _. done) (λ _. done)

-- all is settled: the document is left

map-length : (change : Frame → Frame) (path : Path) → length (map change path) ≡ length path
map-length change [] = refl
map-length change (f ∷ path) = ap suc (map-length change path)

on_top-length : (change : Frame → Frame) (path : Path) → length (on_top change path) ≡ length path
on_top-length change [] = refl
on_top-length change (f ∷ path) = refl

settled_at-length : (place : Place) (nodes : Nodes) (path : Path) → length (settled_at place nodes path) ≡ length path
settled_at-length here nodes path = on_top-length _ path
settled_at-length (into k) nodes path = map-length _ path
settled_at-length (behind k) nodes path = map-length _ path
settled_at-length into_head nodes path = on_top-length _ path

top_settled-length : (n : ℕ) (f : Frame) (path : Path) → length (f ∷ path) ≤ suc (suc n) → length (top_settled (f ∷ path)) ≤ suc n
top_settled-length n f [] l = omega arith
top_settled-length n f (g ∷ path) l = omega (arith, l, settled_at-length f.place (node_of f) (g ∷ path))

abbrev pub IsWhole : Path → Type 0
IsWhole path = (d : Frame) × (path ≡ d ∷ []) × HtmlAlone d.children × AreComments d.waiting

module _ (S L : List ℕ) (N : ℕ) (ok : Bool) where
  abbrev Left : Path → Type 0
  Left path = ((low m : ℕ) × (tg : Tag) × (low ≤ 2) × Seated S L N ok low m tg path) ⊎ IsWhole path

  off-left : {low m : ℕ} {tg : Tag} (path : Path) → low ≤ 2 → Seated S L N ok low m tg path → Left (top_settled path)
  off-left path two (high t rest b i r) = absurd (omega (arith, two))
  off-left path two (bodied g h d b p i r a w e) = inl (1, 1, h.tag, omega arith, body-settled S L N ok g h d b p i r a e)
  off-left path two (rooted h d r e n b) =
      inr (subst (λ x. IsWhole (settled_at x (node_of h) (d ∷ []))) (sym r.place) (
        caught_up (with_nodes (node_of h) d),
        refl,
        joined-html (and_element d.children h.tag (joined h.children h.waiting)) d.waiting (r.tag, b.plain, joined-body h.children h.waiting n) b.notes,
        tt,
      ))
  off-left {low} path two (cell f p b l i s) = inl (low, _, _, two, off-Seated S L N ok f l.place s)
  off-left {low} {m} {tg} path two (inside f p l s) = inl (low, m, tg, two, off-Seated S L N ok f l.place s)

  left-off : (path : Path) → Left path → Left (top_settled path)
  left-off path (inl t) = off-left path t.3 t.4
  left-off path (inr w) = inr (w.0, ap top_settled w.1, w.2, w.3)

  rest_length : (place : Place) (path : Path) → Rest place path → 1 ≤ length path
  rest_length place path (under_head f h d q r i w e) = omega arith
  rest_length place path (behind_head h d r i w e) = omega arith

  two_frames : {low m : ℕ} {tg : Tag} (path : Path) → Seated S L N ok low m tg path → 2 ≤ length path
  two_frames path (high t rest b i r) = omega (arith, rest_length t.place rest r)
  two_frames path (bodied g h d b p i r a w e) = omega arith
  two_frames path (rooted h d r e n b) = omega arith
  two_frames path (cell f p b l i s) = omega (arith, two_frames p s)
  two_frames path (inside f p l s) = omega (arith, two_frames p s)

  one_left : (path : Path) → length path ≤ 1 → Left path → IsWhole path
  one_left path l (inl t) = absurd (omega (arith, l, two_frames path t.4))
  one_left path l (inr w) = w

  next_settled : (c top : Frame) (count path : Path) → settled_while any_frame (c ∷ count) (top ∷ path) ≡ settled_while any_frame count (top_settled (top ∷ path))
  next_settled c top count path =
      ap (λ v. elim v as (λ _. Path) [
        | true ↦ settled_while any_frame count (top_settled (top ∷ path))
        | false ↦ top ∷ path
      ]) (or_right (not top.is_open) true refl)

  no_left : Left [] → ⊥
  no_left (inl t) = omega (arith, two_frames [] t.4)
  no_left (inr w) = omega (arith, ap length w.1)

  pub all_settled : (count path : Path) → length path ≤ suc (length count) → Left path → IsWhole (settled_while any_frame count path)
  all_settled [] path l s = one_left path l s
  all_settled (c ∷ count) [] l s = absurd (no_left s)
  all_settled (c ∷ count) (top ∷ path) l s =
      subst IsWhole (sym (next_settled c top count path))
      (all_settled count (top_settled (top ∷ path)) (top_settled-length (length count) top path l) (left-off (top ∷ path) s))

pub whole_of : (b : Builder) → Settled b → IsWhole (settled_while any_frame b.path b.path)
whole_of b s =
    let d = s.3 in
    all_settled d.S d.L b.next b.is_frameset_ok b.path b.path (omega arith) (inl (s.0, d.m, d.tg, s.2, d.held.seats))
