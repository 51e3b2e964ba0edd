-- Where each character of a text does the same, all of it is taken at once.
use Rattle.std.proofs.Common.{ap, ap₂, arith, inl, inr, refl, subst, sym, ◌∙◌, ◌≡◌, ◌+◌, ◌*◌, ◌-◌, ◌<◌, ◌&&◌, ◌∷◌, [], Bool, List, cond, false, filter, if◌then◌else◌, length, map, not, suc, true, zero, ℕ}
use Rattle.std.proofs.lemmas.Bool.{and_left, and_parts, cond-false, cond-true, false≢true, leb-true, le-ltb}
use Rattle.std.specs.Char.{is_ascii_whitespace}
use Rattle.std.specs.Prelude.{◌==◌}
use Rattle.tl_dom_spec.proofs.RunsFirst.{Counted, counted}
use Rattle.tl_dom_spec.proofs.RunsNext.{count_same, run_Counted, run_counted, run_rest, run_starts, split}
use Rattle.tl_dom_spec.proofs.RunsStarts.{AtRest, Calm, ModeRest, Rebuilt, content, content_text, rebuilt_same}
use Rattle.tl_dom_spec.specs.Body.{body_character}
use Rattle.tl_dom_spec.specs.Builder.{Again, Builder, Done, Mode, a_character, after_after_body, after_after_frameset, after_body, after_frameset, after_head, before_head, before_html, formatting, frameset_not_ok, in_body, in_caption, in_cell, in_column_group, in_frameset, in_head, in_head_noscript, in_row, in_table, in_table_body, in_table_text, in_template, initial, insert_character, marker, repeated, text_mode}
use Rattle.tl_dom_spec.specs.Dispatcher.{bound, calm, count_token, dispatch, foreign_step, html_step, mode_step, token_done, tokens_done}
use Rattle.tl_dom_spec.specs.Formatting.{reconstruct_formatting}
use Rattle.tl_dom_spec.specs.Runs.{count_tokens, goes_in, html_run, insert_text, plain, run_dispatched, run_taken, with_replacements}
use Rattle.tl_tree.proofs.Sought.{is-shut}
use Rattle.tl_tree.specs.Inner.AtRest.{is_at_rest, is_counted, is_open_or_none, is_rebuilt, latest_of, rests}
use Rattle.tl_tree.specs.Inner.RunBytes.{is_not_null}

-- One character by the rules of "in body"

in-body-by : (c : ℕ) (null white : Bool) (b : Builder) → (c == 0) ≡ null → is_ascii_whitespace c ≡ white → reconstruct_formatting b ≡ b → b.is_frameset_ok ≡ false → body_character c b ≡ cond null b (insert_character c b)
in-body-by c true white b z w r q =
    cond-true (c == 0) b (if is_ascii_whitespace c then insert_character c (reconstruct_formatting b) else frameset_not_ok (insert_character c (reconstruct_formatting b))) z
in-body-by c false true b z w r q =
    cond-false (c == 0) b (if is_ascii_whitespace c then insert_character c (reconstruct_formatting b) else frameset_not_ok (insert_character c (reconstruct_formatting b))) z
    ∙ cond-true (is_ascii_whitespace c) (insert_character c (reconstruct_formatting b)) (frameset_not_ok (insert_character c (reconstruct_formatting b))) w
    ∙ ap (insert_character c) r
in-body-by c false false b z w r q =
    cond-false (c == 0) b (if is_ascii_whitespace c then insert_character c (reconstruct_formatting b) else frameset_not_ok (insert_character c (reconstruct_formatting b))) z
    ∙ cond-false (is_ascii_whitespace c) (insert_character c (reconstruct_formatting b)) (frameset_not_ok (insert_character c (reconstruct_formatting b))) w
    ∙ ap (λ own. frameset_not_ok (insert_character c own)) r
    ∙ ap (λ ok. record (insert_character c b) { is_frameset_ok = ok }) (sym q)

kept-one : (c : ℕ) (null : Bool) (b : Builder) → (c == 0) ≡ null → cond null b (insert_character c b) ≡ insert_text (filter is_not_null (c ∷ [])) b
kept-one c true b z = ap (λ v. insert_text (cond (not v) (c ∷ []) []) b) (sym z)
kept-one c false b z = ap (λ v. insert_text (cond (not v) (c ∷ []) []) b) (sym z)

in-body-one : (c : ℕ) (b : Builder) → reconstruct_formatting b ≡ b → b.is_frameset_ok ≡ false → body_character c b ≡ insert_text (filter is_not_null (c ∷ [])) b
in-body-one c b r q = in-body-by c (c == 0) (is_ascii_whitespace c) b refl refl r q ∙ kept-one c (c == 0) b refl

-- What holds of the builder

rebuilt-at : (b : Builder) → is_rebuilt b ≡ true → Rebuilt b.active b.path
rebuilt-at b e = go b.active e
  where
    go : (entries : List _) → is_open_or_none (latest_of entries) b.path ≡ true → Rebuilt entries b.path
    go [] e = tt
    go (marker ∷ entries) e = tt
    go (formatting k tag ∷ entries) e = e

body-rest : (b : Builder) → (not b.is_frameset_ok && is_rebuilt b) ≡ true → Rebuilt b.active b.path × (b.is_frameset_ok ≡ false)
body-rest b e =
    let p = and_parts (not b.is_frameset_ok) (is_rebuilt b) e in
    (rebuilt-at b p.1, is-shut b.is_frameset_ok p.0)

mode-rest : (m : Mode) (b : Builder) → rests m (not b.is_frameset_ok && is_rebuilt b) ≡ true → ModeRest m plain b
mode-rest text_mode b e = tt
mode-rest in_body b e = body-rest b e
mode-rest in_caption b e = body-rest b e
mode-rest in_cell b e = body-rest b e
mode-rest in_template b e = body-rest b e
mode-rest initial b e = absurd (false≢true e)
mode-rest before_html b e = absurd (false≢true e)
mode-rest before_head b e = absurd (false≢true e)
mode-rest in_head b e = absurd (false≢true e)
mode-rest in_head_noscript b e = absurd (false≢true e)
mode-rest after_head b e = absurd (false≢true e)
mode-rest in_table b e = absurd (false≢true e)
mode-rest in_table_text b e = absurd (false≢true e)
mode-rest in_column_group b e = absurd (false≢true e)
mode-rest in_table_body b e = absurd (false≢true e)
mode-rest in_row b e = absurd (false≢true e)
mode-rest after_body b e = absurd (false≢true e)
mode-rest in_frameset b e = absurd (false≢true e)
mode-rest after_frameset b e = absurd (false≢true e)
mode-rest after_after_body b e = absurd (false≢true e)
mode-rest after_after_frameset b e = absurd (false≢true e)

-- what a character does in one of these modes
mode-one : (m : Mode) (c : ℕ) (b : Builder) → rests m true ≡ true → ModeRest m plain b → mode_step m b (a_character c) ≡ Done (html_run m (filter (goes_in m) (c ∷ [])) b)
mode-one text_mode c b e r = refl
mode-one in_body c b e r = ap Done (in-body-one c b (rebuilt_same b r.0) r.1)
mode-one in_caption c b e r = ap Done (in-body-one c b (rebuilt_same b r.0) r.1)
mode-one in_cell c b e r = ap Done (in-body-one c b (rebuilt_same b r.0) r.1)
mode-one in_template c b e r = ap Done (in-body-one c b (rebuilt_same b r.0) r.1)
mode-one initial c b e r = absurd (false≢true e)
mode-one before_html c b e r = absurd (false≢true e)
mode-one before_head c b e r = absurd (false≢true e)
mode-one in_head c b e r = absurd (false≢true e)
mode-one in_head_noscript c b e r = absurd (false≢true e)
mode-one after_head c b e r = absurd (false≢true e)
mode-one in_table c b e r = absurd (false≢true e)
mode-one in_table_text c b e r = absurd (false≢true e)
mode-one in_column_group c b e r = absurd (false≢true e)
mode-one in_table_body c b e r = absurd (false≢true e)
mode-one in_row c b e r = absurd (false≢true e)
mode-one after_body c b e r = absurd (false≢true e)
mode-one in_frameset c b e r = absurd (false≢true e)
mode-one after_frameset c b e r = absurd (false≢true e)
mode-one after_after_body c b e r = absurd (false≢true e)
mode-one after_after_frameset c b e r = absurd (false≢true e)

-- a run is inserted in these modes
run-inserted : (m : Mode) (bytes : List ℕ) (b : Builder) → rests m true ≡ true → html_run m bytes b ≡ insert_text bytes b
run-inserted in_table bytes b e = absurd (false≢true e)
run-inserted in_table_text bytes b e = absurd (false≢true e)
run-inserted in_table_body bytes b e = absurd (false≢true e)
run-inserted in_row bytes b e = absurd (false≢true e)
run-inserted text_mode bytes b e = refl
run-inserted in_body bytes b e = refl
run-inserted in_caption bytes b e = refl
run-inserted in_cell bytes b e = refl
run-inserted in_template bytes b e = refl
run-inserted initial bytes b e = refl
run-inserted before_html bytes b e = refl
run-inserted before_head bytes b e = refl
run-inserted in_head bytes b e = refl
run-inserted in_head_noscript bytes b e = refl
run-inserted after_head bytes b e = refl
run-inserted in_column_group bytes b e = refl
run-inserted after_body bytes b e = refl
run-inserted in_frameset bytes b e = refl
run-inserted after_frameset bytes b e = refl
run-inserted after_after_body bytes b e = refl
run-inserted after_after_frameset bytes b e = refl

inserted-mode : (bytes : List ℕ) (b : Builder) → (insert_text bytes b).mode ≡ b.mode
inserted-mode [] b = refl
inserted-mode (c ∷ bytes) b = refl

-- where each character does the same
record Whole (b : Builder) : Type 0 where
  rest : AtRest plain b
  inside : content b ≡ true
  own : rests b.mode true ≡ true
  few : Counted b

run-whole : (run : List ℕ) (b : Builder) → Whole b → run_dispatched run b ≡ insert_text (filter (goes_in b.mode) run) b
run-whole run b w =
    cond-true (content b) (html_run b.mode (filter (goes_in b.mode) run) b) (insert_text (with_replacements run) b) w.inside
    ∙ run-inserted b.mode (filter (goes_in b.mode) run) b w.own

mode-rest-of : (b : Builder) → Whole b → ModeRest b.mode plain b
mode-rest-of b w = elim w.rest.1 [
  | inl h ↦ h.1
  | inr f ↦ absurd (false≢true (sym f.0 ∙ w.inside))
]

calm-same : (b : Builder) → Calm b → calm b ≡ b
calm-same b l = ap₂ (λ s r. record b { skips = s; reads = r }) (sym l.0) (sym l.1)

once : (n c : ℕ) (b x : Builder) → 0 < n → dispatch (a_character c) b ≡ Done x → repeated n (dispatch (a_character c)) (Again b) ≡ x
once zero c b x l e = absurd (omega (arith, l))
once (suc n) c b x l e = ap (repeated n (dispatch (a_character c))) e

one-step : (c : ℕ) (b : Builder) → Whole b → dispatch (a_character c) b ≡ Done (run_dispatched (c ∷ []) b)
one-step c b w =
    cond-true (content b) (html_step b (a_character c)) (foreign_step b (a_character c)) w.inside
    ∙ mode-one b.mode c b w.own (mode-rest-of b w)
    ∙ ap Done (sym (cond-true (content b) (html_run b.mode (filter (goes_in b.mode) (c ∷ [])) b) (insert_text (with_replacements (c ∷ [])) b) w.inside))

one-done : (c : ℕ) (b : Builder) → Whole b → token_done b (a_character c) ≡ count_tokens 1 (run_dispatched (c ∷ []) b)
one-done c b w =
    let steps : Builder = repeated (bound b) (dispatch (a_character c)) (Again (calm b)) in
    let x : Builder = run_dispatched (c ∷ []) b in
    ap (λ (z : Builder). record (count_token z) { marks = b.marks })
    (cond-false (b.skips && (c == 10)) (calm b) steps (and_left b.skips (c == 10) w.rest.0.0)
    ∙ ap (λ z. repeated (bound b) (dispatch (a_character c)) (Again z)) (calm-same b w.rest.0)
    ∙ once (bound b) c b x (omega arith) (one-step c b w))
    ∙ ap (λ (z : Builder). record z { marks = b.marks }) (count_same x (run_Counted (c ∷ []) b w.few))
    ∙ ap (λ (n : ℕ). record (count_tokens 1 x) { marks = n }) (sym (run_starts (c ∷ []) b))

whole-kept : (c : ℕ) (b : Builder) → Whole b → Whole (count_tokens 1 (run_dispatched (c ∷ []) b))
whole-kept c b w =
    let x : Builder = run_dispatched (c ∷ []) b in
    let bytes = filter (goes_in b.mode) (c ∷ []) in
    let is = run-whole (c ∷ []) b w in
    record {
      rest = run_rest plain (c ∷ []) b w.rest;
      inside = ap content is ∙ content_text bytes b ∙ w.inside;
      own = ap (λ (own : Builder). rests own.mode true) is ∙ ap (λ m. rests m true) (inserted-mode bytes b) ∙ w.own;
      few = subst Counted (count_same x (run_Counted (c ∷ []) b w.few)) (counted x);
    }

counted-more : (n : ℕ) (b : Builder) → count_tokens n (count_tokens 1 b) ≡ count_tokens (suc n) b
counted-more n b = ap (λ (m : ℕ). record b { tokens = m }) (omega arith)

all-taken : (c : ℕ) (run : List ℕ) (b : Builder) → Whole b → tokens_done b (map a_character (c ∷ run)) ≡ count_tokens (length (c ∷ run)) (run_dispatched (c ∷ run) b)
all-taken c [] b w = one-done c b w
all-taken c (d ∷ run) b w =
    let y : Builder = run_dispatched (c ∷ []) b in
    ap (λ z. tokens_done z (map a_character (d ∷ run))) (one-done c b w)
    ∙ all-taken d run (count_tokens 1 y) (whole-kept c b w)
    ∙ ap (count_tokens (length (d ∷ run))) (run_counted (d ∷ run) 1 y)
    ∙ counted-more (length (d ∷ run)) (run_dispatched (d ∷ run) y)
    ∙ ap (count_tokens (length (c ∷ d ∷ run))) (sym (split c (d ∷ run) b))

-- From what is tested

rests-more : (m : Mode) (body : Bool) → rests m body ≡ true → rests m true ≡ true
rests-more m true e = e
rests-more text_mode false e = refl
rests-more in_body false e = refl
rests-more in_caption false e = refl
rests-more in_cell false e = refl
rests-more in_template false e = refl
rests-more initial false e = absurd (false≢true e)
rests-more before_html false e = absurd (false≢true e)
rests-more before_head false e = absurd (false≢true e)
rests-more in_head false e = absurd (false≢true e)
rests-more in_head_noscript false e = absurd (false≢true e)
rests-more after_head false e = absurd (false≢true e)
rests-more in_table false e = absurd (false≢true e)
rests-more in_table_text false e = absurd (false≢true e)
rests-more in_column_group false e = absurd (false≢true e)
rests-more in_table_body false e = absurd (false≢true e)
rests-more in_row false e = absurd (false≢true e)
rests-more after_body false e = absurd (false≢true e)
rests-more in_frameset false e = absurd (false≢true e)
rests-more after_frameset false e = absurd (false≢true e)
rests-more after_after_body false e = absurd (false≢true e)
rests-more after_after_frameset false e = absurd (false≢true e)

whole-at-rest : (b : Builder) → is_at_rest b ≡ true → Whole (calm b)
whole-at-rest b e =
    let body = not b.is_frameset_ok && is_rebuilt b in
    let p = and_parts (not b.skips) (rests b.mode body && (is_counted b && content b)) e in
    let q = and_parts (rests b.mode body) (is_counted b && content b) p.1 in
    let r = and_parts (is_counted b) (content b) q.1 in
    let least = leb-true b.added (4 * b.tokens + b.excess) r.0 in
    record {
      rest = ((refl, refl), inl (r.1, mode-rest b.mode (calm b) q.0));
      inside = r.1;
      own = rests-more b.mode body q.0;
      few = le-ltb b.excess (b.added - 4 * b.tokens) (omega arith);
    }

calmed : (c : ℕ) (b : Builder) → b.skips ≡ false → token_done b (a_character c) ≡ token_done (calm b) (a_character c)
calmed c b e =
    ap (λ (z : Builder). record (count_token z) { marks = b.marks })
    (cond-false (b.skips && (c == 10)) (calm b) (repeated (bound b) (dispatch (a_character c)) (Again (calm b))) (and_left b.skips (c == 10) e))

pub whole-taken : (b : Builder) (text : List ℕ) → is_at_rest b ≡ true → 0 < length text → tokens_done b (map a_character text) ≡ run_taken text (calm b)
whole-taken b [] e some = absurd (omega arith)
whole-taken b (c ∷ run) e some =
    let p = and_parts (not b.skips) (rests b.mode (not b.is_frameset_ok && is_rebuilt b) && (is_counted b && content b)) e in
    ap (λ own. tokens_done own (map a_character run)) (calmed c b (is-shut b.skips p.0))
    ∙ all-taken c run (calm b) (whole-at-rest b e)

-- by the rules of HTML content
pub whole-in-html : (b : Builder) (text : List ℕ) → is_at_rest b ≡ true → 0 < length text → tokens_done b (map a_character text) ≡ count_tokens (length text) (html_run b.mode (filter (goes_in b.mode) text) (calm b))
whole-in-html b [] e some = absurd (omega arith)
whole-in-html b (c ∷ run) e some =
    let skips = and_parts (not b.skips) (rests b.mode (not b.is_frameset_ok && is_rebuilt b) && (is_counted b && content b)) e in
    let mode = and_parts (rests b.mode (not b.is_frameset_ok && is_rebuilt b)) (is_counted b && content b) skips.1 in
    let html = and_parts (is_counted b) (content b) mode.1 in
    whole-taken b (c ∷ run) e some
    ∙ ap (count_tokens (length (c ∷ run)))
    (cond-true (content b) (html_run b.mode (filter (goes_in b.mode) (c ∷ run)) (calm b)) (insert_text (with_replacements (c ∷ run)) (calm b)) html.1)
