-- A run of characters is taken whole.
use Rattle.std.proofs.Common.{◌≡◌, ◌⊎◌, ℕ, suc, zero, ◌<◌, ◌==◌, Bool, true, false, List, [], ◌∷◌, refl, ap, ap₂, sym, subst, inl, inr, ◌∙◌, if◌then◌else◌, arith, length, filter, map, append-nil, true≢false}
use Rattle.std.specs.Char.{is_ascii_whitespace}
use Rattle.std.specs.Prelude.{⊤, ◌++◌, ◌&&◌, not}
use Rattle.std.proofs.lemmas.Bool.{and_from, and_parts, and_left, or_right, cases_Bool, cond-false, cond-true, or_parts, eqb-true}
use Rattle.tl_html_spec.specs.HtmlTokenizer.{replacement}
use Rattle.tl_dom_spec.specs.Tags.{is_foster_target, is_template}
use Rattle.tl_dom_spec.specs.Marks.{marked}
use Rattle.tl_dom_spec.specs.Path.{Place, and_text, no_nodes, put, top}
use Rattle.tl_dom_spec.specs.Builder.{Again, Builder, Done, Mode, Outcome, a_character, after_after_body, after_after_frameset, after_body, after_frameset, after_head, before_head, before_html, current_tag, fostering, frameset_not_ok, in_body, in_caption, in_cell, in_column_group, in_frameset, in_head, in_head_noscript, in_row, in_table, in_table_body, in_table_text, in_template, initial, insert_bytes, insert_character, repeated, text_mode}
use Rattle.tl_dom_spec.specs.Formatting.{reconstruct_formatting}
use Rattle.tl_dom_spec.specs.Body.{body_character, in_body_step}
use Rattle.tl_dom_spec.specs.Tables.{after_column_group, column_group_closed, is_in_column_group, is_text_in_table, table_character, with_foster_parenting}
use Rattle.tl_dom_spec.specs.Outer.{back_in_body}
use Rattle.tl_dom_spec.specs.Dispatcher.{bound, calm, count_token, dispatch, foreign_character, foreign_step, html_step, mode_step, token_done, tokens_done}
use Rattle.tl_dom_spec.specs.Lawful.{EachCharacter}
use Rattle.tl_dom_spec.specs.Runs.{Kind, count_tokens, goes_in, html_run, insert_text, is_of_run, kind_of, null, plain, run_dispatched, run_taken, table_run, takes_any, white, with_replacements}
use Rattle.tl_dom_spec.proofs.RunsStarts.{AtRest, BodyRest, Calm, IsKind, IsWhite, ModeRest, Quiet, TableRest, content, no_white, rebuilt_same, reopened_rebuilt, seen}
use Rattle.tl_dom_spec.proofs.RunsFirst.{Counted, counted, first_rest}
use Rattle.tl_dom_spec.proofs.RunsNext.{count_same, not_null, of_run_by, run_Counted, run_counted, run_rest, run_starts, run_takes, split}

-- by the rules of "in body"

white_no_null : (c : ℕ) → is_ascii_whitespace c ≡ true → (c == 0) ≡ false
white_no_null c w = elim (cases_Bool (c == 0)) [
  | inl z ↦ absurd (true≢false (sym w ∙ ap is_ascii_whitespace (eqb-true c 0 z)))
  | inr n ↦ n
]

still_not_ok : (b : Builder) → b.is_frameset_ok ≡ false → frameset_not_ok b ≡ b
still_not_ok b e = ap (λ v. record b { is_frameset_ok = v }) (sym e)

null_next : (c : ℕ) (b : Builder) → (c == 0) ≡ true → body_character c b ≡ insert_text (filter not_null (c ∷ [])) b
null_next c b z = rw z refl

white_next : (c : ℕ) (b : Builder) → reconstruct_formatting b ≡ b → (c == 0) ≡ false → is_ascii_whitespace c ≡ true →
    body_character c b ≡ insert_text (filter not_null (c ∷ [])) b
white_next c b r z w =
    cond-false (c == 0) b _ z ∙ cond-true (is_ascii_whitespace c) (insert_character c (reconstruct_formatting b)) (frameset_not_ok (insert_character c (reconstruct_formatting b))) w
    ∙ ap (insert_character c) r ∙ ap (λ (v : Bool). insert_text (if v then c ∷ [] else []) b) (ap not (sym z))

plain_next : (c : ℕ) (b : Builder) → reconstruct_formatting b ≡ b → b.is_frameset_ok ≡ false → (c == 0) ≡ false → is_ascii_whitespace c ≡ false →
    body_character c b ≡ insert_text (filter not_null (c ∷ [])) b
plain_next c b r q z w =
    cond-false (c == 0) b _ z ∙ cond-false (is_ascii_whitespace c) (insert_character c (reconstruct_formatting b)) (frameset_not_ok (insert_character c (reconstruct_formatting b))) w
    ∙ ap (λ x. frameset_not_ok (insert_character c x)) r
    ∙ still_not_ok (insert_character c b) q
    ∙ ap (λ (v : Bool). insert_text (if v then c ∷ [] else []) b) (ap not (sym z))

-- what is of the run
abbrev Of : Kind → ℕ → Type 0
Of null c = (c == 0) ≡ true
Of white c = is_ascii_whitespace c ≡ true
Of plain c = ⊤

any_next : (k : Kind) (c : ℕ) (b : Builder) → IsKind k c → reconstruct_formatting b ≡ b → b.is_frameset_ok ≡ false →
    body_character c b ≡ insert_text (filter not_null (c ∷ [])) b
any_next null c b i r q = null_next c b i.0
any_next white c b i r q = white_next c b r i.0 i.1
any_next plain c b i r q = plain_next c b r q i.0 i.1

body_next : (k : Kind) (c : ℕ) (b : Builder) → Of k c → BodyRest k b → body_character c b ≡ insert_text (filter not_null (c ∷ [])) b
body_next null c b o r = null_next c b o
body_next white c b o r = white_next c b (rebuilt_same b r.0) (white_no_null c o) o
body_next plain c b o r = any_next (kind_of c) c b (seen c) (rebuilt_same b r.0) r.1

of_any : (m : Mode) (k : Kind) (c : ℕ) → is_of_run m k c ≡ true → Of k c
of_any m null c o = o
of_any m white c o = o
of_any m plain c o = tt

-- the rules end with a builder: at once, or where the token is reprocessed once

abbrev Ends : ℕ → Outcome → Builder → Type 0
Ends c o x = (o ≡ Done x) ⊎ ((y : Builder) × (o ≡ Again y) × (dispatch (a_character c) y ≡ Done x))

abbrev waits : Builder → List ℕ → Builder
waits b bytes = record b { pending = bytes; original = b.mode; mode = in_table_text }

waits_one : (c : ℕ) (b : Builder) → (if c == 0 then b else record b { pending = b.pending ++ c ∷ [] }) ≡ record b { pending = b.pending ++ filter not_null (c ∷ []) }
waits_one c b = elim (cases_Bool (c == 0)) [
  | inl y ↦ rw y (ap (λ (zs : List ℕ). record b { pending = zs }) (sym (append-nil b.pending)))
  | inr n ↦ rw n refl
]

fostered : (bytes : List ℕ) (b : Builder) → is_foster_target (top b.path).tag ≡ false → b.is_fostering ≡ false →
    fostering false (insert_text bytes (fostering true b)) ≡ insert_text bytes b
fostered [] b t f = ap (λ v. record b { is_fostering = v }) (sym f)
fostered (c ∷ bytes) b t f =
    ap₂ (λ (v : Bool) (p : Place). record b { path = put p (and_text no_nodes (marked b.marks (c ∷ bytes))) b.path; is_fostering = v }) (sym f)
    (cond-false (is_foster_target (top b.path).tag) _ _ t ∙ sym (cond-false (b.is_fostering && is_foster_target (top b.path).tag) _ _ (and_left b.is_fostering _ f)))

table_next : (k : Kind) (c : ℕ) (b : Builder) → content b ≡ true → Of k c → TableRest k b →
    Ends c (table_character b c) (table_run (filter not_null (c ∷ [])) b)
table_next k c b h o (inl y) =
    let step : Outcome = with_foster_parenting b (a_character c) in
    let y1 : Builder = waits b [] in
    inr (
      y1,
      cond-true (is_text_in_table (current_tag b)) (Again y1) step y,
      cond-true (content y1) (html_step y1 (a_character c)) (foreign_step y1 (a_character c)) h
          ∙ ap Done (waits_one c y1)
          ∙ ap Done (sym (cond-true (is_text_in_table (current_tag b)) (waits b (filter not_null (c ∷ []))) (insert_text (filter not_null (c ∷ [])) b) y)),
    )
table_next k c b h o (inr r) =
    let step : Outcome = with_foster_parenting b (a_character c) in
    let bytes : List ℕ = filter not_null (c ∷ []) in
    inl (cond-false (is_text_in_table (current_tag b)) (Again (waits b [])) step r.0
    ∙ ap (λ x. Done (fostering false x)) (body_next k c (fostering true b) o r.2)
    ∙ ap Done (fostered bytes b (or_parts (is_foster_target (current_tag b)) (is_template (current_tag b)) r.0).0 r.1)
    ∙ ap Done (sym (cond-false (is_text_in_table (current_tag b)) (waits b bytes) (insert_text bytes b) r.0)))

-- white space alone is put in

white_in : (c : ℕ) (b : Builder) (other : Outcome) → is_ascii_whitespace c ≡ true →
    (if is_ascii_whitespace c then Done (insert_character c b) else other) ≡ Done (insert_text (filter is_ascii_whitespace (c ∷ [])) b)
white_in c b other w = rw w refl

white_or_not : (c : ℕ) (b : Builder) → Done (if is_ascii_whitespace c then insert_character c b else b) ≡ Done (insert_text (filter is_ascii_whitespace (c ∷ [])) b)
white_or_not c b = elim (cases_Bool (is_ascii_whitespace c)) [
  | inl y ↦ rw y refl
  | inr n ↦ rw n refl
]

body_or : (c : ℕ) (b : Builder) (other : Outcome) (k : Kind) → is_ascii_whitespace c ≡ true → Of k c → BodyRest k b →
    (if is_ascii_whitespace c then in_body_step b (a_character c) else other) ≡ Done (insert_text (filter not_null (c ∷ [])) b)
body_or c b other k w o r = cond-true (is_ascii_whitespace c) (in_body_step b (a_character c)) other w ∙ ap Done (body_next k c b o r)

column_next : (k : Kind) (c : ℕ) (b : Builder) → is_of_run in_column_group k c ≡ true → IsWhite k ⊎ (is_in_column_group b ≡ false) →
    (if is_ascii_whitespace c then Done (insert_character c b) else after_column_group b) ≡ Done (insert_text (filter is_ascii_whitespace (c ∷ [])) b)
column_next null c b o (inl w) = absurd w
column_next white c b o (inl w) = white_in c b (after_column_group b) o
column_next plain c b o (inl w) = absurd w
column_next k c b o (inr n) = elim (cases_Bool (is_ascii_whitespace c)) [
  | inl y ↦ white_in c b (after_column_group b) y
  | inr f ↦ (
      cond-false (is_ascii_whitespace c) (Done (insert_character c b)) (after_column_group b) f
      ∙ cond-false (is_in_column_group b) (Again (column_group_closed b)) (Done b) n
      ∙ ap (λ (v : Bool). Done (insert_text (if v then c ∷ [] else []) b)) (sym f))
]

not_white : (c : ℕ) → (not (c == 0) && not (is_ascii_whitespace c)) ≡ true → is_ascii_whitespace c ≡ false
not_white c e = elim (cases_Bool (is_ascii_whitespace c)) [
  | inl y ↦ absurd (true≢false (sym (and_parts (not (c == 0)) (not (is_ascii_whitespace c)) e).1 ∙ ap not y))
  | inr n ↦ n
]

white_body : (c : ℕ) (b : Builder) → reconstruct_formatting b ≡ b → is_ascii_whitespace c ≡ true →
    (if is_ascii_whitespace c then in_body_step b (a_character c) else Done b) ≡ Done (insert_text (filter is_ascii_whitespace (c ∷ [])) b)
white_body c b r w =
    cond-true (is_ascii_whitespace c) (in_body_step b (a_character c)) (Done b) w ∙ ap Done (white_next c b r (white_no_null c w) w)
    ∙ ap (λ (v : Bool). Done (insert_text (if v then c ∷ [] else []) b)) (ap not (white_no_null c w) ∙ sym w)

no_white_body : (c : ℕ) (b : Builder) → is_ascii_whitespace c ≡ false →
    (if is_ascii_whitespace c then in_body_step b (a_character c) else Done b) ≡ Done (insert_text (filter is_ascii_whitespace (c ∷ [])) b)
no_white_body c b f =
    cond-false (is_ascii_whitespace c) (in_body_step b (a_character c)) (Done b) f
    ∙ ap (λ (v : Bool). Done (insert_text (if v then c ∷ [] else []) b)) (sym f)

frames_next : (k : Kind) (c : ℕ) (b : Builder) → is_of_run after_after_frameset k c ≡ true → ModeRest after_after_frameset k b →
    (if is_ascii_whitespace c then in_body_step b (a_character c) else Done b) ≡ Done (insert_text (filter is_ascii_whitespace (c ∷ [])) b)
frames_next null c b o r = no_white_body c b (no_white c o)
frames_next white c b o r = white_body c b (rebuilt_same b r) o
frames_next plain c b o r = no_white_body c b (not_white c o)

ignored : (c : ℕ) (b : Builder) (other : Outcome) → is_ascii_whitespace c ≡ true → (if is_ascii_whitespace c then Done b else other) ≡ Done b
ignored c b other w = cond-true (is_ascii_whitespace c) (Done b) other w

of_white : (m : Mode) (k : Kind) (c : ℕ) → IsWhite k → is_of_run m k c ≡ true → is_ascii_whitespace c ≡ true
of_white m null c w o = absurd w
of_white m white c w o = o
of_white m plain c w o = absurd w

mode_next : (m : Mode) (k : Kind) (c : ℕ) (b : Builder) → content b ≡ true → is_of_run m k c ≡ true → ModeRest m k b →
    Ends c (mode_step m b (a_character c)) (html_run m (filter (goes_in m) (c ∷ [])) b)
mode_next initial k c b h o r = inl (ignored c b _ (of_white initial k c r o))
mode_next before_html k c b h o r = inl (ignored c b _ (of_white before_html k c r o))
mode_next before_head k c b h o r = inl (ignored c b _ (of_white before_head k c r o))
mode_next in_head k c b h o r = inl (white_in c b _ (of_white in_head k c r o))
mode_next in_head_noscript k c b h o r = inl (white_in c b _ (of_white in_head_noscript k c r o))
mode_next after_head k c b h o r = inl (white_in c b _ (of_white after_head k c r o))
mode_next in_body k c b h o r = inl (ap Done (body_next k c b (of_any in_body k c o) r))
mode_next text_mode k c b h o r = inl refl
mode_next in_table k c b h o r = table_next k c b h (of_any in_table k c o) r
mode_next in_table_text k c b h o r = inl (ap Done (waits_one c b))
mode_next in_caption k c b h o r = inl (ap Done (body_next k c b (of_any in_caption k c o) r))
mode_next in_column_group k c b h o r = inl (column_next k c b o r)
mode_next in_table_body k c b h o r = table_next k c b h (of_any in_table_body k c o) r
mode_next in_row k c b h o r = table_next k c b h (of_any in_row k c o) r
mode_next in_cell k c b h o r = inl (ap Done (body_next k c b (of_any in_cell k c o) r))
mode_next in_template k c b h o r = inl (ap Done (body_next k c b (of_any in_template k c o) r))
mode_next after_body k c b h o r = inl (body_or c b (back_in_body b) k (of_white after_body k c r.0 o) (of_any after_body k c o) r.1)
mode_next in_frameset k c b h o r = inl (white_or_not c b)
mode_next after_frameset k c b h o r = inl (white_or_not c b)
mode_next after_after_body k c b h o r = inl (body_or c b (back_in_body b) k (of_white after_after_body k c r.0 o) (of_any after_after_body k c o) r.1)
mode_next after_after_frameset k c b h o r = inl (frames_next k c b o r)

-- foreign content

foreign_kind : (k : Kind) (c : ℕ) (b : Builder) → IsKind k c → (k ≡ plain → b.is_frameset_ok ≡ false) → foreign_character c b ≡ insert_text (with_replacements (c ∷ [])) b
foreign_kind null c b i q = rw i.0 refl
foreign_kind white c b i q = rw (i.0, i.1) refl
foreign_kind plain c b i q =
    cond-false (c == 0) (insert_bytes replacement b) _ i.0
    ∙ cond-false (is_ascii_whitespace c) (insert_character c b) (frameset_not_ok (insert_character c b)) i.1
    ∙ still_not_ok (insert_character c b) (q refl)
    ∙ ap (λ (v : Bool). insert_text (if v then replacement else c ∷ []) b) (sym i.0)

abbrev is_plain_kind : Kind → Bool
is_plain_kind plain = true
is_plain_kind _ = false

foreign_next : (m : Mode) (k : Kind) (c : ℕ) (b : Builder) → is_of_run m k c ≡ true → Quiet k b → foreign_character c b ≡ insert_text (with_replacements (c ∷ [])) b
foreign_next m null c b o q = foreign_kind null c b (o, no_white c o) (λ e. absurd (true≢false (sym (ap is_plain_kind e))))
foreign_next m white c b o q = foreign_kind white c b (white_no_null c o, o) (λ e. absurd (true≢false (sym (ap is_plain_kind e))))
foreign_next m plain c b o q = foreign_kind (kind_of c) c b (seen c) (λ _. q)

-- a token

dispatch_next : (k : Kind) (c : ℕ) (b : Builder) → is_of_run b.mode k c ≡ true → AtRest k b → Ends c (dispatch (a_character c) b) (run_dispatched (c ∷ []) b)
dispatch_next k c b o (l, inl h) =
    let x : Builder = html_run b.mode (filter (goes_in b.mode) (c ∷ [])) b in
    let step : Outcome = html_step b (a_character c) in
    subst (Ends c (dispatch (a_character c) b)) (sym (cond-true (content b) x (insert_text (with_replacements (c ∷ [])) b) h.0))
    (subst (λ z. Ends c z x) (sym (cond-true (content b) step (foreign_step b (a_character c)) h.0)) (mode_next b.mode k c b h.0 o h.1))
dispatch_next k c b o (l, inr f) =
    let x : Builder = insert_text (with_replacements (c ∷ [])) b in
    inl (cond-false (content b) (html_step b (a_character c)) (foreign_step b (a_character c)) f.0
    ∙ ap Done (foreign_next b.mode k c b o f.1)
    ∙ ap Done (sym (cond-false (content b) (html_run b.mode (filter (goes_in b.mode) (c ∷ [])) b) x f.0)))

once : (n c : ℕ) (b x : Builder) → 1 < n → dispatch (a_character c) b ≡ Done x → repeated n (dispatch (a_character c)) (Again b) ≡ x
once zero c b x l e = absurd (omega (arith, l))
once (suc n) c b x l e = ap (repeated n (dispatch (a_character c))) e

twice : (n c : ℕ) (b y x : Builder) → 2 < n → dispatch (a_character c) b ≡ Again y → dispatch (a_character c) y ≡ Done x → repeated n (dispatch (a_character c)) (Again b) ≡ x
twice zero c b y x l e f = absurd (omega (arith, l))
twice (suc n) c b y x l e f = ap (repeated n (dispatch (a_character c))) e ∙ once n c y x (omega (arith, l)) f

ended : (n c : ℕ) (b x : Builder) → 2 < n → Ends c (dispatch (a_character c) b) x → repeated n (dispatch (a_character c)) (Again b) ≡ x
ended n c b x l (inl e) = once n c b x (omega (arith, l)) e
ended n c b x l (inr e) = twice n c b e.0 x l e.1 e.2

calm_same : (b : Builder) → Calm b → calm b ≡ b
calm_same b l = ap₂ (λ s r. record b { skips = s; reads = r }) (sym l.0) (sym l.1)

token_next : (k : Kind) (c : ℕ) (b : Builder) → is_of_run b.mode k c ≡ true → AtRest k b → Counted b → token_done b (a_character c) ≡ count_tokens 1 (run_dispatched (c ∷ []) b)
token_next k c b o r n =
    let steps : Builder = repeated (bound b) (dispatch (a_character c)) (Again (calm b)) in
    let x : Builder = run_dispatched (c ∷ []) b in
    ap (λ (z : Builder). record (count_token z) { marks = b.marks })
    (cond-false (b.skips && (c == 10)) (calm b) steps (and_left b.skips (c == 10) r.0.0)
    ∙ ap (λ z. repeated (bound b) (dispatch (a_character c)) (Again z)) (calm_same b r.0)
    ∙ ended (bound b) c b x (omega arith) (dispatch_next k c b o r))
    ∙ ap (λ (z : Builder). record z { marks = b.marks }) (count_same x (run_Counted (c ∷ []) b n))
    ∙ ap (λ (m : ℕ). record (count_tokens 1 x) { marks = m }) (sym (run_starts (c ∷ []) b))

-- and all of them

each_as : (P Q : ℕ → Type 0) (run : List ℕ) → ((c : ℕ) → P c → Q c) → EachCharacter P run → EachCharacter Q run
each_as P Q [] f e = tt
each_as P Q (c ∷ run) f e = (f c e.0, each_as P Q run f e.1)

counted_more : (n : ℕ) (b : Builder) → count_tokens n (count_tokens 1 b) ≡ count_tokens (suc n) b
counted_more n b = ap (λ (m : ℕ). record b { tokens = m }) (omega arith)

rest_taken : (k : Kind) (c : ℕ) (run : List ℕ) (b : Builder) → AtRest k b → Counted b → EachCharacter (λ d. is_of_run b.mode k d ≡ true) (c ∷ run) →
    tokens_done b (map a_character (c ∷ run)) ≡ count_tokens (length (c ∷ run)) (run_dispatched (c ∷ run) b)
rest_taken k c [] b r n e = token_next k c b e.0 r n
rest_taken k c (d ∷ run) b r n e =
    let y : Builder = run_dispatched (c ∷ []) b in
    let x : Builder = count_tokens 1 y in
    let same = count_same y (run_Counted (c ∷ []) b n) in
    ap (λ z. tokens_done z (map a_character (d ∷ run))) (token_next k c b e.0 r n)
    ∙ rest_taken k d run x (run_rest k (c ∷ []) b r) (subst Counted same (counted y))
    (each_as (λ z. is_of_run b.mode k z ≡ true) (λ z. is_of_run x.mode k z ≡ true) (d ∷ run) (λ z. of_run_by b.mode x.mode k z (run_takes (c ∷ []) b)) e.1)
    ∙ ap (count_tokens (length (d ∷ run))) (run_counted (d ∷ run) 1 y)
    ∙ counted_more (length (d ∷ run)) (run_dispatched (d ∷ run) y)
    ∙ ap (count_tokens (length (c ∷ d ∷ run))) (sym (split c (d ∷ run) b))

pub run_is : (b : Builder) (c : ℕ) (run : List ℕ) → (b.skips && (c == 10)) ≡ false →
    EachCharacter (λ d. is_of_run (token_done b (a_character c)).mode (kind_of c) d ≡ true) run →
    tokens_done b (map a_character (c ∷ run)) ≡ run_taken run (token_done b (a_character c))
run_is b c [] s e = refl
run_is b c (d ∷ run) s e =
    let steps : Builder = if b.skips && (c == 10) then calm b else repeated (bound b) (dispatch (a_character c)) (Again (calm b)) in
    rest_taken (kind_of c) d run (token_done b (a_character c)) (first_rest c b s) (counted steps) e

-- characters of the kind of the first one

same_kind : (m : Mode) (k l : Kind) (c : ℕ) → IsKind l c → l ≡ k → is_of_run m k c ≡ true
same_kind m k l c i e = subst (λ z. is_of_run m z c ≡ true) e (of_own l i)
  where
    of_own : (l : Kind) → IsKind l c → is_of_run m l c ≡ true
    of_own null i = i.0
    of_own white i = i.1
    of_own plain i = or_right (takes_any m) (not (c == 0) && not (is_ascii_whitespace c)) (and_from (not (c == 0)) (not (is_ascii_whitespace c)) (ap not i.0) (ap not i.1))

pub kind_is : (b : Builder) (c : ℕ) (run : List ℕ) → (b.skips && (c == 10)) ≡ false →
    EachCharacter (λ d. kind_of d ≡ kind_of c) run →
    tokens_done b (map a_character (c ∷ run)) ≡ run_taken run (token_done b (a_character c))
kind_is b c run s e =
    let m : Mode = (token_done b (a_character c)).mode in
    run_is b c run s (each_as (λ d. kind_of d ≡ kind_of c) (λ d. is_of_run m (kind_of c) d ≡ true) run (λ d. same_kind m (kind_of c) (kind_of d) d (seen d)) e)

-- twice is as once
pub reconstructed_once : (b : Builder) → reconstruct_formatting (reconstruct_formatting b) ≡ reconstruct_formatting b
reconstructed_once b = rebuilt_same (reconstruct_formatting b) (reopened_rebuilt b b.active)
