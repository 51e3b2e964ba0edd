-- The first character of a run, by each rule.
use Rattle.std.proofs.Common.{◌≡◌, ℕ, suc, zero, ◌<◌, ◌≤◌, ◌==◌, true, false, [], ◌∷◌, refl, sym, subst, inl, inr, ◌∙◌, if◌then◌else◌, arith, true≢false}
use Rattle.std.specs.Char.{is_ascii_whitespace}
use Rattle.std.specs.Prelude.{◌++◌, ◌&&◌, nat_lt}
use Rattle.std.proofs.lemmas.Bool.{cases_Bool, cond_both, le-ltb}
use Rattle.tl_html_spec.specs.HtmlTokenizer.{replacement}
use Rattle.tl_dom_spec.specs.Builder.{Again, Builder, Done, Mode, Outcome, a_character, after_after_body, after_after_frameset, after_body, after_frameset, after_head, before_head, before_html, current_tag, fostering, frameset_not_ok, in_body, in_caption, in_cell, in_column_group, in_frameset, in_head, in_head_noscript, in_row, in_table, in_table_body, in_table_text, in_template, initial, insert_character, repeated, switch_to, text_mode}
use Rattle.tl_dom_spec.specs.Formatting.{reconstruct_formatting}
use Rattle.tl_dom_spec.specs.Head.{head_closed, noscript_closed}
use Rattle.tl_dom_spec.specs.Body.{body_character, in_body_step}
use Rattle.tl_dom_spec.specs.Tables.{after_column_group, column_group_closed, is_in_column_group, is_text_in_table, table_character}
use Rattle.tl_dom_spec.specs.Outer.{back_in_body}
use Rattle.tl_dom_spec.specs.Dispatcher.{bound, calm, count_token, dispatch, excess_of, foreign_character, foreign_step, html_step, mode_step, token_done}
use Rattle.tl_dom_spec.specs.Runs.{Kind, kind_of, null, plain, white}
use Rattle.tl_dom_spec.proofs.RunsStarts.{AtRest, BodyRest, Calm, IsKind, IsWhite, ModeRest, Quiet, Same, TableRest, content, rebuilt_in, reopened_rebuilt, reopened_same, rest_put, seen}

-- how often a character is reprocessed at most
abbrev pub rank : Mode → ℕ
rank initial = 5
rank before_html = 4
rank before_head = 3
rank in_head_noscript = 3
rank in_head = 2
rank after_head = 1
rank in_column_group = 2
rank in_table = 1
rank in_table_body = 1
rank in_row = 1
rank after_body = 1
rank after_after_body = 1
rank _ = 0

rank-most : (m : Mode) → rank m ≤ 5
rank-most initial = omega arith
rank-most before_html = omega arith
rank-most before_head = omega arith
rank-most in_head_noscript = omega arith
rank-most in_head = omega arith
rank-most after_head = omega arith
rank-most in_column_group = omega arith
rank-most in_table = omega arith
rank-most in_table_body = omega arith
rank-most in_row = omega arith
rank-most after_body = omega arith
rank-most after_after_body = omega arith
rank-most _ = omega arith

abbrev pub After : Kind → ℕ → Outcome → Type 0
After k n (Done b) = AtRest k b
After k n (Again b) = Calm b × (rank b.mode < n)

-- nothing but the mode is asked
kept : (m : Mode) (k : Kind) (b : Builder) → b.mode ≡ m → content b ≡ true → Calm b → ModeRest m k b → AtRest k b
kept m k b e h c r = (c, inl (h, subst (λ x. ModeRest x k b) (sym e) r))

-- white space stays, and all else leaves the mode
leaves : (k : Kind) (c n : ℕ) (x y : Builder) → IsKind k c → (k ≡ white → AtRest k x) → After k n (Again y) → After k n (if is_ascii_whitespace c then Done x else Again y)
leaves null c n x y i p q = rw i.1 q
leaves white c n x y i p q = rw i.1 (p refl)
leaves plain c n x y i p q = rw i.1 q

-- by the rules of "in body"

quiet_body : (k : Kind) (b : Builder) → BodyRest k b → Quiet k b
quiet_body null b r = tt
quiet_body white b r = tt
quiet_body plain b r = r.1

in_content : (k : Kind) (b : Builder) → Calm b → Quiet k b → (content b ≡ true → ModeRest b.mode k b) → AtRest k b
in_content k b c q r = elim (cases_Bool (content b)) [
  | inl y ↦ (c, inl (y, r y))
  | inr n ↦ (c, inr (n, q))
]

record Put (k : Kind) (b x : Builder) : Type 0 where
  same : Same b x
  rest : BodyRest k x

put_rebuilt : (c : ℕ) (b : Builder) → Put white b (insert_character c (reconstruct_formatting b))
put_rebuilt c b = record {
  same = reopened_same b b.active;
  rest = (rebuilt_in (c ∷ []) (reconstruct_formatting b) (reopened_rebuilt b b.active), tt);
}

put_plain : (c : ℕ) (b : Builder) → Put plain b (frameset_not_ok (insert_character c (reconstruct_formatting b)))
put_plain c b = record {
  same = reopened_same b b.active;
  rest = (rebuilt_in (c ∷ []) (reconstruct_formatting b) (reopened_rebuilt b b.active), refl);
}

put_character : (k : Kind) (c : ℕ) (b : Builder) → IsKind k c → Put k b (body_character c b)
put_character null c b i = rw i.0 (record { same = (refl, refl, refl, refl); rest = tt })
put_character white c b i = rw (i.0, i.1) (put_rebuilt c b)
put_character plain c b i = rw (i.0, i.1) (put_plain c b)

body_first : (m : Mode) (k : Kind) (c : ℕ) (b : Builder) → IsKind k c → b.mode ≡ m → Calm b →
    ((x : Builder) → BodyRest k x → ModeRest m k x) → AtRest k (body_character c b)
body_first m k c b i e l to =
    let x : Builder = body_character c b in
    let p = put_character k c b i in
    in_content k x (p.same.1 ∙ l.0, p.same.2 ∙ l.1) (quiet_body k x p.rest)
    (λ _. subst (λ y. ModeRest y k x) (sym (p.same.0 ∙ e)) (to x p.rest))

-- in tables

table_rest : (k : Kind) (x : Builder) → x.is_fostering ≡ false → BodyRest k x → TableRest k x
table_rest k x f r = elim (cases_Bool (is_text_in_table (current_tag x))) [
  | inl y ↦ inl y
  | inr n ↦ inr (n, f, r)
]

table_first : (m : Mode) (k : Kind) (c n : ℕ) (b : Builder) → IsKind k c → b.mode ≡ m → Calm b → 1 ≤ n →
    ((x : Builder) → TableRest k x → ModeRest m k x) → After k n (table_character b c)
table_first m k c n b i e l s to =
    let x : Builder = fostering false (body_character c (fostering true b)) in
    let p = put_character k c (fostering true b) i in
    cond_both (is_text_in_table (current_tag b)) (Again (record b { pending = []; original = b.mode; mode = in_table_text })) (Done x) (After k n)
    (λ _. (l, s))
    (λ _. in_content k x (p.same.1 ∙ l.0, p.same.2 ∙ l.1) (quiet_body k x p.rest)
    (λ _. subst (λ y. ModeRest y k x) (sym (p.same.0 ∙ e)) (to x (table_rest k x refl p.rest))))

is_white : (k : Kind) (c : ℕ) → IsKind k c → is_ascii_whitespace c ≡ true → IsWhite k
is_white null c i w = absurd (true≢false (sym w ∙ i.1))
is_white white c i w = tt
is_white plain c i w = absurd (true≢false (sym w ∙ i.1))

column_first : (k : Kind) (c n : ℕ) (b : Builder) → IsKind k c → b.mode ≡ in_column_group → content b ≡ true → Calm b → 2 ≤ n →
    After k n (if is_ascii_whitespace c then Done (insert_character c b) else after_column_group b)
column_first k c n b i e h l s = cond_both (is_ascii_whitespace c) (Done (insert_character c b)) (after_column_group b) (After k n)
    (λ w. rest_put k (c ∷ []) b (kept in_column_group k b e h l (inl (is_white k c i w))))
    (λ _. cond_both (is_in_column_group b) (Again (column_group_closed b)) (Done b) (After k n)
    (λ _. (l, s)) (λ no. kept in_column_group k b e h l (inr no)))

-- in framesets: no other character than white space is put in
frames_first : (k : Kind) (c : ℕ) (b : Builder) → AtRest k b → AtRest k (if is_ascii_whitespace c then insert_character c b else b)
frames_first k c b r = cond_both (is_ascii_whitespace c) (insert_character c b) b (AtRest k) (λ _. rest_put k (c ∷ []) b r) (λ _. r)

stays_white : (c n : ℕ) (b : Builder) (other : Outcome) → IsKind white c → AtRest white (body_character c b) →
    After white n (if is_ascii_whitespace c then in_body_step b (a_character c) else other)
stays_white c n b other i r = cond_both (is_ascii_whitespace c) (in_body_step b (a_character c)) other (After white n) (λ _. r) (λ f. absurd (true≢false (sym i.1 ∙ f)))

after_frames_first : (k : Kind) (c n : ℕ) (b : Builder) → IsKind k c → b.mode ≡ after_after_frameset → content b ≡ true → Calm b →
    After k n (if is_ascii_whitespace c then in_body_step b (a_character c) else Done b)
after_frames_first null c n b i e h l = rw i.1 (kept after_after_frameset null b e h l tt)
after_frames_first white c n b i e h l = stays_white c n b (Done b) i (body_first after_after_frameset white c b i e l (λ x r. r.0))
after_frames_first plain c n b i e h l = rw i.1 (kept after_after_frameset plain b e h l tt)

mode_first : (m : Mode) (k : Kind) (c n : ℕ) (b : Builder) → IsKind k c → b.mode ≡ m → content b ≡ true → Calm b → rank m ≤ n → After k n (mode_step m b (a_character c))
mode_first initial k c n b i e h l s = leaves k c n b (switch_to before_html (record b { is_quirks = true })) i (λ w. kept initial k b e h l (rw w tt)) (l, s)
mode_first before_html k c n b i e h l s = leaves k c n b _ i (λ w. kept before_html k b e h l (rw w tt)) (l, s)
mode_first before_head k c n b i e h l s = leaves k c n b _ i (λ w. kept before_head k b e h l (rw w tt)) (l, s)
mode_first in_head k c n b i e h l s = leaves k c n (insert_character c b) (head_closed b) i (λ w. rest_put k (c ∷ []) b (kept in_head k b e h l (rw w tt))) (l, s)
mode_first in_head_noscript k c n b i e h l s = leaves k c n (insert_character c b) (noscript_closed b) i (λ w. rest_put k (c ∷ []) b (kept in_head_noscript k b e h l (rw w tt))) (l, s)
mode_first after_head k c n b i e h l s = leaves k c n (insert_character c b) _ i (λ w. rest_put k (c ∷ []) b (kept after_head k b e h l (rw w tt))) (l, s)
mode_first in_body k c n b i e h l s = body_first in_body k c b i e l (λ x r. r)
mode_first text_mode k c n b i e h l s = rest_put k (c ∷ []) b (kept text_mode k b e h l tt)
mode_first in_table k c n b i e h l s = table_first in_table k c n b i e l s (λ x r. r)
mode_first in_table_text k c n b i e h l s = cond_both (c == 0) b (record b { pending = b.pending ++ c ∷ [] }) (AtRest k) (λ _. kept in_table_text k b e h l tt) (λ _. kept in_table_text k b e h l tt)
mode_first in_caption k c n b i e h l s = body_first in_caption k c b i e l (λ x r. r)
mode_first in_column_group k c n b i e h l s = column_first k c n b i e h l s
mode_first in_table_body k c n b i e h l s = table_first in_table_body k c n b i e l s (λ x r. r)
mode_first in_row k c n b i e h l s = table_first in_row k c n b i e l s (λ x r. r)
mode_first in_cell k c n b i e h l s = body_first in_cell k c b i e l (λ x r. r)
mode_first in_template k c n b i e h l s = body_first in_template k c b i e l (λ x r. r)
mode_first after_body null c n b i e h l s = rw i.1 (l, s)
mode_first after_body white c n b i e h l s = stays_white c n b (back_in_body b) i (body_first after_body white c b i e l (λ x r. (tt, r)))
mode_first after_body plain c n b i e h l s = rw i.1 (l, s)
mode_first in_frameset k c n b i e h l s = frames_first k c b (kept in_frameset k b e h l tt)
mode_first after_frameset k c n b i e h l s = frames_first k c b (kept after_frameset k b e h l tt)
mode_first after_after_body null c n b i e h l s = rw i.1 (l, s)
mode_first after_after_body white c n b i e h l s = stays_white c n b (back_in_body b) i (body_first after_after_body white c b i e l (λ x r. (tt, r)))
mode_first after_after_body plain c n b i e h l s = rw i.1 (l, s)
mode_first after_after_frameset k c n b i e h l s = after_frames_first k c n b i e h l

-- in foreign content

foreign_first : (k : Kind) (c : ℕ) (b : Builder) → IsKind k c → content b ≡ false → Calm b → AtRest k (foreign_character c b)
foreign_first null c b i f l = rw i.0 (rest_put null replacement b (l, inr (f, tt)))
foreign_first white c b i f l = rw (i.0, i.1) (rest_put white (c ∷ []) b (l, inr (f, tt)))
foreign_first plain c b i f l = rw (i.0, i.1) (rest_put plain (c ∷ []) (frameset_not_ok b) (l, inr (f, refl)))

dispatch_first : (k : Kind) (c n : ℕ) (b : Builder) → IsKind k c → Calm b → rank b.mode ≤ n → After k n (dispatch (a_character c) b)
dispatch_first k c n b i l s = cond_both (content b) (html_step b (a_character c)) (foreign_step b (a_character c)) (After k n)
    (λ h. mode_first b.mode k c n b i refl h l s)
    (λ f. foreign_first k c b i f l)

repeated_first : (k : Kind) (c n : ℕ) (o : Outcome) → IsKind k c → After k n o → AtRest k (repeated n (dispatch (a_character c)) o)
repeated_first k c n (Done b) i a = a
repeated_first k c zero (Again b) i a = absurd (omega (arith, a.1))
repeated_first k c (suc n) (Again b) i a = repeated_first k c n (dispatch (a_character c) b) i (dispatch_first k c n b i a.0 (omega (arith, a.1)))

-- tokens are counted

abbrev pub Counted : Builder → Type 0
Counted b = nat_lt b.excess (excess_of b) ≡ false

pub counted_rest : (k : Kind) (b : Builder) → AtRest k b → AtRest k (count_token b)
counted_rest k b r =
    let taken : Builder = record b { tokens = suc b.tokens } in
    cond_both (nat_lt taken.excess (excess_of taken)) (record taken { excess = excess_of taken }) taken (AtRest k) (λ _. r) (λ _. r)

not_below : (n : ℕ) → nat_lt n n ≡ false
not_below n = le-ltb n n (omega arith)

pub counted : (b : Builder) → Counted (count_token b)
counted b =
    let taken : Builder = record b { tokens = suc b.tokens } in
    cond_both (nat_lt taken.excess (excess_of taken)) (record taken { excess = excess_of taken }) taken Counted (λ _. not_below (excess_of taken)) (λ n. n)

pub first_rest : (c : ℕ) (b : Builder) → (b.skips && (c == 10)) ≡ false → AtRest (kind_of c) (token_done b (a_character c))
first_rest c b s =
    let o : Builder = repeated (bound b) (dispatch (a_character c)) (Again (calm b)) in
    let few : rank b.mode < bound b = omega (arith, rank-most b.mode) in
    cond_both (b.skips && (c == 10)) (calm b) o (λ x. AtRest (kind_of c) (record (count_token x) { marks = b.marks }))
    (λ y. absurd (true≢false (sym y ∙ s)))
    (λ _. counted_rest (kind_of c) o (repeated_first (kind_of c) c (bound b) (Again (calm b)) (seen c) ((refl, refl), few)))
