-- Each further character of a run, and what is done at once.
use Rattle.std.proofs.Common.{◌≡◌, ℕ, suc, ◌≤◌, ◌==◌, Bool, true, false, List, [], ◌∷◌, refl, ap, ap₂, sym, inl, inr, ◌∙◌, if◌then◌else◌, arith, filter, append_assoc, append-nil}
use Rattle.std.specs.Char.{is_ascii_whitespace}
use Rattle.std.specs.Prelude.{◌-◌, ◌*◌, ◌++◌, ◌&&◌, ◌||◌, not, nat_lt}
use Rattle.std.proofs.lemmas.Bool.{cases_Bool, cond_both, cond-false, cond-true, le-ltb, ltb-false}
use Rattle.tl_dom_spec.specs.Marks.{marked}
use Rattle.tl_dom_spec.specs.Path.{and_text, no_nodes, put}
use Rattle.tl_dom_spec.specs.Builder.{Builder, Mode, after_after_body, after_after_frameset, after_body, after_frameset, after_head, appropriate_place, before_head, before_html, current_tag, in_body, in_caption, in_cell, in_column_group, in_frameset, in_head, in_head_noscript, in_row, in_table, in_table_body, in_table_text, in_template, initial, insert_bytes, text_mode, with_path}
use Rattle.tl_dom_spec.specs.Tables.{is_text_in_table}
use Rattle.tl_dom_spec.specs.Dispatcher.{count_token, excess_of}
use Rattle.tl_dom_spec.specs.Runs.{Kind, count_tokens, goes_in, html_run, insert_text, is_of_run, null, plain, run_dispatched, table_run, takes_any, white, with_replacements}
use Rattle.tl_dom_spec.proofs.RunsPaths.{place_same, put_texts, top_tag_same}
use Rattle.tl_dom_spec.proofs.RunsStarts.{AtRest, content, content_text, rest_text}
use Rattle.tl_dom_spec.proofs.RunsFirst.{Counted}

-- Texts one after the other are as one

pub bytes_append : (xs ys : List ℕ) (b : Builder) → insert_bytes ys (insert_bytes xs b) ≡ insert_bytes (xs ++ ys) b
bytes_append xs ys b =
    ap (λ p. with_path b (put p (and_text no_nodes (marked b.marks ys)) (insert_bytes xs b).path)) (place_same b.is_fostering (appropriate_place b) (and_text no_nodes (marked b.marks xs)) b.path)
    ∙ ap (with_path b) (put_texts (appropriate_place b) b.marks xs ys b.path)

text_append : (xs ys : List ℕ) (b : Builder) → insert_text ys (insert_text xs b) ≡ insert_text (xs ++ ys) b
text_append [] ys b = refl
text_append (c ∷ xs) [] b = ap (λ zs. insert_bytes (c ∷ zs) b) (sym (append-nil xs))
text_append (c ∷ xs) (d ∷ ys) b = bytes_append (c ∷ xs) (d ∷ ys) b

filter_split : (test : ℕ → Bool) (d : ℕ) (run : List ℕ) → filter test (d ∷ run) ≡ filter test (d ∷ []) ++ filter test run
filter_split test d run = elim (cases_Bool (test d)) [
  | inl y ↦ rw y refl
  | inr n ↦ rw n refl
]

replacements_split : (d : ℕ) (run : List ℕ) → with_replacements (d ∷ run) ≡ with_replacements (d ∷ []) ++ with_replacements run
replacements_split d run = elim (cases_Bool (d == 0)) [
  | inl y ↦ rw y refl
  | inr n ↦ rw n refl
]

-- what a run does is what its first character does, and then the rest

foreign_is : (run : List ℕ) (b : Builder) → content b ≡ false → run_dispatched run b ≡ insert_text (with_replacements run) b
foreign_is run b f = cond-false (content b) (html_run b.mode (filter (goes_in b.mode) run) b) (insert_text (with_replacements run) b) f

html_is : (m : Mode) (run : List ℕ) (b : Builder) → b.mode ≡ m → content b ≡ true → run_dispatched run b ≡ html_run m (filter (goes_in m) run) b
html_is m run b e h =
    cond-true (content b) (html_run b.mode (filter (goes_in b.mode) run) b) (insert_text (with_replacements run) b) h
    ∙ ap (λ n. html_run n (filter (goes_in n) run) b) e

text_mode_same : (bytes : List ℕ) (b : Builder) → (insert_text bytes b).mode ≡ b.mode
text_mode_same [] b = refl
text_mode_same (c ∷ bytes) b = refl

foreign_split : (d : ℕ) (run : List ℕ) (b : Builder) → content b ≡ false → run_dispatched (d ∷ run) b ≡ run_dispatched run (run_dispatched (d ∷ []) b)
foreign_split d run b f =
    let x : Builder = insert_text (with_replacements (d ∷ [])) b in
    foreign_is (d ∷ run) b f ∙ ap (λ zs. insert_text zs b) (replacements_split d run)
    ∙ sym (text_append (with_replacements (d ∷ [])) (with_replacements run) b)
    ∙ sym (foreign_is run x (content_text (with_replacements (d ∷ [])) b ∙ f))
    ∙ ap (run_dispatched run) (sym (foreign_is (d ∷ []) b f))

insert_split : (m : Mode) (d : ℕ) (run : List ℕ) (b : Builder) → b.mode ≡ m → content b ≡ true →
    ((bytes : List ℕ) (x : Builder) → html_run m bytes x ≡ insert_text bytes x) →
    html_run m (filter (goes_in m) (d ∷ run)) b ≡ run_dispatched run (html_run m (filter (goes_in m) (d ∷ [])) b)
insert_split m d run b e h is =
    let first : List ℕ = filter (goes_in m) (d ∷ []) in
    let x : Builder = insert_text first b in
    is (filter (goes_in m) (d ∷ run)) b
    ∙ ap (λ zs. insert_text zs b) (filter_split (goes_in m) d run)
    ∙ sym (text_append first (filter (goes_in m) run) b)
    ∙ sym (is (filter (goes_in m) run) x)
    ∙ sym (html_is m run x (text_mode_same first b ∙ e) (content_text first b ∙ h))
    ∙ ap (run_dispatched run) (sym (is first b))

tag_text : (bytes : List ℕ) (b : Builder) → current_tag (insert_text bytes b) ≡ current_tag b
tag_text [] b = refl
tag_text (c ∷ bytes) b = top_tag_same (appropriate_place b) (and_text no_nodes (marked b.marks (c ∷ bytes))) b.path

abbrev pub not_null : ℕ → Bool
not_null c = not (c == 0)

abbrev waits : Builder → List ℕ → Builder
waits b bytes = record b { pending = bytes; original = b.mode; mode = in_table_text }

table_split : (m : Mode) (d : ℕ) (run : List ℕ) (b : Builder) → b.mode ≡ m → content b ≡ true →
    ((more : List ℕ) (x : Builder) → x.mode ≡ m → content x ≡ true → run_dispatched more x ≡ table_run (filter not_null more) x) →
    table_run (filter not_null (d ∷ run)) b ≡ run_dispatched run (table_run (filter not_null (d ∷ [])) b)
table_split m d run b e h is =
    let first : List ℕ = filter not_null (d ∷ []) in
    let rest : List ℕ = filter not_null run in
    let x : Builder = insert_text first b in
    elim (cases_Bool (is_text_in_table (current_tag b))) [
      | inl y ↦ cond-true (is_text_in_table (current_tag b)) (waits b (filter not_null (d ∷ run))) (insert_text (filter not_null (d ∷ run)) b) y
          ∙ ap (waits b) (filter_split not_null d run)
          ∙ sym (html_is in_table_text run (waits b first) refl h)
          ∙ ap (run_dispatched run) (sym (cond-true (is_text_in_table (current_tag b)) (waits b first) x y))
      | inr n ↦ cond-false (is_text_in_table (current_tag b)) (waits b (filter not_null (d ∷ run))) (insert_text (filter not_null (d ∷ run)) b) n
          ∙ ap (λ zs. insert_text zs b) (filter_split not_null d run)
          ∙ sym (text_append first rest b)
          ∙ sym (cond-false (is_text_in_table (current_tag x)) (waits x rest) (insert_text rest x) (ap is_text_in_table (tag_text first b) ∙ n))
          ∙ sym (is run x (text_mode_same first b ∙ e) (content_text first b ∙ h))
          ∙ ap (run_dispatched run) (sym (cond-false (is_text_in_table (current_tag b)) (waits b first) x n))
    ]

pending_split : (d : ℕ) (run : List ℕ) (b : Builder) → b.mode ≡ in_table_text → content b ≡ true →
    html_run in_table_text (filter not_null (d ∷ run)) b ≡ run_dispatched run (html_run in_table_text (filter not_null (d ∷ [])) b)
pending_split d run b e h =
    let first : List ℕ = filter not_null (d ∷ []) in
    ap (λ (zs : List ℕ). record b { pending = zs })
    (ap (λ zs. b.pending ++ zs) (filter_split not_null d run) ∙ sym (append_assoc b.pending first (filter not_null run)))
    ∙ sym (html_is in_table_text run (record b { pending = b.pending ++ first }) e h)

html_split : (m : Mode) (d : ℕ) (run : List ℕ) (b : Builder) → b.mode ≡ m → content b ≡ true →
    html_run m (filter (goes_in m) (d ∷ run)) b ≡ run_dispatched run (html_run m (filter (goes_in m) (d ∷ [])) b)
html_split in_table d run b e h = table_split in_table d run b e h (λ more x f g. html_is in_table more x f g)
html_split in_table_text d run b e h = pending_split d run b e h
html_split in_table_body d run b e h = table_split in_table_body d run b e h (λ more x f g. html_is in_table_body more x f g)
html_split in_row d run b e h = table_split in_row d run b e h (λ more x f g. html_is in_row more x f g)
html_split initial d run b e h = insert_split initial d run b e h (λ bytes x. refl)
html_split before_html d run b e h = insert_split before_html d run b e h (λ bytes x. refl)
html_split before_head d run b e h = insert_split before_head d run b e h (λ bytes x. refl)
html_split in_head d run b e h = insert_split in_head d run b e h (λ bytes x. refl)
html_split in_head_noscript d run b e h = insert_split in_head_noscript d run b e h (λ bytes x. refl)
html_split after_head d run b e h = insert_split after_head d run b e h (λ bytes x. refl)
html_split in_body d run b e h = insert_split in_body d run b e h (λ bytes x. refl)
html_split text_mode d run b e h = insert_split text_mode d run b e h (λ bytes x. refl)
html_split in_caption d run b e h = insert_split in_caption d run b e h (λ bytes x. refl)
html_split in_column_group d run b e h = insert_split in_column_group d run b e h (λ bytes x. refl)
html_split in_cell d run b e h = insert_split in_cell d run b e h (λ bytes x. refl)
html_split in_template d run b e h = insert_split in_template d run b e h (λ bytes x. refl)
html_split after_body d run b e h = insert_split after_body d run b e h (λ bytes x. refl)
html_split in_frameset d run b e h = insert_split in_frameset d run b e h (λ bytes x. refl)
html_split after_frameset d run b e h = insert_split after_frameset d run b e h (λ bytes x. refl)
html_split after_after_body d run b e h = insert_split after_after_body d run b e h (λ bytes x. refl)
html_split after_after_frameset d run b e h = insert_split after_after_frameset d run b e h (λ bytes x. refl)

pub split : (d : ℕ) (run : List ℕ) (b : Builder) → run_dispatched (d ∷ run) b ≡ run_dispatched run (run_dispatched (d ∷ []) b)
split d run b = elim (cases_Bool (content b)) [
  | inl h ↦ html_is b.mode (d ∷ run) b refl h ∙ html_split b.mode d run b refl h ∙ ap (run_dispatched run) (sym (html_is b.mode (d ∷ []) b refl h))
  | inr f ↦ foreign_split d run b f
]

-- no start tag is counted

text_starts : (bytes : List ℕ) (b : Builder) → (insert_text bytes b).marks ≡ b.marks
text_starts [] b = refl
text_starts (c ∷ bytes) b = refl

table_starts : (bytes : List ℕ) (b : Builder) → (table_run bytes b).marks ≡ b.marks
table_starts bytes b =
    cond_both (is_text_in_table (current_tag b)) (waits b bytes) (insert_text bytes b) (λ x. x.marks ≡ b.marks) (λ _. refl) (λ _. text_starts bytes b)

html_starts : (m : Mode) (bytes : List ℕ) (b : Builder) → (html_run m bytes b).marks ≡ b.marks
html_starts in_table bytes b = table_starts bytes b
html_starts in_table_text bytes b = refl
html_starts in_table_body bytes b = table_starts bytes b
html_starts in_row bytes b = table_starts bytes b
html_starts _ bytes b = text_starts bytes b

pub run_starts : (run : List ℕ) (b : Builder) → (run_dispatched run b).marks ≡ b.marks
run_starts run b =
    cond_both (content b) (html_run b.mode (filter (goes_in b.mode) run) b) (insert_text (with_replacements run) b) (λ x. x.marks ≡ b.marks)
    (λ _. html_starts b.mode (filter (goes_in b.mode) run) b) (λ _. text_starts (with_replacements run) b)

-- it is no matter how many tokens were counted

either_counted : (v : Bool) (n : ℕ) (x y : Builder) → (if v then count_tokens n x else count_tokens n y) ≡ count_tokens n (if v then x else y)
either_counted true n x y = refl
either_counted false n x y = refl

text_counted : (bytes : List ℕ) (n : ℕ) (b : Builder) → insert_text bytes (count_tokens n b) ≡ count_tokens n (insert_text bytes b)
text_counted [] n b = refl
text_counted (c ∷ bytes) n b = refl

table_counted : (bytes : List ℕ) (n : ℕ) (b : Builder) → table_run bytes (count_tokens n b) ≡ count_tokens n (table_run bytes b)
table_counted bytes n b =
    ap (λ x. if is_text_in_table (current_tag b) then count_tokens n (waits b bytes) else x) (text_counted bytes n b)
    ∙ either_counted (is_text_in_table (current_tag b)) n (waits b bytes) (insert_text bytes b)

html_counted : (m : Mode) (bytes : List ℕ) (n : ℕ) (b : Builder) → html_run m bytes (count_tokens n b) ≡ count_tokens n (html_run m bytes b)
html_counted in_table bytes n b = table_counted bytes n b
html_counted in_table_text bytes n b = refl
html_counted in_table_body bytes n b = table_counted bytes n b
html_counted in_row bytes n b = table_counted bytes n b
html_counted _ bytes n b = text_counted bytes n b

pub run_counted : (run : List ℕ) (n : ℕ) (b : Builder) → run_dispatched run (count_tokens n b) ≡ count_tokens n (run_dispatched run b)
run_counted run n b =
    let x : Builder = html_run b.mode (filter (goes_in b.mode) run) b in
    let y : Builder = insert_text (with_replacements run) b in
    ap₂ (λ p q. if content b then p else q) (html_counted b.mode (filter (goes_in b.mode) run) n b) (text_counted (with_replacements run) n b)
    ∙ either_counted (content b) n x y

text_Counted : (bytes : List ℕ) (b : Builder) → Counted b → Counted (insert_text bytes b)
text_Counted [] b c = c
text_Counted (d ∷ bytes) b c = c

table_Counted : (bytes : List ℕ) (b : Builder) → Counted b → Counted (table_run bytes b)
table_Counted bytes b c = cond_both (is_text_in_table (current_tag b)) (waits b bytes) (insert_text bytes b) Counted (λ _. c) (λ _. text_Counted bytes b c)

html_Counted : (m : Mode) (bytes : List ℕ) (b : Builder) → Counted b → Counted (html_run m bytes b)
html_Counted in_table bytes b c = table_Counted bytes b c
html_Counted in_table_text bytes b c = c
html_Counted in_table_body bytes b c = table_Counted bytes b c
html_Counted in_row bytes b c = table_Counted bytes b c
html_Counted _ bytes b c = text_Counted bytes b c

pub run_Counted : (run : List ℕ) (b : Builder) → Counted b → Counted (run_dispatched run b)
run_Counted run b c =
    cond_both (content b) (html_run b.mode (filter (goes_in b.mode) run) b) (insert_text (with_replacements run) b) Counted
    (λ _. html_Counted b.mode (filter (goes_in b.mode) run) b c) (λ _. text_Counted (with_replacements run) b c)

pub count_same : (b : Builder) → Counted b → count_token b ≡ count_tokens 1 b
count_same b c =
    let taken : Builder = record b { tokens = suc b.tokens } in
    let most : b.added - 4 * b.tokens ≤ b.excess = ltb-false b.excess (b.added - 4 * b.tokens) c in
    cond-false (nat_lt taken.excess (excess_of taken)) (record taken { excess = excess_of taken }) taken
    (le-ltb b.excess (b.added - 4 * suc b.tokens) (omega (arith, most)))
    ∙ ap (λ (n : ℕ). record b { tokens = n }) (omega arith)

-- the rest of a run finds what its first character left

table_rest : (k : Kind) (bytes : List ℕ) (b : Builder) → content b ≡ true → AtRest k b → AtRest k (table_run bytes b)
table_rest k bytes b h r = cond_both (is_text_in_table (current_tag b)) (waits b bytes) (insert_text bytes b) (AtRest k) (λ _. (r.0, inl (h, tt))) (λ _. rest_text k bytes b r)

html_rest : (m : Mode) (k : Kind) (bytes : List ℕ) (b : Builder) → content b ≡ true → AtRest k b → AtRest k (html_run m bytes b)
html_rest in_table k bytes b h r = table_rest k bytes b h r
html_rest in_table_text k bytes b h r = r
html_rest in_table_body k bytes b h r = table_rest k bytes b h r
html_rest in_row k bytes b h r = table_rest k bytes b h r
html_rest _ k bytes b h r = rest_text k bytes b r

pub run_rest : (k : Kind) (run : List ℕ) (b : Builder) → AtRest k b → AtRest k (run_dispatched run b)
run_rest k run b r =
    cond_both (content b) (html_run b.mode (filter (goes_in b.mode) run) b) (insert_text (with_replacements run) b) (AtRest k)
    (λ h. html_rest b.mode k (filter (goes_in b.mode) run) b h r) (λ _. rest_text k (with_replacements run) b r)

table_takes : (m : Mode) (bytes : List ℕ) (b : Builder) → b.mode ≡ m → takes_any m ≡ true → takes_any (table_run bytes b).mode ≡ takes_any m
table_takes m bytes b e t = cond_both (is_text_in_table (current_tag b)) (waits b bytes) (insert_text bytes b) (λ x. takes_any x.mode ≡ takes_any m)
    (λ _. sym t) (λ _. ap takes_any (text_mode_same bytes b ∙ e))

html_takes : (m : Mode) (bytes : List ℕ) (b : Builder) → b.mode ≡ m → takes_any (html_run m bytes b).mode ≡ takes_any m
html_takes in_table bytes b e = table_takes in_table bytes b e refl
html_takes in_table_text bytes b e = ap takes_any e
html_takes in_table_body bytes b e = table_takes in_table_body bytes b e refl
html_takes in_row bytes b e = table_takes in_row bytes b e refl
html_takes _ bytes b e = ap takes_any (text_mode_same bytes b ∙ e)

pub run_takes : (run : List ℕ) (b : Builder) → takes_any (run_dispatched run b).mode ≡ takes_any b.mode
run_takes run b =
    cond_both (content b) (html_run b.mode (filter (goes_in b.mode) run) b) (insert_text (with_replacements run) b) (λ x. takes_any x.mode ≡ takes_any b.mode)
    (λ _. html_takes b.mode (filter (goes_in b.mode) run) b refl) (λ _. ap takes_any (text_mode_same (with_replacements run) b))

pub of_run_by : (m n : Mode) (k : Kind) (c : ℕ) → takes_any n ≡ takes_any m → is_of_run m k c ≡ true → is_of_run n k c ≡ true
of_run_by m n null c t e = e
of_run_by m n white c t e = e
of_run_by m n plain c t e = ap (λ (v : Bool). v || (not (c == 0) && not (is_ascii_whitespace c))) t ∙ e
