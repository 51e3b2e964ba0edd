-- The dispatcher, foreign content and tokens: what holds of a builder holds after each token, and at the start.
use Rattle.std.proofs.Common.{Bool, List, None, Option, Some, [], ap, codes, arith, false, if◌then◌else◌, inl, inr, le_refl, ltb-true, not, refl, suc, sym, true, true≢false, ℕ, ◌&&◌, ◌==◌, ◌||◌, ◌∷◌, ◌≡◌, ◌≤◌, ◌⊎◌}
use Rattle.std.specs.Prelude.{nat_lt}
use Rattle.std.specs.Char.{is_ascii_whitespace}
use Rattle.std.proofs.lemmas.Bool.{cond_both}
use Rattle.tl_html_spec.specs.HtmlTokenizer.{data_state, replacement}
use Rattle.tl_html_spec.specs.Balanced.{is_one_of}
use Rattle.tl_dom_spec.specs.Tags.{Tag, is_annotation, is_html, is_html_integration_point, is_text_integration_point}
use Rattle.tl_dom_spec.specs.Groups.{Group, a_break, a_paragraph}
use Rattle.tl_dom_spec.specs.Path.{Path, document, elements, has_number, top}
use Rattle.tl_dom_spec.specs.Builder.{Again, Builder, Done, Flags, Mode, Token, a_character, a_comment, a_doctype, a_start, adjusted_current_node, adjusted_tag, after_after_body, after_after_frameset, after_body, after_frameset, after_head, an_end, before_head, before_html, end_of_file, frameset_not_ok, in_body, in_caption, in_cell, in_column_group, in_frameset, in_head, in_head_noscript, in_row, in_table, in_table_body, in_table_text, in_template, initial, insert_bytes, insert_character, is_only, repeated, text_mode}
use Rattle.tl_dom_spec.specs.Adjusted.{foreign_name, insert_foreign_element}
use Rattle.tl_dom_spec.specs.Dispatcher.{Found, bound, breaks_out, broken_out, by_mode, calm, count_token, dispatch, excess_of, foreign_character, foreign_end, foreign_end_at, foreign_start, foreign_step, found_in, html_step, is_html_content, is_html_place, is_line_feed, is_svg_start, mode_step, nothing, marks_behind, numbered, the_frame, token_done, tokens_done}
use Rattle.tl_dom_spec.specs.HtmlTree.{Context, fragment_start, page_start}
use Rattle.tl_dom_spec.proofs.Allowed.{Allowed, Each, IfSome}
use Rattle.tl_dom_spec.proofs.Paths.{Frames, top-opens}
use Rattle.tl_dom_spec.specs.Lawful.{all_numbered, is_text_mode}
use Rattle.tl_dom_spec.proofs.Steady.{fragment-steady, page-steady}
use Rattle.tl_dom_spec.proofs.Kept.{Holds, HoldsAfter, bytes-Holds, character-Holds, comment-Holds, either, either-after, excess-Holds, marks-Holds, popped_through-Holds, popped_to-Holds, reads-Holds, repeated-Holds}
use Rattle.tl_dom_spec.proofs.HeadRules.{Allows, Starts, after_head_step-Holds, before_head_step-Holds, before_html_step-Holds, in_head_noscript_step-Holds, in_head_step-Holds, initial_step-Holds, text_step-Holds}
use Rattle.tl_dom_spec.proofs.BodyRules.{foreign-Holds, in_body_step-Holds}
use Rattle.tl_dom_spec.proofs.TableRules.{in_caption_step-Holds, in_cell_step-Holds, in_column_group_step-Holds, in_row_step-Holds, in_table_body_step-Holds, in_table_step-Holds, in_table_text_step-Holds}
use Rattle.tl_dom_spec.proofs.OuterRules.{after_after_body_step-Holds, after_after_frameset_step-Holds, after_body_step-Holds, after_frameset_step-Holds, in_frameset_step-Holds, in_template_step-Holds}

pub mode_step-Holds : (R : Allowed) (m : Mode) (b : Builder) (token : Token) → b.mode ≡ m → Allows R token → Holds R b → HoldsAfter R (mode_step m b token)
mode_step-Holds R initial b token e k h = initial_step-Holds R b token k h
mode_step-Holds R before_html b token e k h = before_html_step-Holds R b token k h
mode_step-Holds R before_head b token e k h = before_head_step-Holds R b token k h
mode_step-Holds R in_head b token e k h = in_head_step-Holds R b token k (ap is_text_mode e) h
mode_step-Holds R in_head_noscript b token e k h = in_head_noscript_step-Holds R b token k (ap is_text_mode e) h
mode_step-Holds R after_head b token e k h = after_head_step-Holds R b token k (ap is_text_mode e) h
mode_step-Holds R in_body b token e k h = in_body_step-Holds R b token k (ap is_text_mode e) h
mode_step-Holds R text_mode b token e k h = text_step-Holds R b token k h
mode_step-Holds R in_table b token e k h = in_table_step-Holds R b token k (ap is_text_mode e) h
mode_step-Holds R in_table_text b token e k h = in_table_text_step-Holds R b token k h
mode_step-Holds R in_caption b token e k h = in_caption_step-Holds R b token k (ap is_text_mode e) h
mode_step-Holds R in_column_group b token e k h = in_column_group_step-Holds R b token k (ap is_text_mode e) h
mode_step-Holds R in_table_body b token e k h = in_table_body_step-Holds R b token k (ap is_text_mode e) h
mode_step-Holds R in_row b token e k h = in_row_step-Holds R b token k (ap is_text_mode e) h
mode_step-Holds R in_cell b token e k h = in_cell_step-Holds R b token k (ap is_text_mode e) h
mode_step-Holds R in_template b token e k h = in_template_step-Holds R b token k (ap is_text_mode e) h
mode_step-Holds R after_body b token e k h = after_body_step-Holds R b token k (ap is_text_mode e) h
mode_step-Holds R in_frameset b token e k h = in_frameset_step-Holds R b token k (ap is_text_mode e) h
mode_step-Holds R after_frameset b token e k h = after_frameset_step-Holds R b token k (ap is_text_mode e) h
mode_step-Holds R after_after_body b token e k h = after_after_body_step-Holds R b token k (ap is_text_mode e) h
mode_step-Holds R after_after_frameset b token e k h = after_after_frameset_step-Holds R b token k (ap is_text_mode e) h

html_step-Holds : (R : Allowed) (b : Builder) (token : Token) → Allows R token → Holds R b → HoldsAfter R (html_step b token)
html_step-Holds R b token k h = mode_step-Holds R b.mode b token refl k h

-- foreign content

broken_out-Holds : (R : Allowed) (b : Builder) → Holds R b → Holds R (broken_out b)
broken_out-Holds R b h = popped_to-Holds R is_html_place b h

foreign_character-Holds : (R : Allowed) (c : ℕ) (b : Builder) → R.Says c → Holds R b → Holds R (foreign_character c b)
foreign_character-Holds R c b k h =
    either R (c == 0) (insert_bytes replacement b) (if is_ascii_whitespace c then insert_character c b else frameset_not_ok (insert_character c b))
    (bytes-Holds R replacement b ((λ _. tt), R.replaced) h)
    (either R (is_ascii_whitespace c) (insert_character c b) (frameset_not_ok (insert_character c b)) (character-Holds R c b k h) (character-Holds R c b k h))

-- a foreign element that is the adjusted current node was opened, or is the context element
adjusted-allowed : (R : Allowed) (context : Option Tag) (path : Path) → IfSome R.Around context → Frames R path → is_html (adjusted_tag context path) ≡ false →
    R.Opens (adjusted_tag context path) ⊎ R.Around (adjusted_tag context path)
adjusted-allowed R None path a h e = inl (top-opens R path h e)
adjusted-allowed R (Some tag) path a h e =
    cond_both (is_only (elements path)) tag (top path).tag (λ t. is_html t ≡ false → R.Opens t ⊎ R.Around t) (λ _ _. inr a) (λ _ k. inl (top-opens R path h k)) e

pub foreign-allowed : (R : Allowed) (b : Builder) → Holds R b → is_html (adjusted_current_node b) ≡ false → R.Opens (adjusted_current_node b) ⊎ R.Around (adjusted_current_node b)
foreign-allowed R b h e = adjusted-allowed R b.context b.path h.0.3.around h.0.0 e

foreign_start-Holds : (R : Allowed) (b : Builder) (g : Group) (t : Tag) (closes : Bool) → is_html (adjusted_current_node b) ≡ false → Starts R g t → Holds R b → HoldsAfter R (foreign_start b g t closes)
foreign_start-Holds R b g t closes e k h =
    let around : Tag = adjusted_current_node b in
    let own : Tag = record t { name = foreign_name around.space t.name } in
    either-after R (breaks_out t) (html_step (broken_out b) (a_start g t closes)) (Done (insert_foreign_element around.space own closes b))
    (html_step-Holds R (broken_out b) (a_start g t closes) k (broken_out-Holds R b h))
    (foreign-Holds R around.space own closes b (k.foreign around e (foreign-allowed R b h e)) h)

foreign_end_at-Holds : (R : Allowed) (found : Found) (b : Builder) (g : Group) (name : List ℕ) → Holds R b → HoldsAfter R (foreign_end_at found b g name)
foreign_end_at-Holds R (the_frame k) b g name h = popped_through-Holds R (has_number k) b h
foreign_end_at-Holds R by_mode b g name h = html_step-Holds R b (an_end g name) tt h
foreign_end_at-Holds R nothing b g name h = h

foreign_end-Holds : (R : Allowed) (b : Builder) (g : Group) (name : List ℕ) → Holds R b → HoldsAfter R (foreign_end b g name)
foreign_end-Holds R b a_break name h = html_step-Holds R (broken_out b) (an_end a_break name) tt (broken_out-Holds R b h)
foreign_end-Holds R b a_paragraph name h = html_step-Holds R (broken_out b) (an_end a_paragraph name) tt (broken_out-Holds R b h)
foreign_end-Holds R b g name h = foreign_end_at-Holds R (found_in name (elements b.path)) b g name h

first_false : (x y z w : Bool) → (x || y || z || w) ≡ false → x ≡ false
first_false true y z w e = e
first_false false y z w e = refl

pub no_html : (own : Tag) (g : Group) (t : Tag) (closes : Bool) → is_html_content own (a_start g t closes) ≡ false → is_html own ≡ false
no_html own g t closes e =
    first_false (is_html own) (is_html_integration_point own)
    (is_text_integration_point own && not (is_one_of (codes "mglyph malignmark") t.name)) (is_annotation own && is_svg_start g) e

-- an HTML element as the current node

first_true : (x y z w : Bool) → x ≡ true → (x || y || z || w) ≡ true
first_true true y z w e = refl
first_true false y z w e = absurd (true≢false (sym e))

pub first_of_three : (x y z : Bool) → x ≡ true → (x || y || z) ≡ true
first_of_three true y z e = refl
first_of_three false y z e = absurd (true≢false (sym e))

pub html_content : (t : Tag) (token : Token) → is_html t ≡ true → is_html_content t token ≡ true
html_content t (a_character c) e = first_of_three (is_html t) (is_text_integration_point t) (is_html_integration_point t) e
html_content t (a_start g own closes) e =
    first_true (is_html t) (is_html_integration_point t) (is_text_integration_point t && not (is_one_of (codes "mglyph malignmark") own.name)) (is_annotation t && is_svg_start g) e
html_content t (an_end g name) e = e
html_content t (a_comment bytes) e = e
html_content t (a_doctype own) e = e
html_content t end_of_file e = refl

foreign_step-Holds : (R : Allowed) (b : Builder) (token : Token) → is_html_content (adjusted_current_node b) token ≡ false → Allows R token → Holds R b → HoldsAfter R (foreign_step b token)
foreign_step-Holds R b (a_character c) e k h = foreign_character-Holds R c b k h
foreign_step-Holds R b (a_comment bytes) e k h = comment-Holds R bytes b k h
foreign_step-Holds R b (a_doctype own) e k h = h
foreign_step-Holds R b (a_start g t closes) e k h = foreign_start-Holds R b g t closes (no_html (adjusted_current_node b) g t closes e) k h
foreign_step-Holds R b (an_end g name) e k h = foreign_end-Holds R b g name h
foreign_step-Holds R b end_of_file e k h = html_step-Holds R b end_of_file tt h

-- tokens

pub dispatch-Holds : (R : Allowed) (token : Token) (b : Builder) → Allows R token → Holds R b → HoldsAfter R (dispatch token b)
dispatch-Holds R token b k h =
    cond_both (is_html_content (adjusted_current_node b) token) (html_step b token) (foreign_step b token) (HoldsAfter R)
    (λ _. html_step-Holds R b token k h) (λ e. foreign_step-Holds R b token e k h)

pub calm-Holds : (R : Allowed) (b : Builder) → Holds R b → Holds R (calm b)
calm-Holds R b h = reads-Holds R data_state b R.data_read h

count-Holds : (R : Allowed) (b : Builder) → Holds R b → Holds R (count_token b)
count-Holds R b h =
    let taken : Builder = record b { tokens = suc b.tokens } in
    cond_both (nat_lt taken.excess (excess_of taken)) (record taken { excess = excess_of taken }) taken (Holds R)
    (λ e. excess-Holds R (excess_of taken) taken (R.grows b.excess (excess_of taken) (omega (arith, ltb-true b.excess (excess_of taken) e)) h.0.3.excess) h)
    (λ _. h)

-- how many marks were taken, once tokens are
abbrev pub marks_after : ℕ → List Token → ℕ
marks_after n [] = n
marks_after n (token ∷ tokens) = marks_after (marks_behind n token) tokens

pub marks_are : (b : Builder) (tokens : List Token) → (tokens_done b tokens).marks ≡ marks_after b.marks tokens
marks_are b [] = refl
marks_are b (token ∷ tokens) = marks_are (token_done b token) tokens

behind-least : (n : ℕ) (token : Token) → n ≤ marks_behind n token
behind-least n (a_character c) = le_refl n
behind-least n (a_start g t closes) = omega arith
behind-least n (an_end g name) = omega arith
behind-least n (a_comment own) = omega arith
behind-least n (a_doctype own) = omega arith
behind-least n end_of_file = le_refl n

pub after-least : (n : ℕ) (tokens : List Token) → n ≤ marks_after n tokens
after-least n [] = le_refl n
after-least n (token ∷ tokens) =
    let one = behind-least n token in
    let more = after-least (marks_behind n token) tokens in
    omega (arith, one, more)

pub token-Holds : (R : Allowed) (b : Builder) (token : Token) → Allows R (numbered b.marks token) → R.Gaps (marks_behind b.marks token) → Holds R b → Holds R (token_done b token)
token-Holds R b token k g h =
    let own : Token = numbered b.marks token in
    let taken : Builder = if b.skips && is_line_feed token then calm b else repeated (bound b) (dispatch own) (Again (calm b)) in
    marks-Holds R (marks_behind b.marks token) (count_token taken) g (count-Holds R taken
    (either R (b.skips && is_line_feed token) (calm b) (repeated (bound b) (dispatch own) (Again (calm b)))
    (calm-Holds R b h)
    (repeated-Holds R (bound b) (dispatch own) (Again (calm b)) (λ c i. dispatch-Holds R own c k i) (calm-Holds R b h))))

pub tokens-Holds : (R : Allowed) (b : Builder) (tokens : List Token) → Each (Allows R) (all_numbered b.marks tokens) → ((n : ℕ) → n ≤ marks_after b.marks tokens → R.Gaps n) → Holds R b → Holds R (tokens_done b tokens)
tokens-Holds R b [] k g h = h
tokens-Holds R b (token ∷ tokens) k g h =
    let next : ℕ = marks_behind b.marks token in
    tokens-Holds R (token_done b token) tokens k.1 g (token-Holds R b token k.0 (g next (after-least next tokens)) h)

-- before the first token

document-Frames : (R : Allowed) → Frames R (document ∷ [])
document-Frames R = ((tt, tt), ((λ e. absurd (true≢false (sym e))), inr refl), tt)

pub page_start-Holds : (R : Allowed) (flags : Flags) → R.Scripts flags.is_scripting → R.Exceeds 0 → R.Gaps 0 → Holds R (page_start flags)
page_start-Holds R flags s x g =
    ((document-Frames R, tt, tt, record { state = R.data_read; around = tt; scripts = s; excess = x; gaps = g }), λ _. page-steady flags)

pub fragment_start-Holds : (R : Allowed) (flags : Flags) (context : Context) → R.Scripts flags.is_scripting → R.Exceeds 0 → R.Around context.tag → R.Gaps 0 → Holds R (fragment_start flags context)
fragment_start-Holds R flags context s x a g =
    ((((tt, tt), R.html, document-Frames R), tt, tt, record { state = R.data_read; around = a; scripts = s; excess = x; gaps = g }), λ _. fragment-steady flags context)
