-- Each rule that reprocesses a token makes less what is left of it.
use Rattle.std.proofs.Common.{Bool, List, [], ap, arith, codes, false, if◌then◌else◌, refl, suc, ℕ, ◌<◌, ◌∙◌, ◌≡◌, ◌≤◌}
use Rattle.std.specs.Prelude.{◌*◌, ◌+◌}
use Rattle.std.specs.Char.{is_ascii_whitespace}
use Rattle.std.proofs.lemmas.Bool.{cond_both}
use Rattle.tl_dom_spec.specs.Tags.{Tag, bare_tag, has_value, is_any, is_named, is_table, is_template}
use Rattle.tl_dom_spec.specs.Groups.{Group, a_base, a_break, a_caption, a_cell, a_column, a_column_group, a_frameset, a_link, a_noframes, a_noscript, a_row, a_script, a_style, a_table, a_table_body, a_template, a_title, an_input, the_body, the_head, the_html}
use Rattle.tl_dom_spec.specs.Path.{Path, popped}
use Rattle.tl_dom_spec.specs.Builder.{Again, Builder, Done, Mode, Outcome, Token, a_character, a_comment, a_doctype, a_start, after_after_body, after_after_frameset, after_body, after_frameset, after_head, an_end, appropriate_place, before_head, before_html, current_tag, end_of_file, has_in_scope, has_in_table_scope, in_body, in_caption, in_cell, in_column_group, in_frameset, in_head, in_head_noscript, in_row, in_table, in_table_body, in_table_text, in_template, initial, insert_and_pop, insert_character, insert_element, switch_to, text_mode}
use Rattle.tl_dom_spec.specs.Head.{after_head_end, after_head_start, after_head_step, before_head_start, before_head_step, before_html_start, before_html_step, body_implied, head_closed, head_implied, html_implied, in_head_end, in_head_noscript_step, in_head_start, in_head_step, initial_step, is_body_end, is_head_end, noscript_closed, noscript_end, noscript_start, text_step, without_doctype}
use Rattle.tl_dom_spec.specs.Body.{body_end, body_start, in_body_step}
use Rattle.tl_dom_spec.specs.Tables.{after_caption, after_cell, after_cell_in, after_column_group, after_row, after_table_body, body_closed, caption_closed, caption_end, caption_start, cell_closed, cell_end, cell_start, column_end, column_group_closed, column_start, in_caption_step, in_cell_step, in_column_group_step, in_row_step, in_table_body_step, in_table_step, in_table_text_step, is_caption, is_cell, is_in_column_group, is_row, is_text_in_table, pending_inserted, row_closed, row_end, row_start, table_body_end, table_body_start, table_character, table_closed, table_end, table_start, with_foster_parenting}
use Rattle.tl_dom_spec.specs.Outer.{after_after_body_step, after_after_frameset_step, after_body_end, after_body_start, after_body_step, after_frameset_start, after_frameset_step, back_in_body, frameset_start, in_frameset_step, in_template_step, template_end, template_start}
use Rattle.tl_dom_spec.specs.Dispatcher.{mode_step}
use Rattle.tl_dom_spec.specs.Lawful.{IsSteady}
use Rattle.tl_dom_spec.proofs.PathTags.{popped-end, pushed-tags, tags}
use Rattle.tl_dom_spec.proofs.Measure.{Less, below, body_end-most, body_end_left, count, end-below, end-count, end-most, file-most, file_ended-less, is_head, left_of, less, quiet-most, start-most, table_closed-less}
use Rattle.tl_dom_spec.proofs.Pending.{pending-same}

-- one of two
either : (token : Token) (n : ℕ) (v : Bool) (x y : Outcome) → Less token n x → Less token n y → Less token n (if v then x else y)
either token n v x y h k = cond_both v x y (Less token n) (λ _. h) (λ _. k)

-- an element that is no template
pushed-templates : (b : Builder) (tag : Tag) → is_template tag ≡ false → count is_template (tags (insert_element tag b).path) ≡ count is_template (tags b.path)
pushed-templates b tag n =
    ap (count is_template) (pushed-tags (appropriate_place b) b.next tag (appropriate_place b) b.path)
    ∙ ap (λ (v : Bool). if v then suc (count is_template (tags b.path)) else count is_template (tags b.path)) n

pushed-below : (b : Builder) (tag : Tag) → is_template tag ≡ false → below (tags (insert_element tag b).path) ≡ below (tags b.path)
pushed-below b tag n =
    ap below (pushed-tags (appropriate_place b) b.next tag (appropriate_place b) b.path)
    ∙ ap (λ (v : Bool). if v then count is_head (tags b.path) else below (tags b.path)) n

popped-templates : (path : Path) → count is_template (tags (popped path)) ≤ count is_template (tags path)
popped-templates path = end-count is_template (tags path) (tags (popped path)) (popped-end path)

popped-below : (path : Path) → below (tags (popped path)) ≤ below (tags path)
popped-below path = end-below (tags path) (tags (popped path)) (popped-end path)

-- up to the head

initial-less : (b : Builder) (token : Token) → Less token (left_of token initial b) (initial_step b token)
initial-less b (a_character c) = either (a_character c) 5 (is_ascii_whitespace c) (Done b) (without_doctype b) tt (less 4 5 refl)
initial-less b (a_comment bytes) = tt
initial-less b (a_doctype own) = tt
initial-less b (a_start g t closes) = less 4 5 refl
initial-less b (an_end g name) = less 5 6 refl
initial-less b end_of_file = omega arith

before_html_start-less : (b : Builder) (g : Group) (t : Tag) (closes : Bool) → Less (a_start g t closes) 4 (before_html_start b g t)
before_html_start-less b the_html t closes = tt
before_html_start-less b _ t closes = less 3 4 refl

before_html-less : (b : Builder) (token : Token) → Less token (left_of token before_html b) (before_html_step b token)
before_html-less b (a_character c) = either (a_character c) 4 (is_ascii_whitespace c) (Done b) (html_implied b) tt (less 3 4 refl)
before_html-less b (a_comment bytes) = tt
before_html-less b (a_doctype own) = tt
before_html-less b (a_start g t closes) = before_html_start-less b g t closes
before_html-less b (an_end g name) = either (an_end g name) 5 (is_head_end g) (html_implied b) (Done b) (less 4 5 refl) tt
before_html-less b end_of_file =
    let n = pushed-templates b (bare_tag (codes "html")) refl in
    let k = pushed-below b (bare_tag (codes "html")) refl in
    omega (arith, n, k)

before_head_start-less : (b : Builder) (g : Group) (t : Tag) (closes : Bool) → Less (a_start g t closes) 3 (before_head_start b g t)
before_head_start-less b the_html t closes = tt
before_head_start-less b the_head t closes = tt
before_head_start-less b _ t closes = less 2 3 refl

before_head-less : (b : Builder) (token : Token) → Less token (left_of token before_head b) (before_head_step b token)
before_head-less b (a_character c) = either (a_character c) 3 (is_ascii_whitespace c) (Done b) (head_implied b) tt (less 2 3 refl)
before_head-less b (a_comment bytes) = tt
before_head-less b (a_doctype own) = tt
before_head-less b (a_start g t closes) = before_head_start-less b g t closes
before_head-less b (an_end g name) = either (an_end g name) 4 (is_head_end g) (head_implied b) (Done b) (less 3 4 refl) tt
before_head-less b end_of_file =
    let n = pushed-templates b (bare_tag (codes "head")) refl in
    let k = pushed-below b (bare_tag (codes "head")) refl in
    omega (arith, n, k)

-- in the head

in_head_start-less : (b : Builder) (g : Group) (t : Tag) (closes : Bool) → Less (a_start g t closes) 2 (in_head_start b g t)
in_head_start-less b the_html t closes = tt
in_head_start-less b the_head t closes = tt
in_head_start-less b a_noscript t closes = tt
in_head_start-less b a_base t closes = tt
in_head_start-less b a_link t closes = tt
in_head_start-less b a_title t closes = tt
in_head_start-less b a_noframes t closes = tt
in_head_start-less b a_style t closes = tt
in_head_start-less b a_script t closes = tt
in_head_start-less b a_template t closes = tt
in_head_start-less b _ t closes = less 1 2 refl

in_head_end-less : (b : Builder) (g : Group) (name : List ℕ) → Less (an_end g name) 3 (in_head_end b g)
in_head_end-less b the_head name = tt
in_head_end-less b a_template name = tt
in_head_end-less b g name = either (an_end g name) 3 (is_body_end g) (Again (head_closed b)) (Done b) (less 2 3 refl) tt

in_head-less : (b : Builder) (token : Token) → Less token (left_of token in_head b) (in_head_step b token)
in_head-less b (a_character c) = either (a_character c) 2 (is_ascii_whitespace c) (Done (insert_character c b)) (Again (head_closed b)) tt (less 1 2 refl)
in_head-less b (a_comment bytes) = tt
in_head-less b (a_doctype own) = tt
in_head-less b (a_start g t closes) = in_head_start-less b g t closes
in_head-less b (an_end g name) = in_head_end-less b g name
in_head-less b end_of_file = let n = popped-templates b.path in let k = popped-below b.path in omega (arith, n, k)

noscript_start-less : (b : Builder) (g : Group) (t : Tag) (closes : Bool) → Less (a_start g t closes) 3 (noscript_start b g t)
noscript_start-less b the_html t closes = tt
noscript_start-less b a_link t closes = tt
noscript_start-less b a_noframes t closes = tt
noscript_start-less b a_style t closes = tt
noscript_start-less b the_head t closes = tt
noscript_start-less b a_noscript t closes = tt
noscript_start-less b _ t closes = less 2 3 refl

noscript_end-less : (b : Builder) (g : Group) (name : List ℕ) → Less (an_end g name) 4 (noscript_end b g)
noscript_end-less b a_noscript name = tt
noscript_end-less b a_break name = less 3 4 refl
noscript_end-less b _ name = tt

in_head_noscript-less : (b : Builder) (token : Token) → Less token (left_of token in_head_noscript b) (in_head_noscript_step b token)
in_head_noscript-less b (a_character c) = either (a_character c) 3 (is_ascii_whitespace c) (Done (insert_character c b)) (Again (noscript_closed b)) tt (less 2 3 refl)
in_head_noscript-less b (a_comment bytes) = tt
in_head_noscript-less b (a_doctype own) = tt
in_head_noscript-less b (a_start g t closes) = noscript_start-less b g t closes
in_head_noscript-less b (an_end g name) = noscript_end-less b g name
in_head_noscript-less b end_of_file = let n = popped-templates b.path in let k = popped-below b.path in omega (arith, n, k)

after_head_start-less : (b : Builder) (g : Group) (t : Tag) (closes : Bool) → Less (a_start g t closes) 1 (after_head_start b g t)
after_head_start-less b the_html t closes = tt
after_head_start-less b the_body t closes = tt
after_head_start-less b a_frameset t closes = tt
after_head_start-less b the_head t closes = tt
after_head_start-less b a_base t closes = tt
after_head_start-less b a_link t closes = tt
after_head_start-less b a_title t closes = tt
after_head_start-less b a_noframes t closes = tt
after_head_start-less b a_style t closes = tt
after_head_start-less b a_script t closes = tt
after_head_start-less b a_template t closes = tt
after_head_start-less b _ t closes = less 0 1 refl

back-less : (g : Group) → body_end_left g < 2
back-less g = omega (arith, body_end-most g)

after_head_end-less : (b : Builder) (g : Group) (name : List ℕ) → Less (an_end g name) 2 (after_head_end b g)
after_head_end-less b a_template name = tt
after_head_end-less b g name = either (an_end g name) 2 (is_body_end g) (body_implied b) (Done b) (back-less g) tt

after_head-less : (b : Builder) (token : Token) → Less token (left_of token after_head b) (after_head_step b token)
after_head-less b (a_character c) = either (a_character c) 1 (is_ascii_whitespace c) (Done (insert_character c b)) (body_implied b) tt (less 0 1 refl)
after_head-less b (a_comment bytes) = tt
after_head-less b (a_doctype own) = tt
after_head-less b (a_start g t closes) = after_head_start-less b g t closes
after_head-less b (an_end g name) = after_head_end-less b g name
after_head-less b end_of_file =
    let n = pushed-templates b (bare_tag (codes "body")) refl in
    let k = pushed-below b (bare_tag (codes "body")) refl in
    omega (arith, n, k)

-- in the body

start-done : (token : Token) (n : ℕ) (b : Builder) (g : Group) (t : Tag) (closes : Bool) → Less token n (body_start b g t closes)
start-done token n b the_html t closes = tt
start-done token n b _ t closes = tt

body_end-less : (b : Builder) (g : Group) (name : List ℕ) → Less (an_end g name) (body_end_left g) (body_end b g name)
body_end-less b the_html name =
    either (an_end the_html name) 1 (has_in_scope (is_any (codes "body")) b) (Again (switch_to after_body b)) (Done b) (less 0 1 refl) tt
body_end-less b _ name = tt

in_body-less : (b : Builder) (token : Token) → IsSteady b → Less token (left_of token in_body b) (in_body_step b token)
in_body-less b (a_character c) r = tt
in_body-less b (a_comment bytes) r = tt
in_body-less b (a_doctype own) r = tt
in_body-less b (a_start g t closes) r = start-done (a_start g t closes) 0 b g t closes
in_body-less b (an_end g name) r = body_end-less b g name
in_body-less b end_of_file r = file_ended-less b r

text-less : (b : Builder) (token : Token) → IsSteady b → Less token (left_of token text_mode b) (text_step b token)
text-less b (a_character c) r = tt
text-less b end_of_file r =
    let n = popped-templates b.path in
    let k = popped-below b.path in
    let most = file-most b.has_head b.original r.1 in
    omega (arith, n, k, most)
text-less b _ r = tt

-- tables

table_start-less : (b : Builder) (g : Group) (t : Tag) (closes : Bool) → IsSteady b → Less (a_start g t closes) (left_of (a_start g t closes) in_table b) (table_start b g t closes)
table_start-less b a_column t closes r = less 0 1 refl
table_start-less b a_cell t closes r = less 1 2 refl
table_start-less b a_row t closes r = less 0 1 refl
table_start-less b a_table t closes r =
    cond_both (has_in_table_scope is_table b) (Again (table_closed b)) (Done b) (Less (a_start a_table t closes) (4 + 2 * count is_table (tags b.path)))
    (λ e. table_closed-less b t closes r e) (λ _. tt)
table_start-less b an_input t closes r =
    either (a_start an_input t closes) 0 (has_value (codes "type") (codes "hidden") t.attributes) (Done (insert_and_pop t b)) (with_foster_parenting b (a_start an_input t closes)) tt tt
table_start-less b _ t closes r = tt

table_end-less : (b : Builder) (n : ℕ) (g : Group) (name : List ℕ) → Less (an_end g name) n (table_end b g name)
table_end-less b n the_html name = tt
table_end-less b n _ name = tt

table_character-less : (b : Builder) (c : ℕ) → Less (a_character c) 1 (table_character b c)
table_character-less b c =
    either (a_character c) 1 (is_text_in_table (current_tag b)) (Again (record b { pending = []; original = b.mode; mode = in_table_text })) (with_foster_parenting b (a_character c)) (less 0 1 refl) tt

in_table-less : (b : Builder) (token : Token) → IsSteady b → Less token (left_of token in_table b) (in_table_step b token)
in_table-less b (a_character c) r = table_character-less b c
in_table-less b (a_comment bytes) r = tt
in_table-less b (a_doctype own) r = tt
in_table-less b (a_start g t closes) r = table_start-less b g t closes r
in_table-less b (an_end g name) r = table_end-less b 0 g name
in_table-less b end_of_file r = file_ended-less b r

in_table_text-less : (b : Builder) (token : Token) → IsSteady b → Less token (left_of token in_table_text b) (in_table_text_step b token)
in_table_text-less b (a_character c) r = tt
in_table_text-less b (a_comment bytes) r = quiet-most b.original r.1
in_table_text-less b (a_doctype own) r = quiet-most b.original r.1
in_table_text-less b (a_start g t closes) r =
    let same = (pending-same b r.3).tables in
    let most = start-most g b.original (count is_table (tags (pending_inserted b).path)) r.1 in
    omega (arith, same, most)
in_table_text-less b (an_end g name) r = let most = end-most g b.original r.1 in omega (arith, most)
in_table_text-less b end_of_file r =
    let same = pending-same b r.3 in
    let n = same.templates in
    let k = same.heads in
    let most = file-most (pending_inserted b).has_head b.original r.1 in
    omega (arith, n, k, most)

after_caption-less : (token : Token) (n : ℕ) (b : Builder) → left_of token in_table (caption_closed b) < n → Less token n (after_caption b)
after_caption-less token n b l = either token n (has_in_table_scope is_caption b) (Again (caption_closed b)) (Done b) l tt

caption_start-less : (b : Builder) (g : Group) (t : Tag) (closes : Bool) → Less (a_start g t closes) (left_of (a_start g t closes) in_caption b) (caption_start b g t closes)
caption_start-less b a_caption t closes = after_caption-less (a_start a_caption t closes) 1 b (less 0 1 refl)
caption_start-less b a_column t closes = after_caption-less (a_start a_column t closes) 2 b (less 1 2 refl)
caption_start-less b a_column_group t closes = after_caption-less (a_start a_column_group t closes) 1 b (less 0 1 refl)
caption_start-less b a_table_body t closes = after_caption-less (a_start a_table_body t closes) 1 b (less 0 1 refl)
caption_start-less b a_cell t closes = after_caption-less (a_start a_cell t closes) 3 b (less 2 3 refl)
caption_start-less b a_row t closes = after_caption-less (a_start a_row t closes) 2 b (less 1 2 refl)
caption_start-less b _ t closes = tt

caption_end-less : (b : Builder) (g : Group) (name : List ℕ) → Less (an_end g name) 1 (caption_end b g name)
caption_end-less b a_table name = after_caption-less (an_end a_table name) 1 b (less 0 1 refl)
caption_end-less b _ name = tt

in_caption-less : (b : Builder) (token : Token) → IsSteady b → Less token (left_of token in_caption b) (in_caption_step b token)
in_caption-less b (a_character c) r = tt
in_caption-less b (a_comment bytes) r = tt
in_caption-less b (a_doctype own) r = tt
in_caption-less b (a_start g t closes) r = caption_start-less b g t closes
in_caption-less b (an_end g name) r = caption_end-less b g name
in_caption-less b end_of_file r = file_ended-less b r

after_group-less : (token : Token) (n : ℕ) (b : Builder) → left_of token in_table (column_group_closed b) < n → Less token n (after_column_group b)
after_group-less token n b l = either token n (is_in_column_group b) (Again (column_group_closed b)) (Done b) l tt

column_start-less : (b : Builder) (g : Group) (t : Tag) (closes : Bool) → Less (a_start g t closes) (left_of (a_start g t closes) in_column_group b) (column_start b g t)
column_start-less b the_html t closes = tt
column_start-less b a_column t closes = tt
column_start-less b a_template t closes = tt
column_start-less b a_table t closes =
    let c = end-count is_table (tags b.path) (tags (popped b.path)) (popped-end b.path) in
    after_group-less (a_start a_table t closes) (5 + 2 * count is_table (tags b.path)) b (omega (arith, c))
column_start-less b a_cell t closes = after_group-less (a_start a_cell t closes) 3 b (less 2 3 refl)
column_start-less b a_row t closes = after_group-less (a_start a_row t closes) 2 b (less 1 2 refl)
column_start-less b g t closes = after_group-less (a_start g t closes) 1 b (less 0 1 refl)

column_end-less : (b : Builder) (g : Group) (name : List ℕ) → Less (an_end g name) 1 (column_end b g)
column_end-less b a_column_group name = tt
column_end-less b a_column name = tt
column_end-less b a_template name = tt
column_end-less b g name = after_group-less (an_end g name) 1 b (less 0 1 refl)

in_column_group-less : (b : Builder) (token : Token) → IsSteady b → Less token (left_of token in_column_group b) (in_column_group_step b token)
in_column_group-less b (a_character c) r =
    either (a_character c) 2 (is_ascii_whitespace c) (Done (insert_character c b)) (after_column_group b) tt (after_group-less (a_character c) 2 b (less 1 2 refl))
in_column_group-less b (a_comment bytes) r = tt
in_column_group-less b (a_doctype own) r = tt
in_column_group-less b (a_start g t closes) r = column_start-less b g t closes
in_column_group-less b (an_end g name) r = column_end-less b g name
in_column_group-less b end_of_file r = file_ended-less b r

after_body_part-less : (token : Token) (n : ℕ) (b : Builder) → left_of token in_table (body_closed b) < n → Less token n (after_table_body b)
after_body_part-less token n b l = either token n (has_in_table_scope (is_any (codes "tbody tfoot thead")) b) (Again (body_closed b)) (Done b) l tt

table_body_start-less : (b : Builder) (g : Group) (t : Tag) (closes : Bool) → IsSteady b →
    Less (a_start g t closes) (left_of (a_start g t closes) in_table_body b) (table_body_start b g t closes)
table_body_start-less b a_row t closes r = tt
table_body_start-less b a_cell t closes r = less 0 1 refl
table_body_start-less b a_caption t closes r = after_body_part-less (a_start a_caption t closes) 1 b (less 0 1 refl)
table_body_start-less b a_column t closes r = after_body_part-less (a_start a_column t closes) 2 b (less 1 2 refl)
table_body_start-less b a_column_group t closes r = after_body_part-less (a_start a_column_group t closes) 1 b (less 0 1 refl)
table_body_start-less b a_table_body t closes r = after_body_part-less (a_start a_table_body t closes) 1 b (less 0 1 refl)
table_body_start-less b g t closes r = table_start-less b g t closes r

table_body_end-less : (b : Builder) (g : Group) (name : List ℕ) → Less (an_end g name) 1 (table_body_end b g name)
table_body_end-less b a_table_body name = tt
table_body_end-less b a_table name = after_body_part-less (an_end a_table name) 1 b (less 0 1 refl)
table_body_end-less b g name = table_end-less b 1 g name

in_table_body-less : (b : Builder) (token : Token) → IsSteady b → Less token (left_of token in_table_body b) (in_table_body_step b token)
in_table_body-less b (a_character c) r = table_character-less b c
in_table_body-less b (a_comment bytes) r = tt
in_table_body-less b (a_doctype own) r = tt
in_table_body-less b (a_start g t closes) r = table_body_start-less b g t closes r
in_table_body-less b (an_end g name) r = table_body_end-less b g name
in_table_body-less b end_of_file r = file_ended-less b r

after_row-less : (token : Token) (n : ℕ) (b : Builder) → left_of token in_table_body (row_closed b) < n → Less token n (after_row b)
after_row-less token n b l = either token n (has_in_table_scope is_row b) (Again (row_closed b)) (Done b) l tt

row_start-less : (b : Builder) (g : Group) (t : Tag) (closes : Bool) → IsSteady b → Less (a_start g t closes) (left_of (a_start g t closes) in_row b) (row_start b g t closes)
row_start-less b a_cell t closes r = tt
row_start-less b a_caption t closes r = after_row-less (a_start a_caption t closes) 2 b (less 1 2 refl)
row_start-less b a_column t closes r = after_row-less (a_start a_column t closes) 3 b (less 2 3 refl)
row_start-less b a_column_group t closes r = after_row-less (a_start a_column_group t closes) 2 b (less 1 2 refl)
row_start-less b a_table_body t closes r = after_row-less (a_start a_table_body t closes) 2 b (less 1 2 refl)
row_start-less b a_row t closes r = after_row-less (a_start a_row t closes) 1 b (less 0 1 refl)
row_start-less b g t closes r = table_start-less b g t closes r

row_end-less : (b : Builder) (g : Group) (name : List ℕ) → Less (an_end g name) 2 (row_end b g name)
row_end-less b a_row name = tt
row_end-less b a_table name = after_row-less (an_end a_table name) 2 b (less 1 2 refl)
row_end-less b a_table_body name =
    either (an_end a_table_body name) 2 (has_in_table_scope (is_named name) b) (after_row b) (Done b) (after_row-less (an_end a_table_body name) 2 b (less 1 2 refl)) tt
row_end-less b g name = table_end-less b 2 g name

in_row-less : (b : Builder) (token : Token) → IsSteady b → Less token (left_of token in_row b) (in_row_step b token)
in_row-less b (a_character c) r = table_character-less b c
in_row-less b (a_comment bytes) r = tt
in_row-less b (a_doctype own) r = tt
in_row-less b (a_start g t closes) r = row_start-less b g t closes r
in_row-less b (an_end g name) r = row_end-less b g name
in_row-less b end_of_file r = file_ended-less b r

after_cell-less : (token : Token) (n : ℕ) (b : Builder) → left_of token in_row (cell_closed is_cell b) < n → Less token n (after_cell b)
after_cell-less token n b l = either token n (has_in_table_scope is_cell b) (Again (cell_closed is_cell b)) (Done b) l tt

cell_start-less : (b : Builder) (g : Group) (t : Tag) (closes : Bool) → Less (a_start g t closes) (left_of (a_start g t closes) in_cell b) (cell_start b g t closes)
cell_start-less b a_caption t closes = after_cell-less (a_start a_caption t closes) 3 b (less 2 3 refl)
cell_start-less b a_column t closes = after_cell-less (a_start a_column t closes) 4 b (less 3 4 refl)
cell_start-less b a_column_group t closes = after_cell-less (a_start a_column_group t closes) 3 b (less 2 3 refl)
cell_start-less b a_table_body t closes = after_cell-less (a_start a_table_body t closes) 3 b (less 2 3 refl)
cell_start-less b a_cell t closes = after_cell-less (a_start a_cell t closes) 1 b (less 0 1 refl)
cell_start-less b a_row t closes = after_cell-less (a_start a_row t closes) 2 b (less 1 2 refl)
cell_start-less b _ t closes = tt

after_cell_in-less : (g : Group) (name : List ℕ) (b : Builder) → Less (an_end g name) 3 (after_cell_in name b)
after_cell_in-less g name b = either (an_end g name) 3 (has_in_table_scope (is_named name) b) (Again (cell_closed is_cell b)) (Done b) (less 2 3 refl) tt

cell_end-less : (b : Builder) (g : Group) (name : List ℕ) → Less (an_end g name) 3 (cell_end b g name)
cell_end-less b a_table name = after_cell_in-less a_table name b
cell_end-less b a_table_body name = after_cell_in-less a_table_body name b
cell_end-less b a_row name = after_cell_in-less a_row name b
cell_end-less b _ name = tt

in_cell-less : (b : Builder) (token : Token) → IsSteady b → Less token (left_of token in_cell b) (in_cell_step b token)
in_cell-less b (a_character c) r = tt
in_cell-less b (a_comment bytes) r = tt
in_cell-less b (a_doctype own) r = tt
in_cell-less b (a_start g t closes) r = cell_start-less b g t closes
in_cell-less b (an_end g name) r = cell_end-less b g name
in_cell-less b end_of_file r = file_ended-less b r

-- templates, and after the body

template_start-less : (b : Builder) (g : Group) (t : Tag) (closes : Bool) → Less (a_start g t closes) 1 (template_start b g t)
template_start-less b a_base t closes = tt
template_start-less b a_link t closes = tt
template_start-less b a_noframes t closes = tt
template_start-less b a_script t closes = tt
template_start-less b a_style t closes = tt
template_start-less b a_template t closes = tt
template_start-less b a_title t closes = tt
template_start-less b _ t closes = less 0 1 refl

template_end-less : (b : Builder) (g : Group) (name : List ℕ) → Less (an_end g name) 0 (template_end b g)
template_end-less b a_template name = tt
template_end-less b _ name = tt

in_template-less : (b : Builder) (token : Token) → IsSteady b → Less token (left_of token in_template b) (in_template_step b token)
in_template-less b (a_character c) r = tt
in_template-less b (a_comment bytes) r = tt
in_template-less b (a_doctype own) r = tt
in_template-less b (a_start g t closes) r = template_start-less b g t closes
in_template-less b (an_end g name) r = template_end-less b g name
in_template-less b end_of_file r = file_ended-less b r

after_body_start-less : (b : Builder) (g : Group) (t : Tag) (closes : Bool) → Less (a_start g t closes) 1 (after_body_start b g t)
after_body_start-less b the_html t closes = tt
after_body_start-less b _ t closes = less 0 1 refl

after_body_end-less : (b : Builder) (g : Group) (name : List ℕ) → Less (an_end g name) (left_of (an_end g name) after_body b) (after_body_end b g)
after_body_end-less b the_html name = tt
after_body_end-less b _ name = less 0 1 refl

after_body-less : (b : Builder) (token : Token) → Less token (left_of token after_body b) (after_body_step b token)
after_body-less b (a_character c) = either (a_character c) 1 (is_ascii_whitespace c) (in_body_step b (a_character c)) (back_in_body b) tt (less 0 1 refl)
after_body-less b (a_comment bytes) = tt
after_body-less b (a_doctype own) = tt
after_body-less b (a_start g t closes) = after_body_start-less b g t closes
after_body-less b (an_end g name) = after_body_end-less b g name
after_body-less b end_of_file = tt

after_after_body-less : (b : Builder) (token : Token) → Less token (left_of token after_after_body b) (after_after_body_step b token)
after_after_body-less b (a_character c) = either (a_character c) 1 (is_ascii_whitespace c) (in_body_step b (a_character c)) (back_in_body b) tt (less 0 1 refl)
after_after_body-less b (a_comment bytes) = tt
after_after_body-less b (a_doctype own) = tt
after_after_body-less b (a_start g t closes) = after_body_start-less b g t closes
after_after_body-less b (an_end g name) = back-less g
after_after_body-less b end_of_file = tt

-- framesets

frameset_start-less : (b : Builder) (n : ℕ) (g : Group) (t : Tag) (closes : Bool) → Less (a_start g t closes) n (frameset_start b g t)
frameset_start-less b n the_html t closes = tt
frameset_start-less b n _ t closes = tt

in_frameset-less : (b : Builder) (token : Token) → Less token (left_of token in_frameset b) (in_frameset_step b token)
in_frameset-less b (a_start g t closes) = frameset_start-less b 0 g t closes
in_frameset-less b _ = tt

after_frameset_start-less : (b : Builder) (n : ℕ) (g : Group) (t : Tag) (closes : Bool) → Less (a_start g t closes) n (after_frameset_start b g t)
after_frameset_start-less b n the_html t closes = tt
after_frameset_start-less b n _ t closes = tt

after_frameset-less : (b : Builder) (token : Token) → Less token (left_of token after_frameset b) (after_frameset_step b token)
after_frameset-less b (a_start g t closes) = after_frameset_start-less b 0 g t closes
after_frameset-less b _ = tt

after_after_frameset-less : (b : Builder) (token : Token) → Less token (left_of token after_after_frameset b) (after_after_frameset_step b token)
after_after_frameset-less b (a_character c) = either (a_character c) 0 (is_ascii_whitespace c) (in_body_step b (a_character c)) (Done b) tt tt
after_after_frameset-less b (a_start g t closes) = after_frameset_start-less b 0 g t closes
after_after_frameset-less b _ = tt

pub mode-less : (m : Mode) (b : Builder) (token : Token) → IsSteady b → Less token (left_of token m b) (mode_step m b token)
mode-less initial b token r = initial-less b token
mode-less before_html b token r = before_html-less b token
mode-less before_head b token r = before_head-less b token
mode-less in_head b token r = in_head-less b token
mode-less in_head_noscript b token r = in_head_noscript-less b token
mode-less after_head b token r = after_head-less b token
mode-less in_body b token r = in_body-less b token r
mode-less text_mode b token r = text-less b token r
mode-less in_table b token r = in_table-less b token r
mode-less in_table_text b token r = in_table_text-less b token r
mode-less in_caption b token r = in_caption-less b token r
mode-less in_column_group b token r = in_column_group-less b token r
mode-less in_table_body b token r = in_table_body-less b token r
mode-less in_row b token r = in_row-less b token r
mode-less in_cell b token r = in_cell-less b token r
mode-less in_template b token r = in_template-less b token r
mode-less after_body b token r = after_body-less b token
mode-less in_frameset b token r = in_frameset-less b token
mode-less after_frameset b token r = after_frameset-less b token
mode-less after_after_body b token r = after_after_body-less b token
mode-less after_after_frameset b token r = after_after_frameset-less b token
