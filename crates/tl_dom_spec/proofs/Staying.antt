-- Each rule that reprocesses a token leaves a builder for which the measure goes down again.
use Rattle.std.proofs.Common.{Bool, List, [], ap, codes, false, if◌then◌else◌, refl, true, ℕ, ◌∷◌, ◌≡◌}
use Rattle.std.specs.Prelude.{⊤}
use Rattle.std.specs.Char.{is_ascii_whitespace}
use Rattle.std.proofs.lemmas.Bool.{cond_both}
use Rattle.tl_dom_spec.specs.Tags.{Tag, bare_tag, has_value, is_any, is_named, is_table, is_template, no_tag}
use Rattle.tl_dom_spec.specs.Groups.{Group, a_base, a_break, a_caption, a_cell, a_column, a_column_group, a_frameset, a_link, a_noframes, a_noscript, a_row, a_script, a_style, a_table, a_table_body, a_template, a_title, an_input, the_body, the_head, the_html}
use Rattle.tl_dom_spec.specs.Path.{Frame, new_frame, popped_through, popped_to, popped_while}
use Rattle.tl_dom_spec.specs.Builder.{Again, Builder, Done, Entry, Mode, Outcome, Token, a_character, a_comment, a_doctype, a_start, after_after_body, after_after_frameset, after_body, after_frameset, after_head, an_end, appropriate_place, before_head, before_html, clear_stack_back_to, clear_to_last_marker, close_except_for, current_tag, end_of_file, formatting, generate_implied_end_tags_except_for, has_in_scope, has_in_table_scope, has_template, in_body, in_caption, in_cell, in_column_group, in_frameset, in_head, in_head_noscript, in_row, in_table, in_table_body, in_table_text, in_template, initial, insert_and_pop, insert_character, insert_element, marker, pop_current_node, pop_until, switch_to, text_mode, with_path, without_last_marker}
use Rattle.tl_dom_spec.specs.Reset.{close_template, templates_popped}
use Rattle.tl_dom_spec.specs.Head.{after_head_end, after_head_start, after_head_step, before_head_start, before_head_step, before_html_start, before_html_step, body_implied, head_closed, head_implied, html_implied, in_head_end, in_head_noscript_step, in_head_start, in_head_step, initial_step, is_body_end, is_head_end, noscript_closed, noscript_end, noscript_start, text_step, without_doctype}
use Rattle.tl_dom_spec.specs.Body.{body_end, body_start, file_ended, in_body_step}
use Rattle.tl_dom_spec.specs.Tables.{after_caption, after_cell, after_cell_in, after_column_group, after_row, after_table_body, body_closed, caption_closed, caption_end, caption_start, cell_closed, cell_end, cell_start, column_end, column_group_closed, column_start, in_caption_step, in_cell_step, in_column_group_step, in_row_step, in_table_body_step, in_table_step, in_table_text_step, is_caption, is_cell, is_in_column_group, is_row, is_table_body_context, is_table_context, is_table_row_context, is_text_in_table, row_closed, row_end, row_start, table_body_end, table_body_start, table_character, table_closed, table_end, table_start, with_foster_parenting}
use Rattle.tl_dom_spec.specs.Outer.{after_after_body_step, after_after_frameset_step, after_body_end, after_body_start, after_body_step, after_frameset_start, after_frameset_step, back_in_body, frameset_start, in_frameset_step, in_template_step, template_end, template_mode, template_start}
use Rattle.tl_dom_spec.specs.Dispatcher.{mode_step}
use Rattle.tl_dom_spec.specs.Lawful.{AreFormatting, AreTemplateModes, IsSteady, is_template_mode, is_text_mode}
use Rattle.tl_dom_spec.proofs.PathTags.{popped-Rooted, pushed-Rooted, settled_while-Rooted}
use Rattle.tl_dom_spec.proofs.Pending.{pending-steady}

abbrev pub SteadyAfter : Outcome → Type 0
SteadyAfter (Done b) = ⊤
SteadyAfter (Again b) = IsSteady b

-- one of two
either : (v : Bool) (x y : Outcome) → SteadyAfter x → SteadyAfter y → SteadyAfter (if v then x else y)
either v x y h k = cond_both v x y SteadyAfter (λ _. h) (λ _. k)

-- what is done

pushed : (tag : Tag) (b : Builder) → IsSteady b → IsSteady (insert_element tag b)
pushed tag b r = (pushed-Rooted (appropriate_place b) (new_frame b.next tag (appropriate_place b)) b.path r.0, r.1, r.2, r.3)

pub popped : (b : Builder) → IsSteady b → IsSteady (pop_current_node b)
popped b r = (popped-Rooted b.path r.0, r.1, r.2, r.3)

pub while : (test : Frame → Bool) (b : Builder) → IsSteady b → IsSteady (with_path b (popped_while test b.path))
while test b r = (settled_while-Rooted test b.path b.path r.0, r.1, r.2, r.3)

pub back_to : (test : Tag → Bool) (b : Builder) → IsSteady b → IsSteady (clear_stack_back_to test b)
back_to test b r = (settled_while-Rooted _ b.path b.path r.0, r.1, r.2, r.3)

pub through : (test : Frame → Bool) (b : Builder) → IsSteady b → IsSteady (with_path b (popped_through test b.path))
through test b r = (popped-Rooted (popped_to test b.path) (settled_while-Rooted _ b.path b.path r.0), r.1, r.2, r.3)

pub until : (test : Tag → Bool) (b : Builder) → IsSteady b → IsSteady (pop_until test b)
until test b r = popped (clear_stack_back_to test b) (back_to test b r)

unmarked : (entries : List Entry) → AreFormatting entries → AreFormatting (without_last_marker entries)
unmarked [] e = tt
unmarked (marker ∷ entries) e = e
unmarked (formatting k tag ∷ entries) e = unmarked entries e.1

pub cleared : (b : Builder) → IsSteady b → IsSteady (clear_to_last_marker b)
cleared b r = (r.0, r.1, r.2, unmarked b.active r.3)

pub closed : (but test : Tag → Bool) (b : Builder) → IsSteady b → IsSteady (close_except_for but test b)
closed but test b r = until test (generate_implied_end_tags_except_for but b) (while _ b r)

pub less_templates : (modes : List Mode) → AreTemplateModes modes → AreTemplateModes (templates_popped modes)
less_templates [] k = tt
less_templates (m ∷ modes) k = k.1

pub template_closed : (b : Builder) → IsSteady b → IsSteady (close_template b)
template_closed b r = let c = cleared (pop_until is_template b) (until is_template b r) in (c.0, c.1, less_templates b.templates c.2, c.3)

-- up to the head

initial-steady : (b : Builder) (token : Token) → IsSteady b → SteadyAfter (initial_step b token)
initial-steady b (a_character c) r = either (is_ascii_whitespace c) (Done b) (without_doctype b) tt r
initial-steady b (a_comment bytes) r = tt
initial-steady b (a_doctype own) r = tt
initial-steady b _ r = r

html_made : (b : Builder) → IsSteady b → SteadyAfter (html_implied b)
html_made b r = pushed (bare_tag (codes "html")) b r

before_html_start-steady : (b : Builder) (g : Group) (t : Tag) → IsSteady b → SteadyAfter (before_html_start b g t)
before_html_start-steady b the_html t r = tt
before_html_start-steady b _ t r = html_made b r

before_html-steady : (b : Builder) (token : Token) → IsSteady b → SteadyAfter (before_html_step b token)
before_html-steady b (a_character c) r = either (is_ascii_whitespace c) (Done b) (html_implied b) tt (html_made b r)
before_html-steady b (a_comment bytes) r = tt
before_html-steady b (a_doctype own) r = tt
before_html-steady b (a_start g t closes) r = before_html_start-steady b g t r
before_html-steady b (an_end g name) r = either (is_head_end g) (html_implied b) (Done b) (html_made b r) tt
before_html-steady b end_of_file r = html_made b r

head_made : (b : Builder) → IsSteady b → SteadyAfter (head_implied b)
head_made b r = pushed (bare_tag (codes "head")) b r

before_head_start-steady : (b : Builder) (g : Group) (t : Tag) → IsSteady b → SteadyAfter (before_head_start b g t)
before_head_start-steady b the_html t r = tt
before_head_start-steady b the_head t r = tt
before_head_start-steady b _ t r = head_made b r

before_head-steady : (b : Builder) (token : Token) → IsSteady b → SteadyAfter (before_head_step b token)
before_head-steady b (a_character c) r = either (is_ascii_whitespace c) (Done b) (head_implied b) tt (head_made b r)
before_head-steady b (a_comment bytes) r = tt
before_head-steady b (a_doctype own) r = tt
before_head-steady b (a_start g t closes) r = before_head_start-steady b g t r
before_head-steady b (an_end g name) r = either (is_head_end g) (head_implied b) (Done b) (head_made b r) tt
before_head-steady b end_of_file r = head_made b r

-- in the head

in_head_start-steady : (b : Builder) (g : Group) (t : Tag) → IsSteady b → SteadyAfter (in_head_start b g t)
in_head_start-steady b the_html t r = tt
in_head_start-steady b the_head t r = tt
in_head_start-steady b a_noscript t r = tt
in_head_start-steady b a_base t r = tt
in_head_start-steady b a_link t r = tt
in_head_start-steady b a_title t r = tt
in_head_start-steady b a_noframes t r = tt
in_head_start-steady b a_style t r = tt
in_head_start-steady b a_script t r = tt
in_head_start-steady b a_template t r = tt
in_head_start-steady b _ t r = popped b r

in_head_end-steady : (b : Builder) (g : Group) → IsSteady b → SteadyAfter (in_head_end b g)
in_head_end-steady b the_head r = tt
in_head_end-steady b a_template r = tt
in_head_end-steady b g r = either (is_body_end g) (Again (head_closed b)) (Done b) (popped b r) tt

in_head-steady : (b : Builder) (token : Token) → IsSteady b → SteadyAfter (in_head_step b token)
in_head-steady b (a_character c) r = either (is_ascii_whitespace c) (Done (insert_character c b)) (Again (head_closed b)) tt (popped b r)
in_head-steady b (a_comment bytes) r = tt
in_head-steady b (a_doctype own) r = tt
in_head-steady b (a_start g t closes) r = in_head_start-steady b g t r
in_head-steady b (an_end g name) r = in_head_end-steady b g r
in_head-steady b end_of_file r = popped b r

noscript_start-steady : (b : Builder) (g : Group) (t : Tag) → IsSteady b → SteadyAfter (noscript_start b g t)
noscript_start-steady b the_html t r = tt
noscript_start-steady b a_link t r = tt
noscript_start-steady b a_noframes t r = tt
noscript_start-steady b a_style t r = tt
noscript_start-steady b the_head t r = tt
noscript_start-steady b a_noscript t r = tt
noscript_start-steady b _ t r = popped b r

noscript_end-steady : (b : Builder) (g : Group) → IsSteady b → SteadyAfter (noscript_end b g)
noscript_end-steady b a_noscript r = tt
noscript_end-steady b a_break r = popped b r
noscript_end-steady b _ r = tt

in_head_noscript-steady : (b : Builder) (token : Token) → IsSteady b → SteadyAfter (in_head_noscript_step b token)
in_head_noscript-steady b (a_character c) r = either (is_ascii_whitespace c) (Done (insert_character c b)) (Again (noscript_closed b)) tt (popped b r)
in_head_noscript-steady b (a_comment bytes) r = tt
in_head_noscript-steady b (a_doctype own) r = tt
in_head_noscript-steady b (a_start g t closes) r = noscript_start-steady b g t r
in_head_noscript-steady b (an_end g name) r = noscript_end-steady b g r
in_head_noscript-steady b end_of_file r = popped b r

body_made : (b : Builder) → IsSteady b → SteadyAfter (body_implied b)
body_made b r = pushed (bare_tag (codes "body")) b r

after_head_start-steady : (b : Builder) (g : Group) (t : Tag) → IsSteady b → SteadyAfter (after_head_start b g t)
after_head_start-steady b the_html t r = tt
after_head_start-steady b the_body t r = tt
after_head_start-steady b a_frameset t r = tt
after_head_start-steady b the_head t r = tt
after_head_start-steady b a_base t r = tt
after_head_start-steady b a_link t r = tt
after_head_start-steady b a_title t r = tt
after_head_start-steady b a_noframes t r = tt
after_head_start-steady b a_style t r = tt
after_head_start-steady b a_script t r = tt
after_head_start-steady b a_template t r = tt
after_head_start-steady b _ t r = body_made b r

after_head_end-steady : (b : Builder) (g : Group) → IsSteady b → SteadyAfter (after_head_end b g)
after_head_end-steady b a_template r = tt
after_head_end-steady b g r = either (is_body_end g) (body_implied b) (Done b) (body_made b r) tt

after_head-steady : (b : Builder) (token : Token) → IsSteady b → SteadyAfter (after_head_step b token)
after_head-steady b (a_character c) r = either (is_ascii_whitespace c) (Done (insert_character c b)) (body_implied b) tt (body_made b r)
after_head-steady b (a_comment bytes) r = tt
after_head-steady b (a_doctype own) r = tt
after_head-steady b (a_start g t closes) r = after_head_start-steady b g t r
after_head-steady b (an_end g name) r = after_head_end-steady b g r
after_head-steady b end_of_file r = body_made b r

-- in the body

start-done : (b : Builder) (g : Group) (t : Tag) (closes : Bool) → SteadyAfter (body_start b g t closes)
start-done b the_html t closes = tt
start-done b _ t closes = tt

body_end-steady : (b : Builder) (g : Group) (name : List ℕ) → IsSteady b → SteadyAfter (body_end b g name)
body_end-steady b the_html name r = either (has_in_scope (is_any (codes "body")) b) (Again (switch_to after_body b)) (Done b) r tt
body_end-steady b _ name r = tt

file_ended-steady : (b : Builder) → IsSteady b → SteadyAfter (file_ended b)
file_ended-steady b r = either (has_template b) (Again (close_template b)) (Done b) (template_closed b r) tt

in_body-steady : (b : Builder) (token : Token) → IsSteady b → SteadyAfter (in_body_step b token)
in_body-steady b (a_character c) r = tt
in_body-steady b (a_comment bytes) r = tt
in_body-steady b (a_doctype own) r = tt
in_body-steady b (a_start g t closes) r = start-done b g t closes
in_body-steady b (an_end g name) r = body_end-steady b g name r
in_body-steady b end_of_file r = file_ended-steady b r

text-steady : (b : Builder) (token : Token) → IsSteady b → SteadyAfter (text_step b token)
text-steady b (a_character c) r = tt
text-steady b end_of_file r = popped b r
text-steady b _ r = tt

-- tables

table_start-steady : (b : Builder) (g : Group) (t : Tag) (closes : Bool) → IsSteady b → SteadyAfter (table_start b g t closes)
table_start-steady b a_column t closes r = pushed (bare_tag (codes "colgroup")) (clear_stack_back_to is_table_context b) (back_to is_table_context b r)
table_start-steady b a_cell t closes r = pushed (bare_tag (codes "tbody")) (clear_stack_back_to is_table_context b) (back_to is_table_context b r)
table_start-steady b a_row t closes r = pushed (bare_tag (codes "tbody")) (clear_stack_back_to is_table_context b) (back_to is_table_context b r)
table_start-steady b a_table t closes r = either (has_in_table_scope is_table b) (Again (table_closed b)) (Done b) (until is_table b r) tt
table_start-steady b an_input t closes r =
    either (has_value (codes "type") (codes "hidden") t.attributes) (Done (insert_and_pop t b)) (with_foster_parenting b (a_start an_input t closes)) tt tt
table_start-steady b _ t closes r = tt

table_end-steady : (b : Builder) (g : Group) (name : List ℕ) → SteadyAfter (table_end b g name)
table_end-steady b the_html name = tt
table_end-steady b _ name = tt

table_character-steady : (b : Builder) (c : ℕ) → is_text_mode b.mode ≡ false → IsSteady b → SteadyAfter (table_character b c)
table_character-steady b c n r =
    either (is_text_in_table (current_tag b)) (Again (record b { pending = []; original = b.mode; mode = in_table_text })) (with_foster_parenting b (a_character c))
    (r.0, n, r.2, r.3) tt

in_table-steady : (b : Builder) (token : Token) → is_text_mode b.mode ≡ false → IsSteady b → SteadyAfter (in_table_step b token)
in_table-steady b (a_character c) n r = table_character-steady b c n r
in_table-steady b (a_comment bytes) n r = tt
in_table-steady b (a_doctype own) n r = tt
in_table-steady b (a_start g t closes) n r = table_start-steady b g t closes r
in_table-steady b (an_end g name) n r = table_end-steady b g name
in_table-steady b end_of_file n r = file_ended-steady b r

in_table_text-steady : (b : Builder) (token : Token) → IsSteady b → SteadyAfter (in_table_text_step b token)
in_table_text-steady b (a_character c) r = tt
in_table_text-steady b _ r = pending-steady b r

caption_left : (b : Builder) → IsSteady b → SteadyAfter (after_caption b)
caption_left b r =
    either (has_in_table_scope is_caption b) (Again (caption_closed b)) (Done b) (cleared (close_except_for no_tag is_caption b) (closed no_tag is_caption b r)) tt

caption_start-steady : (b : Builder) (g : Group) (t : Tag) (closes : Bool) → IsSteady b → SteadyAfter (caption_start b g t closes)
caption_start-steady b a_caption t closes r = caption_left b r
caption_start-steady b a_column t closes r = caption_left b r
caption_start-steady b a_column_group t closes r = caption_left b r
caption_start-steady b a_table_body t closes r = caption_left b r
caption_start-steady b a_cell t closes r = caption_left b r
caption_start-steady b a_row t closes r = caption_left b r
caption_start-steady b _ t closes r = tt

caption_end-steady : (b : Builder) (g : Group) (name : List ℕ) → IsSteady b → SteadyAfter (caption_end b g name)
caption_end-steady b a_table name r = caption_left b r
caption_end-steady b _ name r = tt

in_caption-steady : (b : Builder) (token : Token) → IsSteady b → SteadyAfter (in_caption_step b token)
in_caption-steady b (a_start g t closes) r = caption_start-steady b g t closes r
in_caption-steady b (an_end g name) r = caption_end-steady b g name r
in_caption-steady b end_of_file r = file_ended-steady b r
in_caption-steady b _ r = tt

column_group_left : (b : Builder) → IsSteady b → SteadyAfter (after_column_group b)
column_group_left b r = either (is_in_column_group b) (Again (column_group_closed b)) (Done b) (popped b r) tt

column_start-steady : (b : Builder) (g : Group) (t : Tag) → IsSteady b → SteadyAfter (column_start b g t)
column_start-steady b the_html t r = tt
column_start-steady b a_column t r = tt
column_start-steady b a_template t r = tt
column_start-steady b _ t r = column_group_left b r

column_end-steady : (b : Builder) (g : Group) → IsSteady b → SteadyAfter (column_end b g)
column_end-steady b a_column_group r = tt
column_end-steady b a_column r = tt
column_end-steady b a_template r = tt
column_end-steady b _ r = column_group_left b r

in_column_group-steady : (b : Builder) (token : Token) → IsSteady b → SteadyAfter (in_column_group_step b token)
in_column_group-steady b (a_character c) r = either (is_ascii_whitespace c) (Done (insert_character c b)) (after_column_group b) tt (column_group_left b r)
in_column_group-steady b (a_comment bytes) r = tt
in_column_group-steady b (a_doctype own) r = tt
in_column_group-steady b (a_start g t closes) r = column_start-steady b g t r
in_column_group-steady b (an_end g name) r = column_end-steady b g r
in_column_group-steady b end_of_file r = file_ended-steady b r

table_body_left : (b : Builder) → IsSteady b → SteadyAfter (after_table_body b)
table_body_left b r =
    either (has_in_table_scope (is_any (codes "tbody tfoot thead")) b) (Again (body_closed b)) (Done b)
    (popped (clear_stack_back_to is_table_body_context b) (back_to is_table_body_context b r)) tt

table_body_start-steady : (b : Builder) (g : Group) (t : Tag) (closes : Bool) → IsSteady b → SteadyAfter (table_body_start b g t closes)
table_body_start-steady b a_row t closes r = tt
table_body_start-steady b a_cell t closes r =
    pushed (bare_tag (codes "tr")) (clear_stack_back_to is_table_body_context b) (back_to is_table_body_context b r)
table_body_start-steady b a_caption t closes r = table_body_left b r
table_body_start-steady b a_column t closes r = table_body_left b r
table_body_start-steady b a_column_group t closes r = table_body_left b r
table_body_start-steady b a_table_body t closes r = table_body_left b r
table_body_start-steady b g t closes r = table_start-steady b g t closes r

table_body_end-steady : (b : Builder) (g : Group) (name : List ℕ) → IsSteady b → SteadyAfter (table_body_end b g name)
table_body_end-steady b a_table_body name r = tt
table_body_end-steady b a_table name r = table_body_left b r
table_body_end-steady b g name r = table_end-steady b g name

in_table_body-steady : (b : Builder) (token : Token) → is_text_mode b.mode ≡ false → IsSteady b → SteadyAfter (in_table_body_step b token)
in_table_body-steady b (a_start g t closes) n r = table_body_start-steady b g t closes r
in_table_body-steady b (an_end g name) n r = table_body_end-steady b g name r
in_table_body-steady b token n r = in_table-steady b token n r

row_left : (b : Builder) → IsSteady b → SteadyAfter (after_row b)
row_left b r =
    either (has_in_table_scope is_row b) (Again (row_closed b)) (Done b)
    (popped (clear_stack_back_to is_table_row_context b) (back_to is_table_row_context b r)) tt

row_start-steady : (b : Builder) (g : Group) (t : Tag) (closes : Bool) → IsSteady b → SteadyAfter (row_start b g t closes)
row_start-steady b a_cell t closes r = tt
row_start-steady b a_caption t closes r = row_left b r
row_start-steady b a_column t closes r = row_left b r
row_start-steady b a_column_group t closes r = row_left b r
row_start-steady b a_table_body t closes r = row_left b r
row_start-steady b a_row t closes r = row_left b r
row_start-steady b g t closes r = table_start-steady b g t closes r

row_end-steady : (b : Builder) (g : Group) (name : List ℕ) → IsSteady b → SteadyAfter (row_end b g name)
row_end-steady b a_row name r = tt
row_end-steady b a_table name r = row_left b r
row_end-steady b a_table_body name r = either (has_in_table_scope (is_named name) b) (after_row b) (Done b) (row_left b r) tt
row_end-steady b g name r = table_end-steady b g name

in_row-steady : (b : Builder) (token : Token) → is_text_mode b.mode ≡ false → IsSteady b → SteadyAfter (in_row_step b token)
in_row-steady b (a_start g t closes) n r = row_start-steady b g t closes r
in_row-steady b (an_end g name) n r = row_end-steady b g name r
in_row-steady b token n r = in_table-steady b token n r

cell-steady : (b : Builder) → IsSteady b → IsSteady (cell_closed is_cell b)
cell-steady b r = cleared (close_except_for no_tag is_cell b) (closed no_tag is_cell b r)

cell_left : (b : Builder) → IsSteady b → SteadyAfter (after_cell b)
cell_left b r = either (has_in_table_scope is_cell b) (Again (cell_closed is_cell b)) (Done b) (cell-steady b r) tt

cell_left_in : (name : List ℕ) (b : Builder) → IsSteady b → SteadyAfter (after_cell_in name b)
cell_left_in name b r = either (has_in_table_scope (is_named name) b) (Again (cell_closed is_cell b)) (Done b) (cell-steady b r) tt

cell_start-steady : (b : Builder) (g : Group) (t : Tag) (closes : Bool) → IsSteady b → SteadyAfter (cell_start b g t closes)
cell_start-steady b a_caption t closes r = cell_left b r
cell_start-steady b a_column t closes r = cell_left b r
cell_start-steady b a_column_group t closes r = cell_left b r
cell_start-steady b a_table_body t closes r = cell_left b r
cell_start-steady b a_cell t closes r = cell_left b r
cell_start-steady b a_row t closes r = cell_left b r
cell_start-steady b _ t closes r = tt

cell_end-steady : (b : Builder) (g : Group) (name : List ℕ) → IsSteady b → SteadyAfter (cell_end b g name)
cell_end-steady b a_table name r = cell_left_in name b r
cell_end-steady b a_table_body name r = cell_left_in name b r
cell_end-steady b a_row name r = cell_left_in name b r
cell_end-steady b _ name r = tt

in_cell-steady : (b : Builder) (token : Token) → IsSteady b → SteadyAfter (in_cell_step b token)
in_cell-steady b (a_start g t closes) r = cell_start-steady b g t closes r
in_cell-steady b (an_end g name) r = cell_end-steady b g name r
in_cell-steady b end_of_file r = file_ended-steady b r
in_cell-steady b _ r = tt

-- templates, and after the body

pub template_mode_is : (g : Group) → is_template_mode (template_mode g) ≡ true
template_mode_is a_caption = refl
template_mode_is _ = refl

template_start-steady : (b : Builder) (g : Group) (t : Tag) → IsSteady b → SteadyAfter (template_start b g t)
template_start-steady b a_base t r = tt
template_start-steady b a_link t r = tt
template_start-steady b a_noframes t r = tt
template_start-steady b a_script t r = tt
template_start-steady b a_style t r = tt
template_start-steady b a_template t r = tt
template_start-steady b a_title t r = tt
template_start-steady b g t r = (r.0, r.1, (template_mode_is g, less_templates b.templates r.2), r.3)

template_end-steady : (b : Builder) (g : Group) → SteadyAfter (template_end b g)
template_end-steady b a_template = tt
template_end-steady b _ = tt

in_template-steady : (b : Builder) (token : Token) → IsSteady b → SteadyAfter (in_template_step b token)
in_template-steady b (a_start g t closes) r = template_start-steady b g t r
in_template-steady b (an_end g name) r = template_end-steady b g
in_template-steady b end_of_file r = file_ended-steady b r
in_template-steady b _ r = tt

after_body_start-steady : (b : Builder) (g : Group) (t : Tag) → IsSteady b → SteadyAfter (after_body_start b g t)
after_body_start-steady b the_html t r = tt
after_body_start-steady b _ t r = r

after_body_end-steady : (b : Builder) (g : Group) → IsSteady b → SteadyAfter (after_body_end b g)
after_body_end-steady b the_html r = tt
after_body_end-steady b _ r = r

after_body-steady : (b : Builder) (token : Token) → IsSteady b → SteadyAfter (after_body_step b token)
after_body-steady b (a_character c) r = either (is_ascii_whitespace c) (in_body_step b (a_character c)) (back_in_body b) tt r
after_body-steady b (a_start g t closes) r = after_body_start-steady b g t r
after_body-steady b (an_end g name) r = after_body_end-steady b g r
after_body-steady b _ r = tt

after_after_body-steady : (b : Builder) (token : Token) → IsSteady b → SteadyAfter (after_after_body_step b token)
after_after_body-steady b (a_character c) r = either (is_ascii_whitespace c) (in_body_step b (a_character c)) (back_in_body b) tt r
after_after_body-steady b (a_start g t closes) r = after_body_start-steady b g t r
after_after_body-steady b (an_end g name) r = r
after_after_body-steady b _ r = tt

-- framesets

frameset_start-steady : (b : Builder) (g : Group) (t : Tag) → SteadyAfter (frameset_start b g t)
frameset_start-steady b the_html t = tt
frameset_start-steady b _ t = tt

in_frameset-steady : (b : Builder) (token : Token) → SteadyAfter (in_frameset_step b token)
in_frameset-steady b (a_start g t closes) = frameset_start-steady b g t
in_frameset-steady b _ = tt

after_frameset_start-steady : (b : Builder) (g : Group) (t : Tag) → SteadyAfter (after_frameset_start b g t)
after_frameset_start-steady b the_html t = tt
after_frameset_start-steady b _ t = tt

after_frameset-steady : (b : Builder) (token : Token) → SteadyAfter (after_frameset_step b token)
after_frameset-steady b (a_start g t closes) = after_frameset_start-steady b g t
after_frameset-steady b _ = tt

after_after_frameset-steady : (b : Builder) (token : Token) → SteadyAfter (after_after_frameset_step b token)
after_after_frameset-steady b (a_character c) = either (is_ascii_whitespace c) (in_body_step b (a_character c)) (Done b) tt tt
after_after_frameset-steady b (a_start g t closes) = after_frameset_start-steady b g t
after_after_frameset-steady b _ = tt

pub mode-steady : (m : Mode) (b : Builder) (token : Token) → b.mode ≡ m → IsSteady b → SteadyAfter (mode_step m b token)
mode-steady initial b token e r = initial-steady b token r
mode-steady before_html b token e r = before_html-steady b token r
mode-steady before_head b token e r = before_head-steady b token r
mode-steady in_head b token e r = in_head-steady b token r
mode-steady in_head_noscript b token e r = in_head_noscript-steady b token r
mode-steady after_head b token e r = after_head-steady b token r
mode-steady in_body b token e r = in_body-steady b token r
mode-steady text_mode b token e r = text-steady b token r
mode-steady in_table b token e r = in_table-steady b token (ap is_text_mode e) r
mode-steady in_table_text b token e r = in_table_text-steady b token r
mode-steady in_caption b token e r = in_caption-steady b token r
mode-steady in_column_group b token e r = in_column_group-steady b token r
mode-steady in_table_body b token e r = in_table_body-steady b token (ap is_text_mode e) r
mode-steady in_row b token e r = in_row-steady b token (ap is_text_mode e) r
mode-steady in_cell b token e r = in_cell-steady b token r
mode-steady in_template b token e r = in_template-steady b token r
mode-steady after_body b token e r = after_body-steady b token r
mode-steady in_frameset b token e r = in_frameset-steady b token
mode-steady after_frameset b token e r = after_frameset-steady b token
mode-steady after_after_body b token e r = after_after_body-steady b token r
mode-steady after_after_frameset b token e r = after_after_frameset-steady b token
