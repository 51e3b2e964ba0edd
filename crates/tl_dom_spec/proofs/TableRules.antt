-- The rules of the modes of tables keep what holds of a builder.
use Rattle.std.proofs.Common.{Bool, List, None, Option, Some, [], codes, false, if◌then◌else◌, refl, true, true≢false, ℕ, ◌++◌, ◌==◌, ◌∷◌, ◌≡◌}
use Rattle.std.specs.Char.{is_ascii_whitespace}
use Rattle.std.specs.List.{list_all}
use Rattle.std.proofs.lemmas.Bool.{cond_both}
use Rattle.tl_html_spec.specs.Sound.{IsSome}
use Rattle.tl_dom_spec.specs.Tags.{Tag, bare_tag, has_value, is_any, is_named, is_table, no_tag}
use Rattle.tl_dom_spec.specs.Groups.{Group, a_caption, a_cell, a_column, a_column_group, a_form, a_row, a_script, a_style, a_table, a_table_body, a_template, an_input, the_body, the_html}
use Rattle.tl_dom_spec.specs.Builder.{Again, Builder, Done, Token, a_character, a_comment, a_doctype, a_start, an_end, close_except_for, current_tag, end_of_file, fostering, has_in_table_scope, has_template, in_table_text, insert_and_pop, insert_bytes, insert_character, insert_element, insert_marker}
use Rattle.tl_dom_spec.specs.Body.{body_character, in_body_step}
use Rattle.tl_dom_spec.specs.Tables.{after_caption, after_cell, after_cell_in, after_column_group, after_row, after_table_body, body_characters, body_closed, body_implied, body_opened, caption_closed, caption_end, caption_start, cell_closed, cell_end, cell_start, clear_stack_back_to_table_body_context, clear_stack_back_to_table_context, clear_stack_back_to_table_row_context, column_end, column_group_closed, column_start, in_caption_step, in_cell_step, in_column_group_step, in_row_step, in_table_body_step, in_table_step, in_table_text_step, is_caption, is_cell, is_in_column_group, is_row, is_table_body_context, is_table_context, is_table_row_context, is_text_in_table, no_bytes, pending_inserted, row_closed, row_end, row_opened, row_start, table_body_end, table_body_start, table_character, table_closed, table_end, table_form, table_start, with_foster_parenting}
use Rattle.tl_dom_spec.proofs.Allowed.{Allowed, Each}
use Rattle.tl_dom_spec.proofs.Kept.{Holds, HoldsAfter, Roams, alone-Holds, back_to-Holds, bytes-Holds, character-Holds, clear-Holds, close-Holds, comment-Holds, either, either-after, form-Holds, insert-Holds, map-Holds, marker-Holds, none_pending-Holds, pending-Holds, pop-Holds, pop_until-Holds, template_end_tag-Holds}
use Rattle.tl_dom_spec.proofs.HeadRules.{Allows, Starts, html_start-Holds, in_head_start-Holds}
use Rattle.tl_dom_spec.proofs.BodyRules.{body_character-Holds, file_ended-Holds, in_body_step-Holds}

pub clear_stack_back_to_table_context-Holds : (R : Allowed) (b : Builder) → Holds R b → Holds R (clear_stack_back_to_table_context b)
clear_stack_back_to_table_context-Holds R b h = back_to-Holds R is_table_context b h

pub clear_stack_back_to_table_body_context-Holds : (R : Allowed) (b : Builder) → Holds R b → Holds R (clear_stack_back_to_table_body_context b)
clear_stack_back_to_table_body_context-Holds R b h = back_to-Holds R is_table_body_context b h

pub clear_stack_back_to_table_row_context-Holds : (R : Allowed) (b : Builder) → Holds R b → Holds R (clear_stack_back_to_table_row_context b)
clear_stack_back_to_table_row_context-Holds R b h = back_to-Holds R is_table_row_context b h

pub fostered-Holds : (R : Allowed) (b : Builder) (token : Token) → Allows R token → Roams b → Holds R b → HoldsAfter R (with_foster_parenting b token)
fostered-Holds R b token k n h =
    map-Holds R (fostering false) (in_body_step (fostering true b) token) (λ c l. l) (in_body_step-Holds R (fostering true b) token k n h)

pub table_closed-Holds : (R : Allowed) (b : Builder) → Holds R b → Holds R (table_closed b)
table_closed-Holds R b h = pop_until-Holds R is_table b h

pub body_opened-Holds : (R : Allowed) (b : Builder) (t : Tag) → R.Opens t → Holds R b → Holds R (body_opened b t)
body_opened-Holds R b t o h = insert-Holds R t (clear_stack_back_to_table_context b) o (clear_stack_back_to_table_context-Holds R b h)

pub body_implied-Holds : (R : Allowed) (b : Builder) → Holds R b → Holds R (body_implied b)
body_implied-Holds R b h = body_opened-Holds R b (bare_tag (codes "tbody")) R.table_body h

pub table_form-Holds : (R : Allowed) (form : Option ℕ) (b : Builder) (t : Tag) → R.Opens t → Holds R b → Holds R (table_form form b t)
table_form-Holds R (Some k) b t o h = h
table_form-Holds R None b t o h = either R (has_template b) b (record (insert_and_pop t b) { form = Some b.next }) h (form-Holds R (Some b.next) (insert_and_pop t b) (alone-Holds R t b (R.stands t o) h))

pub table_start-Holds : (R : Allowed) (b : Builder) (g : Group) (t : Tag) (closes : Bool) → Starts R g t → Roams b → Holds R b → HoldsAfter R (table_start b g t closes)
table_start-Holds R b a_caption t closes k n h = insert-Holds R t (insert_marker (clear_stack_back_to_table_context b)) (k.opens refl) (marker-Holds R (clear_stack_back_to_table_context b) (clear_stack_back_to_table_context-Holds R b h))
table_start-Holds R b a_column_group t closes k n h = insert-Holds R t (clear_stack_back_to_table_context b) (k.opens refl) (clear_stack_back_to_table_context-Holds R b h)
table_start-Holds R b a_column t closes k n h = insert-Holds R (bare_tag (codes "colgroup")) (clear_stack_back_to_table_context b) R.column_group (clear_stack_back_to_table_context-Holds R b h)
table_start-Holds R b a_table_body t closes k n h = body_opened-Holds R b t (k.opens refl) h
table_start-Holds R b a_cell t closes k n h = body_implied-Holds R b h
table_start-Holds R b a_row t closes k n h = body_implied-Holds R b h
table_start-Holds R b a_table t closes k n h = either-after R (has_in_table_scope is_table b) (Again (table_closed b)) (Done b) (table_closed-Holds R b h) h
table_start-Holds R b a_style t closes k n h = in_head_start-Holds R b a_style t k n h
table_start-Holds R b a_script t closes k n h = in_head_start-Holds R b a_script t k n h
table_start-Holds R b a_template t closes k n h = in_head_start-Holds R b a_template t k n h
table_start-Holds R b an_input t closes k n h = either-after R (has_value (codes "type") (codes "hidden") t.attributes) (Done (insert_and_pop t b)) (with_foster_parenting b (a_start an_input t closes)) (alone-Holds R t b k.alone h) (fostered-Holds R b (a_start an_input t closes) k n h)
table_start-Holds R b a_form t closes k n h = table_form-Holds R b.form b t (k.opens refl) h
table_start-Holds R b g t closes k n h = fostered-Holds R b (a_start g t closes) k n h

pub table_end-Holds : (R : Allowed) (b : Builder) (g : Group) (name : List ℕ) → Roams b → Holds R b → HoldsAfter R (table_end b g name)
table_end-Holds R b a_table name n h = either R (has_in_table_scope is_table b) (table_closed b) b (table_closed-Holds R b h) h
table_end-Holds R b the_body name n h = h
table_end-Holds R b a_caption name n h = h
table_end-Holds R b a_column name n h = h
table_end-Holds R b a_column_group name n h = h
table_end-Holds R b the_html name n h = h
table_end-Holds R b a_table_body name n h = h
table_end-Holds R b a_cell name n h = h
table_end-Holds R b a_row name n h = h
table_end-Holds R b a_template name n h = template_end_tag-Holds R b h
table_end-Holds R b g name n h = fostered-Holds R b (an_end g name) tt n h

pub table_character-Holds : (R : Allowed) (b : Builder) (c : ℕ) → R.Says c → Roams b → Holds R b → HoldsAfter R (table_character b c)
table_character-Holds R b c k n h = either-after R (is_text_in_table (current_tag b)) (Again (record b { pending = []; original = b.mode; mode = in_table_text })) (with_foster_parenting b (a_character c)) (let x = none_pending-Holds R b h in (x.0, λ y. let s = x.1 y in (s.0, n, s.2, s.3))) (fostered-Holds R b (a_character c) k n h)

pub in_table_step-Holds : (R : Allowed) (b : Builder) (token : Token) → Allows R token → Roams b → Holds R b → HoldsAfter R (in_table_step b token)
in_table_step-Holds R b (a_character c) k n h = table_character-Holds R b c k n h
in_table_step-Holds R b (a_comment bytes) k n h = comment-Holds R bytes b k h
in_table_step-Holds R b (a_doctype own) k n h = h
in_table_step-Holds R b (a_start g t closes) k n h = table_start-Holds R b g t closes k n h
in_table_step-Holds R b (an_end g name) k n h = table_end-Holds R b g name n h
in_table_step-Holds R b end_of_file k n h = file_ended-Holds R b h

body_characters-Holds : (R : Allowed) (bytes : List ℕ) (b : Builder) → Each R.Says bytes → Holds R b → Holds R (body_characters bytes b)
body_characters-Holds R [] b k h = h
body_characters-Holds R (c ∷ bytes) b k h = body_characters-Holds R bytes (body_character c b) k.1 (body_character-Holds R c b k.0 h)

some_bytes : (bytes : List ℕ) → no_bytes bytes ≡ false → IsSome bytes
some_bytes [] e = absurd (true≢false e)
some_bytes (c ∷ bytes) e = tt

waiting-Holds : (R : Allowed) (b : Builder) → Holds R b → Holds R (pending_inserted b)
waiting-Holds R b h =
    cond_both (no_bytes b.pending) b _ (Holds R) (λ _. h)
    (λ e. either R (list_all is_ascii_whitespace b.pending) (insert_bytes b.pending b) (fostering false (body_characters b.pending (fostering true b)))
    (bytes-Holds R b.pending b ((λ _. some_bytes b.pending e), h.0.2) h) (body_characters-Holds R b.pending (fostering true b) h.0.2 h))

pended-Holds : (R : Allowed) (c : ℕ) (b : Builder) → R.Says c → Holds R b → Holds R (if c == 0 then b else record b { pending = b.pending ++ c ∷ [] })
pended-Holds R c b k h =
    either R (c == 0) b (record b { pending = b.pending ++ c ∷ [] }) h (pending-Holds R c b k h)

pub in_table_text_step-Holds : (R : Allowed) (b : Builder) (token : Token) → Allows R token → Holds R b → HoldsAfter R (in_table_text_step b token)
in_table_text_step-Holds R b (a_character c) k h = pended-Holds R c b k h
in_table_text_step-Holds R b (a_start g t closes) k h = waiting-Holds R b h
in_table_text_step-Holds R b (an_end g name) k h = waiting-Holds R b h
in_table_text_step-Holds R b (a_comment bytes) k h = waiting-Holds R b h
in_table_text_step-Holds R b (a_doctype own) k h = waiting-Holds R b h
in_table_text_step-Holds R b end_of_file k h = waiting-Holds R b h

pub caption_closed-Holds : (R : Allowed) (b : Builder) → Holds R b → Holds R (caption_closed b)
caption_closed-Holds R b h = clear-Holds R (close_except_for no_tag is_caption b) (close-Holds R no_tag is_caption b h)

pub after_caption-Holds : (R : Allowed) (b : Builder) → Holds R b → HoldsAfter R (after_caption b)
after_caption-Holds R b h = either-after R (has_in_table_scope is_caption b) (Again (caption_closed b)) (Done b) (caption_closed-Holds R b h) h

pub caption_start-Holds : (R : Allowed) (b : Builder) (g : Group) (t : Tag) (closes : Bool) → Starts R g t → Roams b → Holds R b → HoldsAfter R (caption_start b g t closes)
caption_start-Holds R b a_caption t closes k n h = after_caption-Holds R b h
caption_start-Holds R b a_column t closes k n h = after_caption-Holds R b h
caption_start-Holds R b a_column_group t closes k n h = after_caption-Holds R b h
caption_start-Holds R b a_table_body t closes k n h = after_caption-Holds R b h
caption_start-Holds R b a_cell t closes k n h = after_caption-Holds R b h
caption_start-Holds R b a_row t closes k n h = after_caption-Holds R b h
caption_start-Holds R b g t closes k n h = in_body_step-Holds R b (a_start g t closes) k n h

pub caption_end-Holds : (R : Allowed) (b : Builder) (g : Group) (name : List ℕ) → Roams b → Holds R b → HoldsAfter R (caption_end b g name)
caption_end-Holds R b a_caption name n h = either R (has_in_table_scope is_caption b) (caption_closed b) b (caption_closed-Holds R b h) h
caption_end-Holds R b a_table name n h = after_caption-Holds R b h
caption_end-Holds R b the_body name n h = h
caption_end-Holds R b a_column name n h = h
caption_end-Holds R b a_column_group name n h = h
caption_end-Holds R b the_html name n h = h
caption_end-Holds R b a_table_body name n h = h
caption_end-Holds R b a_cell name n h = h
caption_end-Holds R b a_row name n h = h
caption_end-Holds R b g name n h = in_body_step-Holds R b (an_end g name) tt n h

pub in_caption_step-Holds : (R : Allowed) (b : Builder) (token : Token) → Allows R token → Roams b → Holds R b → HoldsAfter R (in_caption_step b token)
in_caption_step-Holds R b (a_start g t closes) k n h = caption_start-Holds R b g t closes k n h
in_caption_step-Holds R b (an_end g name) k n h = caption_end-Holds R b g name n h
in_caption_step-Holds R b token k n h = in_body_step-Holds R b token k n h

pub column_group_closed-Holds : (R : Allowed) (b : Builder) → Holds R b → Holds R (column_group_closed b)
column_group_closed-Holds R b h = pop-Holds R b h

pub after_column_group-Holds : (R : Allowed) (b : Builder) → Holds R b → HoldsAfter R (after_column_group b)
after_column_group-Holds R b h = either-after R (is_in_column_group b) (Again (column_group_closed b)) (Done b) (column_group_closed-Holds R b h) h

pub column_start-Holds : (R : Allowed) (b : Builder) (g : Group) (t : Tag) → Starts R g t → Roams b → Holds R b → HoldsAfter R (column_start b g t)
column_start-Holds R b the_html t k n h = html_start-Holds R b t (k.more refl) h
column_start-Holds R b a_column t k n h = alone-Holds R t b k.alone h
column_start-Holds R b a_template t k n h = in_head_start-Holds R b a_template t k n h
column_start-Holds R b g t k n h = after_column_group-Holds R b h

pub column_end-Holds : (R : Allowed) (b : Builder) (g : Group) → Holds R b → HoldsAfter R (column_end b g)
column_end-Holds R b a_column_group h = either R (is_in_column_group b) (column_group_closed b) b (column_group_closed-Holds R b h) h
column_end-Holds R b a_column h = h
column_end-Holds R b a_template h = template_end_tag-Holds R b h
column_end-Holds R b g h = after_column_group-Holds R b h

pub in_column_group_step-Holds : (R : Allowed) (b : Builder) (token : Token) → Allows R token → Roams b → Holds R b → HoldsAfter R (in_column_group_step b token)
in_column_group_step-Holds R b (a_character c) k n h = either-after R (is_ascii_whitespace c) (Done (insert_character c b)) (after_column_group b) (character-Holds R c b k h) (after_column_group-Holds R b h)
in_column_group_step-Holds R b (a_comment bytes) k n h = comment-Holds R bytes b k h
in_column_group_step-Holds R b (a_doctype own) k n h = h
in_column_group_step-Holds R b (a_start g t closes) k n h = column_start-Holds R b g t k n h
in_column_group_step-Holds R b (an_end g name) k n h = column_end-Holds R b g h
in_column_group_step-Holds R b end_of_file k n h = file_ended-Holds R b h

pub row_opened-Holds : (R : Allowed) (b : Builder) (t : Tag) → R.Opens t → Holds R b → Holds R (row_opened b t)
row_opened-Holds R b t o h = insert-Holds R t (clear_stack_back_to_table_body_context b) o (clear_stack_back_to_table_body_context-Holds R b h)

pub body_closed-Holds : (R : Allowed) (b : Builder) → Holds R b → Holds R (body_closed b)
body_closed-Holds R b h = pop-Holds R (clear_stack_back_to_table_body_context b) (clear_stack_back_to_table_body_context-Holds R b h)

pub after_table_body-Holds : (R : Allowed) (b : Builder) → Holds R b → HoldsAfter R (after_table_body b)
after_table_body-Holds R b h = either-after R (has_in_table_scope (is_any (codes "tbody tfoot thead")) b) (Again (body_closed b)) (Done b) (body_closed-Holds R b h) h

pub table_body_start-Holds : (R : Allowed) (b : Builder) (g : Group) (t : Tag) (closes : Bool) → Starts R g t → Roams b → Holds R b → HoldsAfter R (table_body_start b g t closes)
table_body_start-Holds R b a_row t closes k n h = row_opened-Holds R b t (k.opens refl) h
table_body_start-Holds R b a_cell t closes k n h = row_opened-Holds R b (bare_tag (codes "tr")) R.row h
table_body_start-Holds R b a_caption t closes k n h = after_table_body-Holds R b h
table_body_start-Holds R b a_column t closes k n h = after_table_body-Holds R b h
table_body_start-Holds R b a_column_group t closes k n h = after_table_body-Holds R b h
table_body_start-Holds R b a_table_body t closes k n h = after_table_body-Holds R b h
table_body_start-Holds R b g t closes k n h = table_start-Holds R b g t closes k n h

pub table_body_end-Holds : (R : Allowed) (b : Builder) (g : Group) (name : List ℕ) → Roams b → Holds R b → HoldsAfter R (table_body_end b g name)
table_body_end-Holds R b a_table_body name n h = either R (has_in_table_scope (is_named name) b) (body_closed b) b (body_closed-Holds R b h) h
table_body_end-Holds R b a_table name n h = after_table_body-Holds R b h
table_body_end-Holds R b g name n h = table_end-Holds R b g name n h

pub in_table_body_step-Holds : (R : Allowed) (b : Builder) (token : Token) → Allows R token → Roams b → Holds R b → HoldsAfter R (in_table_body_step b token)
in_table_body_step-Holds R b (a_start g t closes) k n h = table_body_start-Holds R b g t closes k n h
in_table_body_step-Holds R b (an_end g name) k n h = table_body_end-Holds R b g name n h
in_table_body_step-Holds R b token k n h = in_table_step-Holds R b token k n h

pub row_closed-Holds : (R : Allowed) (b : Builder) → Holds R b → Holds R (row_closed b)
row_closed-Holds R b h = pop-Holds R (clear_stack_back_to_table_row_context b) (clear_stack_back_to_table_row_context-Holds R b h)

pub after_row-Holds : (R : Allowed) (b : Builder) → Holds R b → HoldsAfter R (after_row b)
after_row-Holds R b h = either-after R (has_in_table_scope is_row b) (Again (row_closed b)) (Done b) (row_closed-Holds R b h) h

pub row_start-Holds : (R : Allowed) (b : Builder) (g : Group) (t : Tag) (closes : Bool) → Starts R g t → Roams b → Holds R b → HoldsAfter R (row_start b g t closes)
row_start-Holds R b a_cell t closes k n h = marker-Holds R (insert_element t (clear_stack_back_to_table_row_context b)) (insert-Holds R t (clear_stack_back_to_table_row_context b) (k.opens refl) (clear_stack_back_to_table_row_context-Holds R b h))
row_start-Holds R b a_caption t closes k n h = after_row-Holds R b h
row_start-Holds R b a_column t closes k n h = after_row-Holds R b h
row_start-Holds R b a_column_group t closes k n h = after_row-Holds R b h
row_start-Holds R b a_table_body t closes k n h = after_row-Holds R b h
row_start-Holds R b a_row t closes k n h = after_row-Holds R b h
row_start-Holds R b g t closes k n h = table_start-Holds R b g t closes k n h

pub row_end-Holds : (R : Allowed) (b : Builder) (g : Group) (name : List ℕ) → Roams b → Holds R b → HoldsAfter R (row_end b g name)
row_end-Holds R b a_row name n h = either R (has_in_table_scope is_row b) (row_closed b) b (row_closed-Holds R b h) h
row_end-Holds R b a_table name n h = after_row-Holds R b h
row_end-Holds R b a_table_body name n h = either-after R (has_in_table_scope (is_named name) b) (after_row b) (Done b) (after_row-Holds R b h) h
row_end-Holds R b g name n h = table_end-Holds R b g name n h

pub in_row_step-Holds : (R : Allowed) (b : Builder) (token : Token) → Allows R token → Roams b → Holds R b → HoldsAfter R (in_row_step b token)
in_row_step-Holds R b (a_start g t closes) k n h = row_start-Holds R b g t closes k n h
in_row_step-Holds R b (an_end g name) k n h = row_end-Holds R b g name n h
in_row_step-Holds R b token k n h = in_table_step-Holds R b token k n h

pub cell_closed-Holds : (R : Allowed) (test : Tag → Bool) (b : Builder) → Holds R b → Holds R (cell_closed test b)
cell_closed-Holds R test b h = clear-Holds R (close_except_for no_tag test b) (close-Holds R no_tag test b h)

pub after_cell-Holds : (R : Allowed) (b : Builder) → Holds R b → HoldsAfter R (after_cell b)
after_cell-Holds R b h = either-after R (has_in_table_scope is_cell b) (Again (cell_closed is_cell b)) (Done b) (cell_closed-Holds R is_cell b h) h

pub after_cell_in-Holds : (R : Allowed) (name : List ℕ) (b : Builder) → Holds R b → HoldsAfter R (after_cell_in name b)
after_cell_in-Holds R name b h = either-after R (has_in_table_scope (is_named name) b) (Again (cell_closed is_cell b)) (Done b) (cell_closed-Holds R is_cell b h) h

pub cell_start-Holds : (R : Allowed) (b : Builder) (g : Group) (t : Tag) (closes : Bool) → Starts R g t → Roams b → Holds R b → HoldsAfter R (cell_start b g t closes)
cell_start-Holds R b a_caption t closes k n h = after_cell-Holds R b h
cell_start-Holds R b a_column t closes k n h = after_cell-Holds R b h
cell_start-Holds R b a_column_group t closes k n h = after_cell-Holds R b h
cell_start-Holds R b a_table_body t closes k n h = after_cell-Holds R b h
cell_start-Holds R b a_cell t closes k n h = after_cell-Holds R b h
cell_start-Holds R b a_row t closes k n h = after_cell-Holds R b h
cell_start-Holds R b g t closes k n h = in_body_step-Holds R b (a_start g t closes) k n h

pub cell_end-Holds : (R : Allowed) (b : Builder) (g : Group) (name : List ℕ) → Roams b → Holds R b → HoldsAfter R (cell_end b g name)
cell_end-Holds R b a_cell name n h = either R (has_in_table_scope (is_named name) b) (cell_closed (is_named name) b) b (cell_closed-Holds R (is_named name) b h) h
cell_end-Holds R b the_body name n h = h
cell_end-Holds R b a_caption name n h = h
cell_end-Holds R b a_column name n h = h
cell_end-Holds R b a_column_group name n h = h
cell_end-Holds R b the_html name n h = h
cell_end-Holds R b a_table name n h = after_cell_in-Holds R name b h
cell_end-Holds R b a_table_body name n h = after_cell_in-Holds R name b h
cell_end-Holds R b a_row name n h = after_cell_in-Holds R name b h
cell_end-Holds R b g name n h = in_body_step-Holds R b (an_end g name) tt n h

pub in_cell_step-Holds : (R : Allowed) (b : Builder) (token : Token) → Allows R token → Roams b → Holds R b → HoldsAfter R (in_cell_step b token)
in_cell_step-Holds R b (a_start g t closes) k n h = cell_start-Holds R b g t closes k n h
in_cell_step-Holds R b (an_end g name) k n h = cell_end-Holds R b g name n h
in_cell_step-Holds R b token k n h = in_body_step-Holds R b token k n h
