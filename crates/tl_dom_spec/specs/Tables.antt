-- The modes of tables (13.2.6.4.9 to .15).
use Rattle.std.specs.Char.{is_ascii_whitespace}
use Rattle.std.specs.List.{list_all}
use Rattle.std.specs.Prelude.{Bool, List, None, Option, Some, [], codes, false, if◌then◌else◌, true, ℕ, ◌++◌, ◌==◌, ◌||◌, ◌∷◌}
use Rattle.tl_dom_spec.specs.Tags.{Tag, bare_tag, has_value, is_any, is_foster_target, is_named, is_table, is_template, no_tag}
use Rattle.tl_dom_spec.specs.Groups.{Group, a_caption, a_cell, a_column, a_column_group, a_form, a_row, a_script, a_style, a_table, a_table_body, a_template, an_input, the_body, the_html}
use Rattle.tl_dom_spec.specs.Builder.{Again, Builder, Done, Outcome, Token, a_character, a_comment, a_doctype, a_start, add_one, an_end, clear_stack_back_to, clear_to_last_marker, close_except_for, current_tag, end_of_file, fostering, has_in_table_scope, has_template, in_caption, in_cell, in_column_group, in_row, in_table, in_table_body, in_table_text, insert_and_pop, insert_bytes, insert_character, insert_comment, insert_element, insert_implied, insert_marker, outcome_map, pop_current_node, pop_until, switch_to}
use Rattle.tl_dom_spec.specs.Reset.{reset_insertion_mode, template_end_tag}
use Rattle.tl_dom_spec.specs.Head.{html_start, in_head_start}
use Rattle.tl_dom_spec.specs.Body.{body_character, file_ended, in_body_step}

-- where clearing the stack back to a table context, a table body context, a table row context ends
abbrev pub is_table_context : Tag → Bool
is_table_context t = is_any (codes "table template html") t

abbrev pub is_table_body_context : Tag → Bool
is_table_body_context t = is_any (codes "tbody tfoot thead template html") t

abbrev pub is_table_row_context : Tag → Bool
is_table_row_context t = is_any (codes "tr template html") t

abbrev pub clear_stack_back_to_table_context : Builder → Builder
clear_stack_back_to_table_context b = clear_stack_back_to is_table_context b

abbrev pub clear_stack_back_to_table_body_context : Builder → Builder
clear_stack_back_to_table_body_context b = clear_stack_back_to is_table_body_context b

abbrev pub clear_stack_back_to_table_row_context : Builder → Builder
clear_stack_back_to_table_row_context b = clear_stack_back_to is_table_row_context b

-- "in table" (.9)

-- anything else: by the rules of "in body", with foster parenting
abbrev pub with_foster_parenting : Builder → Token → Outcome
with_foster_parenting b token =
    outcome_map (fostering false) (in_body_step (fostering true b) token)

abbrev pub table_closed : Builder → Builder
table_closed b = reset_insertion_mode (pop_until is_table b)

abbrev pub body_opened : Builder → Tag → Builder
body_opened b t = switch_to in_table_body (insert_element t (clear_stack_back_to_table_context b))

abbrev pub body_implied : Builder → Builder
body_implied b = add_one (body_opened b (bare_tag (codes "tbody")))

-- a form in a table is empty
abbrev pub table_form : Option ℕ → Builder → Tag → Builder
table_form (Some k) b t = b
table_form None b t =
    if has_template b then b else record (insert_and_pop t b) { form = Some b.next }

abbrev pub table_start : Builder → Group → Tag → Bool → Outcome
table_start b a_caption t closes =
    Done (switch_to in_caption
    (insert_element t (insert_marker (clear_stack_back_to_table_context b))))
table_start b a_column_group t closes =
    Done (switch_to in_column_group (insert_element t (clear_stack_back_to_table_context b)))
table_start b a_column t closes =
    Again (switch_to in_column_group
    (insert_implied (codes "colgroup") (clear_stack_back_to_table_context b)))
table_start b a_table_body t closes = Done (body_opened b t)
table_start b a_cell t closes = Again (body_implied b)
table_start b a_row t closes = Again (body_implied b)
table_start b a_table t closes =
    if has_in_table_scope is_table b then Again (table_closed b) else Done b
table_start b a_style t closes = in_head_start b a_style t
table_start b a_script t closes = in_head_start b a_script t
table_start b a_template t closes = in_head_start b a_template t
table_start b an_input t closes =
    if has_value (codes "type") (codes "hidden") t.attributes then Done (insert_and_pop t b)
    else with_foster_parenting b (a_start an_input t closes)
table_start b a_form t closes = Done (table_form b.form b t)
table_start b g t closes = with_foster_parenting b (a_start g t closes)

abbrev pub table_end : Builder → Group → List ℕ → Outcome
table_end b a_table name = Done (if has_in_table_scope is_table b then table_closed b else b)
table_end b the_body name = Done b
table_end b a_caption name = Done b
table_end b a_column name = Done b
table_end b a_column_group name = Done b
table_end b the_html name = Done b
table_end b a_table_body name = Done b
table_end b a_cell name = Done b
table_end b a_row name = Done b
table_end b a_template name = Done (template_end_tag b)
table_end b g name = with_foster_parenting b (an_end g name)

abbrev pub is_text_in_table : Tag → Bool
is_text_in_table t = is_foster_target t || is_template t

abbrev pub table_character : Builder → ℕ → Outcome
table_character b c =
    if is_text_in_table (current_tag b)
    then Again (record b { pending = []; original = b.mode; mode = in_table_text })
    else with_foster_parenting b (a_character c)

abbrev pub in_table_step : Builder → Token → Outcome
in_table_step b (a_character c) = table_character b c
in_table_step b (a_comment own) = Done (insert_comment own b)
in_table_step b (a_doctype own) = Done b
in_table_step b (a_start g t closes) = table_start b g t closes
in_table_step b (an_end g name) = table_end b g name
in_table_step b end_of_file = file_ended b

-- "in table text" (.10): white space alone stays, all else is foster parented

abbrev pub body_characters : List ℕ → Builder → Builder
body_characters [] b = b
body_characters (c ∷ bytes) b = body_characters bytes (body_character c b)

abbrev pub no_bytes : List ℕ → Bool
no_bytes [] = true
no_bytes (c ∷ bytes) = false

abbrev pub pending_inserted : Builder → Builder
pending_inserted b =
    if no_bytes b.pending then b
    else if list_all is_ascii_whitespace b.pending then insert_bytes b.pending b
    else fostering false (body_characters b.pending (fostering true b))

abbrev pub in_table_text_step : Builder → Token → Outcome
in_table_text_step b (a_character c) =
    Done (if c == 0 then b else record b { pending = b.pending ++ c ∷ [] })
in_table_text_step b _ = Again (switch_to b.original (pending_inserted b))

-- "in caption" (.11)

abbrev pub is_caption : Tag → Bool
is_caption t = is_any (codes "caption") t

abbrev pub caption_closed : Builder → Builder
caption_closed b = switch_to in_table (clear_to_last_marker (close_except_for no_tag is_caption b))

-- the caption is closed, if there is one, and the token reprocessed
abbrev pub after_caption : Builder → Outcome
after_caption b = if has_in_table_scope is_caption b then Again (caption_closed b) else Done b

abbrev pub caption_start : Builder → Group → Tag → Bool → Outcome
caption_start b a_caption t closes = after_caption b
caption_start b a_column t closes = after_caption b
caption_start b a_column_group t closes = after_caption b
caption_start b a_table_body t closes = after_caption b
caption_start b a_cell t closes = after_caption b
caption_start b a_row t closes = after_caption b
caption_start b g t closes = in_body_step b (a_start g t closes)

abbrev pub caption_end : Builder → Group → List ℕ → Outcome
caption_end b a_caption name =
    Done (if has_in_table_scope is_caption b then caption_closed b else b)
caption_end b a_table name = after_caption b
caption_end b the_body name = Done b
caption_end b a_column name = Done b
caption_end b a_column_group name = Done b
caption_end b the_html name = Done b
caption_end b a_table_body name = Done b
caption_end b a_cell name = Done b
caption_end b a_row name = Done b
caption_end b g name = in_body_step b (an_end g name)

abbrev pub in_caption_step : Builder → Token → Outcome
in_caption_step b (a_start g t closes) = caption_start b g t closes
in_caption_step b (an_end g name) = caption_end b g name
in_caption_step b token = in_body_step b token

-- "in column group" (.12)

abbrev pub column_group_closed : Builder → Builder
column_group_closed b = switch_to in_table (pop_current_node b)

abbrev pub is_in_column_group : Builder → Bool
is_in_column_group b = is_any (codes "colgroup") (current_tag b)

abbrev pub after_column_group : Builder → Outcome
after_column_group b = if is_in_column_group b then Again (column_group_closed b) else Done b

abbrev pub column_start : Builder → Group → Tag → Outcome
column_start b the_html t = Done (html_start b t)
column_start b a_column t = Done (insert_and_pop t b)
column_start b a_template t = in_head_start b a_template t
column_start b g t = after_column_group b

abbrev pub column_end : Builder → Group → Outcome
column_end b a_column_group = Done (if is_in_column_group b then column_group_closed b else b)
column_end b a_column = Done b
column_end b a_template = Done (template_end_tag b)
column_end b g = after_column_group b

abbrev pub in_column_group_step : Builder → Token → Outcome
in_column_group_step b (a_character c) =
    if is_ascii_whitespace c then Done (insert_character c b) else after_column_group b
in_column_group_step b (a_comment own) = Done (insert_comment own b)
in_column_group_step b (a_doctype own) = Done b
in_column_group_step b (a_start g t closes) = column_start b g t
in_column_group_step b (an_end g name) = column_end b g
in_column_group_step b end_of_file = file_ended b

-- "in table body" (.13)

abbrev pub row_opened : Builder → Tag → Builder
row_opened b t = switch_to in_row (insert_element t (clear_stack_back_to_table_body_context b))

abbrev pub body_closed : Builder → Builder
body_closed b = switch_to in_table (pop_current_node (clear_stack_back_to_table_body_context b))

abbrev pub after_table_body : Builder → Outcome
after_table_body b =
    if has_in_table_scope (is_any (codes "tbody tfoot thead")) b then Again (body_closed b) else Done b

abbrev pub table_body_start : Builder → Group → Tag → Bool → Outcome
table_body_start b a_row t closes = Done (row_opened b t)
table_body_start b a_cell t closes = Again (add_one (row_opened b (bare_tag (codes "tr"))))
table_body_start b a_caption t closes = after_table_body b
table_body_start b a_column t closes = after_table_body b
table_body_start b a_column_group t closes = after_table_body b
table_body_start b a_table_body t closes = after_table_body b
table_body_start b g t closes = table_start b g t closes

abbrev pub table_body_end : Builder → Group → List ℕ → Outcome
table_body_end b a_table_body name =
    Done (if has_in_table_scope (is_named name) b then body_closed b else b)
table_body_end b a_table name = after_table_body b
table_body_end b g name = table_end b g name

abbrev pub in_table_body_step : Builder → Token → Outcome
in_table_body_step b (a_start g t closes) = table_body_start b g t closes
in_table_body_step b (an_end g name) = table_body_end b g name
in_table_body_step b token = in_table_step b token

-- "in row" (.14)

abbrev pub is_row : Tag → Bool
is_row t = is_any (codes "tr") t

abbrev pub row_closed : Builder → Builder
row_closed b = switch_to in_table_body (pop_current_node (clear_stack_back_to_table_row_context b))

abbrev pub after_row : Builder → Outcome
after_row b = if has_in_table_scope is_row b then Again (row_closed b) else Done b

abbrev pub row_start : Builder → Group → Tag → Bool → Outcome
row_start b a_cell t closes =
    Done (switch_to in_cell
    (insert_marker (insert_element t (clear_stack_back_to_table_row_context b))))
row_start b a_caption t closes = after_row b
row_start b a_column t closes = after_row b
row_start b a_column_group t closes = after_row b
row_start b a_table_body t closes = after_row b
row_start b a_row t closes = after_row b
row_start b g t closes = table_start b g t closes

abbrev pub row_end : Builder → Group → List ℕ → Outcome
row_end b a_row name = Done (if has_in_table_scope is_row b then row_closed b else b)
row_end b a_table name = after_row b
row_end b a_table_body name =
    if has_in_table_scope (is_named name) b then after_row b else Done b
row_end b g name = table_end b g name

abbrev pub in_row_step : Builder → Token → Outcome
in_row_step b (a_start g t closes) = row_start b g t closes
in_row_step b (an_end g name) = row_end b g name
in_row_step b token = in_table_step b token

-- "in cell" (.15)

abbrev pub is_cell : Tag → Bool
is_cell t = is_any (codes "td th") t

abbrev pub cell_closed : (Tag → Bool) → Builder → Builder
cell_closed test b = switch_to in_row (clear_to_last_marker (close_except_for no_tag test b))

abbrev pub after_cell : Builder → Outcome
after_cell b = if has_in_table_scope is_cell b then Again (cell_closed is_cell b) else Done b

abbrev pub after_cell_in : List ℕ → Builder → Outcome
after_cell_in name b =
    if has_in_table_scope (is_named name) b then Again (cell_closed is_cell b) else Done b

abbrev pub cell_start : Builder → Group → Tag → Bool → Outcome
cell_start b a_caption t closes = after_cell b
cell_start b a_column t closes = after_cell b
cell_start b a_column_group t closes = after_cell b
cell_start b a_table_body t closes = after_cell b
cell_start b a_cell t closes = after_cell b
cell_start b a_row t closes = after_cell b
cell_start b g t closes = in_body_step b (a_start g t closes)

abbrev pub cell_end : Builder → Group → List ℕ → Outcome
cell_end b a_cell name =
    Done (if has_in_table_scope (is_named name) b then cell_closed (is_named name) b else b)
cell_end b the_body name = Done b
cell_end b a_caption name = Done b
cell_end b a_column name = Done b
cell_end b a_column_group name = Done b
cell_end b the_html name = Done b
cell_end b a_table name = after_cell_in name b
cell_end b a_table_body name = after_cell_in name b
cell_end b a_row name = after_cell_in name b
cell_end b g name = in_body_step b (an_end g name)

abbrev pub in_cell_step : Builder → Token → Outcome
in_cell_step b (a_start g t closes) = cell_start b g t closes
in_cell_step b (an_end g name) = cell_end b g name
in_cell_step b token = in_body_step b token
