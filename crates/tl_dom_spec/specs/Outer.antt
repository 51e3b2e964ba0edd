-- The modes of templates, after the body and of framesets, and after all of these (13.2.6.4.16 to
-- .21, which were .18 to .23 before the modes of `select` went in 2025).
use Rattle.std.specs.Char.{is_ascii_whitespace}
use Rattle.std.specs.Prelude.{codes, if◌then◌else◌, ◌||◌, ◌∷◌}
use Rattle.tl_dom_spec.specs.Tags.{Tag, is_any}
use Rattle.tl_dom_spec.specs.Groups.{Group, a_base, a_caption, a_cell, a_column, a_column_group, a_frame, a_frameset, a_link, a_noframes, a_row, a_script, a_style, a_table_body, a_template, a_title, the_html}
use Rattle.tl_dom_spec.specs.Path.{behind, elements}
use Rattle.tl_dom_spec.specs.Builder.{Again, Builder, Done, Mode, Outcome, Token, a_character, a_comment, a_doctype, a_start, after_after_body, after_after_frameset, after_frameset, an_end, current_tag, end_of_file, in_body, in_column_group, in_row, in_table, in_table_body, insert_and_pop, insert_character, insert_comment, insert_comment_at, insert_element, is_fragment, is_only, pop_current_node, switch_to}
use Rattle.tl_dom_spec.specs.Reset.{template_end_tag, templates_popped}
use Rattle.tl_dom_spec.specs.Head.{html_start, in_head_start}
use Rattle.tl_dom_spec.specs.Body.{in_body_step}

-- "in template" (.16)

-- the mode that a start tag of a group sets
abbrev pub template_mode : Group → Mode
template_mode a_caption = in_table
template_mode a_column_group = in_table
template_mode a_table_body = in_table
template_mode a_column = in_column_group
template_mode a_row = in_table_body
template_mode a_cell = in_row
template_mode _ = in_body

abbrev pub template_turned : Mode → Builder → Builder
template_turned m b = record b { templates = m ∷ templates_popped b.templates; mode = m }

abbrev pub template_start : Builder → Group → Tag → Outcome
template_start b a_base t = in_head_start b a_base t
template_start b a_link t = in_head_start b a_link t
template_start b a_noframes t = in_head_start b a_noframes t
template_start b a_script t = in_head_start b a_script t
template_start b a_style t = in_head_start b a_style t
template_start b a_template t = in_head_start b a_template t
template_start b a_title t = in_head_start b a_title t
template_start b g t = Again (template_turned (template_mode g) b)

abbrev pub template_end : Builder → Group → Outcome
template_end b a_template = Done (template_end_tag b)
template_end b g = Done b

abbrev pub in_template_step : Builder → Token → Outcome
in_template_step b (a_start g t closes) = template_start b g t
in_template_step b (an_end g name) = template_end b g
in_template_step b token = in_body_step b token

-- "after body" (.17): a comment is put behind the body, into the `html` element

abbrev pub back_in_body : Builder → Outcome
back_in_body b = Again (switch_to in_body b)

abbrev pub after_body_start : Builder → Group → Tag → Outcome
after_body_start b the_html t = Done (html_start b t)
after_body_start b g t = back_in_body b

abbrev pub after_body_end : Builder → Group → Outcome
after_body_end b the_html = Done (if is_fragment b then b else switch_to after_after_body b)
after_body_end b g = back_in_body b

abbrev pub after_body_step : Builder → Token → Outcome
after_body_step b (a_character c) =
    if is_ascii_whitespace c then in_body_step b (a_character c) else back_in_body b
after_body_step b (a_comment own) = Done (insert_comment_at (behind 1) own b)
after_body_step b (a_doctype own) = Done b
after_body_step b (a_start g t closes) = after_body_start b g t
after_body_step b (an_end g name) = after_body_end b g
after_body_step b end_of_file = Done b

-- "in frameset" (.18)

abbrev pub frameset_start : Builder → Group → Tag → Outcome
frameset_start b the_html t = Done (html_start b t)
frameset_start b a_frameset t = Done (insert_element t b)
frameset_start b a_frame t = Done (insert_and_pop t b)
frameset_start b a_noframes t = in_head_start b a_noframes t
frameset_start b g t = Done b

abbrev pub frameset_closed : Builder → Builder
frameset_closed b =
    let outside = pop_current_node b in
    if is_fragment outside || is_any (codes "frameset") (current_tag outside) then outside
    else switch_to after_frameset outside

abbrev pub frameset_end : Builder → Group → Builder
frameset_end b a_frameset = if is_only (elements b.path) then b else frameset_closed b
frameset_end b g = b

abbrev pub in_frameset_step : Builder → Token → Outcome
in_frameset_step b (a_character c) =
    Done (if is_ascii_whitespace c then insert_character c b else b)
in_frameset_step b (a_comment own) = Done (insert_comment own b)
in_frameset_step b (a_doctype own) = Done b
in_frameset_step b (a_start g t closes) = frameset_start b g t
in_frameset_step b (an_end g name) = Done (frameset_end b g)
in_frameset_step b end_of_file = Done b

-- "after frameset" (.19)

abbrev pub after_frameset_start : Builder → Group → Tag → Outcome
after_frameset_start b the_html t = Done (html_start b t)
after_frameset_start b a_noframes t = in_head_start b a_noframes t
after_frameset_start b g t = Done b

abbrev pub after_frameset_end : Builder → Group → Builder
after_frameset_end b the_html = switch_to after_after_frameset b
after_frameset_end b g = b

abbrev pub after_frameset_step : Builder → Token → Outcome
after_frameset_step b (a_character c) =
    Done (if is_ascii_whitespace c then insert_character c b else b)
after_frameset_step b (a_comment own) = Done (insert_comment own b)
after_frameset_step b (a_doctype own) = Done b
after_frameset_step b (a_start g t closes) = after_frameset_start b g t
after_frameset_step b (an_end g name) = Done (after_frameset_end b g)
after_frameset_step b end_of_file = Done b

-- "after after body" (.20): a comment is put behind the `html` element, into the document

abbrev pub after_after_body_step : Builder → Token → Outcome
after_after_body_step b (a_character c) =
    if is_ascii_whitespace c then in_body_step b (a_character c) else back_in_body b
after_after_body_step b (a_comment own) = Done (insert_comment_at (behind 0) own b)
after_after_body_step b (a_doctype own) = Done b
after_after_body_step b (a_start g t closes) = after_body_start b g t
after_after_body_step b (an_end g name) = back_in_body b
after_after_body_step b end_of_file = Done b

-- "after after frameset" (.21)

abbrev pub after_after_frameset_step : Builder → Token → Outcome
after_after_frameset_step b (a_character c) =
    if is_ascii_whitespace c then in_body_step b (a_character c) else Done b
after_after_frameset_step b (a_comment own) = Done (insert_comment_at (behind 0) own b)
after_after_frameset_step b (a_doctype own) = Done b
after_after_frameset_step b (a_start g t closes) = after_frameset_start b g t
after_after_frameset_step b (an_end g name) = Done b
after_after_frameset_step b end_of_file = Done b
