-- Groups of names by what their tags do "in body".
use Rattle.std.specs.Prelude.{Bool, false, not, true, ◌&&◌}
use Rattle.tl_dom_spec.specs.Groups.{Group, a_base, a_block, a_caption, a_cell, a_column, a_column_group, a_description, a_form, a_frame, a_frameset, a_heading, a_link, a_noframes, a_paragraph, a_plaintext, a_preformatted, a_row, a_rule, a_script, a_style, a_table, a_table_body, a_template, a_title, an_example, an_item, the_body, the_head, the_html}

-- their start tags have the rules of "in head" there
abbrev pub is_of_head : Group → Bool
is_of_head a_base = true
is_of_head a_link = true
is_of_head a_noframes = true
is_of_head a_script = true
is_of_head a_style = true
is_of_head a_template = true
is_of_head a_title = true
is_of_head g = false

-- they close a `p`, or belong to a page's or a table's frame
abbrev pub is_of_blocks : Group → Bool
is_of_blocks the_html = true
is_of_blocks the_body = true
is_of_blocks a_frameset = true
is_of_blocks a_paragraph = true
is_of_blocks a_block = true
is_of_blocks a_heading = true
is_of_blocks a_preformatted = true
is_of_blocks a_form = true
is_of_blocks an_item = true
is_of_blocks a_description = true
is_of_blocks a_plaintext = true
is_of_blocks a_table = true
is_of_blocks a_rule = true
is_of_blocks an_example = true
is_of_blocks a_caption = true
is_of_blocks a_column = true
is_of_blocks a_column_group = true
is_of_blocks a_frame = true
is_of_blocks the_head = true
is_of_blocks a_table_body = true
is_of_blocks a_cell = true
is_of_blocks a_row = true
is_of_blocks g = false

abbrev pub is_of_text : Group → Bool
is_of_text g = not (is_of_head g) && not (is_of_blocks g)

-- its end tag is reprocessed
abbrev pub is_the_html : Group → Bool
is_the_html the_html = true
is_the_html g = false
