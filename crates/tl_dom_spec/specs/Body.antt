-- "in body" (13.2.6.4.7).
use Rattle.std.specs.Char.{is_ascii_whitespace}
use Rattle.std.specs.Prelude.{Bool, List, None, Option, Some, [], codes, false, if◌then◌else◌, true, ℕ, ◌==◌, ◌∷◌}
use Rattle.tl_html_spec.specs.HtmlTokenizer.{after_start}
use Rattle.tl_dom_spec.specs.Tags.{Tag, bare_tag, has_value, is_any, is_heading, is_item_bound, is_named, is_paragraph, is_scope, is_select, math_space, no_tag, svg_space}
use Rattle.tl_dom_spec.specs.Groups.{Group, a_base, a_block, a_break, a_button, a_caption, a_cell, a_column, a_column_group, a_description, a_detail, a_form, a_format, a_frame, a_frameset, a_heading, a_link, a_mark, a_math, a_nobr, a_noembed, a_noframes, a_noscript, a_paragraph, a_plaintext, a_preformatted, a_row, a_ruby_base, a_ruby_text, a_rule, a_script, a_select, a_style, a_table, a_table_body, a_template, a_textarea, a_title, a_void, an_anchor, an_example, an_iframe, an_image, an_input, an_item, an_option, an_option_group, an_svg, the_body, the_head, the_html}
use Rattle.tl_dom_spec.specs.Path.{Frame, Path, elements, has_number, has_tag, is_open_number, taken_out, within}
use Rattle.tl_dom_spec.specs.Builder.{Again, Builder, Done, Outcome, Token, a_character, a_comment, a_doctype, a_start, add_attributes, add_one, after_body, an_end, clear_to_last_marker, close_except_for, current_tag, end_of_file, frameset_not_ok, generate_implied_end_tags, generate_implied_end_tags_except_for, has_in_button_scope, has_in_list_item_scope, has_in_scope, has_template, in_frameset, in_table, insert_and_pop, insert_character, insert_comment, insert_element, insert_implied, insert_marker, is_context, parse_raw_text, pop_current_node, pop_until, switch_to, with_path}
use Rattle.tl_dom_spec.specs.Formatting.{Listed, insert_formatting_element, listed, reconstruct_formatting, unlisted}
use Rattle.tl_dom_spec.specs.Adoption.{adoption_agency, any_other_end_tag}
use Rattle.tl_dom_spec.specs.Reset.{close_template, template_end_tag}
use Rattle.tl_dom_spec.specs.Adjusted.{insert_foreign_element}
use Rattle.tl_dom_spec.specs.Head.{html_start, in_head_start}

-- Closings

-- a `p` element is closed, if one is in button scope
abbrev pub close_p : Builder → Builder
close_p b =
    if has_in_button_scope is_paragraph b then close_except_for is_paragraph is_paragraph b else b

-- implied end tags are generated, where an element that passes a test is in scope, and it is closed
abbrev pub close_in_scope : (Tag → Bool) → (Tag → Bool) → Builder → Builder
close_in_scope but test b = if has_in_scope test b then close_except_for but test b else b

-- a heading that is the current node is popped
abbrev pub heading_closed : Builder → Builder
heading_closed b = if is_heading (current_tag b) then pop_current_node b else b

-- the innermost element that passes a test, up to a special one but `address`, `div` and `p`
abbrev pub earlier_item : (Tag → Bool) → (Tag → Bool) → List Frame → Option Tag
earlier_item test bounds [] = None
earlier_item test bounds (f ∷ fs) =
    if test f.tag then Some f.tag
    else if bounds f.tag then None
    else earlier_item test bounds fs

abbrev pub item_closed_at : Option Tag → Builder → Builder
item_closed_at None b = b
item_closed_at (Some t) b = close_except_for (is_named t.name) (is_named t.name) b

-- an earlier item is closed, and a `p`
abbrev pub item_closed : (Tag → Bool) → Builder → Builder
item_closed test b =
    close_p
    (item_closed_at (earlier_item test (is_item_bound b.flags.counts_search) (elements b.path)) b)

-- in a ruby, implied end tags are generated, but for some elements
abbrev pub ruby_closed : (Tag → Bool) → Builder → Builder
ruby_closed but b =
    if has_in_scope (is_any (codes "ruby")) b then generate_implied_end_tags_except_for but b
    else b

-- Start tags

-- the second element in the stack is a `body` element
abbrev pub body_number : List Frame → Option ℕ
body_number [] = None
body_number (f ∷ []) = None
body_number (f ∷ g ∷ []) = if is_any (codes "body") f.tag then Some f.number else None
body_number (f ∷ g ∷ h ∷ fs) = body_number (g ∷ h ∷ fs)

abbrev pub body_start_at : Option ℕ → Builder → Tag → Builder
body_start_at None b t = b
body_start_at (Some k) b t =
    if has_template b then b else frameset_not_ok (add_attributes k t.attributes b)

-- the path up to the `html` element, or to the document: what was in it last is not in the tree
-- any more
abbrev pub from_html : Path → Path
from_html [] = []
from_html (f ∷ []) = f ∷ []
from_html (f ∷ g ∷ path) = if f.number == 1 then f ∷ g ∷ path else from_html (g ∷ path)

abbrev pub frameset_start_at : Option ℕ → Builder → Tag → Builder
frameset_start_at None b t = b
frameset_start_at (Some k) b t =
    if b.is_frameset_ok
    then switch_to in_frameset (insert_element t (with_path b (from_html b.path)))
    else b

abbrev pub form_at : Bool → Option ℕ → Builder → Tag → Builder
form_at true form b t = insert_element t (close_p b)
form_at false (Some k) b t = b
form_at false None b t =
    let ready = close_p b in record (insert_element t ready) { form = Some ready.next }

-- an `a` that is listed is ended, and leaves the list and the stack
abbrev pub anchor_ended : Option Listed → Builder → Builder
anchor_ended None b = b
anchor_ended (Some own) b =
    let ended = adoption_agency own.tag.name b in
    record ended {
      active = unlisted own.number ended.active;
      path = if is_open_number own.number ended.path then taken_out own.number ended.path
          else ended.path;
    }

abbrev pub nobr_ended : List ℕ → Builder → Builder
nobr_ended name b =
    if has_in_scope (is_named name) b then reconstruct_formatting (adoption_agency name b) else b

-- a `select` that is in scope is closed
abbrev pub select_closed : Builder → Builder
select_closed b = if has_in_scope is_select b then pop_until is_select b else b

abbrev pub void_start : Builder → Tag → Builder
void_start b t = frameset_not_ok (insert_and_pop t (reconstruct_formatting b))

abbrev pub input_inserted : Tag → Builder → Builder
input_inserted t b =
    let with_input = insert_and_pop t (reconstruct_formatting (select_closed b)) in
    if has_value (codes "type") (codes "hidden") t.attributes then with_input
    else frameset_not_ok with_input

abbrev pub select_start : Builder → Tag → Builder
select_start b t =
    if is_context is_select b.context then b
    else if has_in_scope is_select b then pop_until is_select b
    else frameset_not_ok (insert_element t (reconstruct_formatting b))

-- in a `select` implied end tags are generated, but for some elements; elsewhere an `option` that
-- is the current node is popped
abbrev pub option_ended : (Tag → Bool) → Builder → Builder
option_ended but b =
    if has_in_scope is_select b then generate_implied_end_tags_except_for but b
    else if is_any (codes "option") (current_tag b) then pop_current_node b
    else b

abbrev pub option_start : (Tag → Bool) → Builder → Tag → Builder
option_start but b t = insert_element t (reconstruct_formatting (option_ended but b))

abbrev pub rule_start : Builder → Tag → Builder
rule_start b t =
    insert_and_pop t (if has_in_scope is_select b then generate_implied_end_tags b else b)

abbrev pub textarea_start : Builder → Tag → Builder
textarea_start b t = record (parse_raw_text t (frameset_not_ok b)) { skips = true }

abbrev pub noscript_start_in_body : Builder → Tag → Builder
noscript_start_in_body b t =
    if b.flags.is_scripting then parse_raw_text t b
    else insert_element t (reconstruct_formatting b)

abbrev pub table_start_in_body : Builder → Tag → Builder
table_start_in_body b t =
    switch_to in_table (frameset_not_ok (insert_element t (if b.is_quirks then b else close_p b)))

abbrev pub body_start : Builder → Group → Tag → Bool → Outcome
body_start b the_html t closes = Done (html_start b t)
body_start b a_base t closes = in_head_start b a_base t
body_start b a_link t closes = in_head_start b a_link t
body_start b a_noframes t closes = in_head_start b a_noframes t
body_start b a_script t closes = in_head_start b a_script t
body_start b a_style t closes = in_head_start b a_style t
body_start b a_template t closes = in_head_start b a_template t
body_start b a_title t closes = in_head_start b a_title t
body_start b the_body t closes = Done (body_start_at (body_number (elements b.path)) b t)
body_start b a_frameset t closes = Done (frameset_start_at (body_number (elements b.path)) b t)
body_start b a_paragraph t closes = Done (insert_element t (close_p b))
body_start b a_block t closes = Done (insert_element t (close_p b))
body_start b a_heading t closes = Done (insert_element t (heading_closed (close_p b)))
body_start b a_preformatted t closes =
    Done (record (frameset_not_ok (insert_element t (close_p b))) { skips = true })
body_start b a_form t closes = Done (form_at (has_template b) b.form b t)
body_start b an_item t closes =
    Done (insert_element t (item_closed (is_any (codes "li")) (frameset_not_ok b)))
body_start b a_description t closes =
    Done (insert_element t (item_closed (is_any (codes "dd dt")) (frameset_not_ok b)))
body_start b a_plaintext t closes =
    Done (record (insert_element t (close_p b)) { reads = after_start t.name })
body_start b a_button t closes =
    Done (frameset_not_ok
    (insert_element t (reconstruct_formatting (close_in_scope no_tag (is_any (codes "button")) b))))
body_start b an_anchor t closes =
    Done (insert_formatting_element t
    (reconstruct_formatting (anchor_ended (listed t.name b.active) b)))
body_start b a_format t closes = Done (insert_formatting_element t (reconstruct_formatting b))
body_start b a_nobr t closes =
    Done (insert_formatting_element t (nobr_ended t.name (reconstruct_formatting b)))
body_start b a_mark t closes =
    Done (frameset_not_ok (insert_marker (insert_element t (reconstruct_formatting b))))
body_start b a_table t closes = Done (table_start_in_body b t)
body_start b a_break t closes = Done (void_start b t)
body_start b a_void t closes = Done (void_start b t)
body_start b an_image t closes =
    Done (void_start b (record t { name = codes "img" }))
body_start b an_input t closes =
    Done (if is_context is_select b.context then b else input_inserted t b)
body_start b a_detail t closes = Done (insert_and_pop t b)
body_start b a_rule t closes = Done (frameset_not_ok (rule_start (close_p b) t))
body_start b a_textarea t closes = Done (textarea_start b t)
body_start b an_example t closes =
    Done (parse_raw_text t (frameset_not_ok (reconstruct_formatting (close_p b))))
body_start b an_iframe t closes = Done (parse_raw_text t (frameset_not_ok b))
body_start b a_noembed t closes = Done (parse_raw_text t b)
body_start b a_noscript t closes = Done (noscript_start_in_body b t)
body_start b a_select t closes = Done (select_start b t)
body_start b an_option t closes = Done (option_start (is_any (codes "optgroup")) b t)
body_start b an_option_group t closes = Done (option_start no_tag b t)
body_start b a_ruby_base t closes = Done (insert_element t (ruby_closed no_tag b))
body_start b a_ruby_text t closes = Done (insert_element t (ruby_closed (is_any (codes "rtc")) b))
body_start b a_math t closes =
    Done (insert_foreign_element math_space t closes (reconstruct_formatting b))
body_start b an_svg t closes =
    Done (insert_foreign_element svg_space t closes (reconstruct_formatting b))
body_start b a_caption t closes = Done b
body_start b a_column t closes = Done b
body_start b a_column_group t closes = Done b
body_start b a_frame t closes = Done b
body_start b the_head t closes = Done b
body_start b a_table_body t closes = Done b
body_start b a_cell t closes = Done b
body_start b a_row t closes = Done b
body_start b g t closes = Done (insert_element t (reconstruct_formatting b))

-- End tags

-- where none is in button scope, an empty one is inserted first
abbrev pub p_ended : Builder → Builder
p_ended b =
    close_except_for is_paragraph is_paragraph
    (if has_in_button_scope is_paragraph b then b else insert_implied (codes "p") b)

abbrev pub item_ended : Builder → Builder
item_ended b =
    if has_in_list_item_scope (is_any (codes "li")) b
    then close_except_for (is_any (codes "li")) (is_any (codes "li")) b
    else b

abbrev pub mark_ended : List ℕ → Builder → Builder
mark_ended name b =
    if has_in_scope (is_named name) b
    then clear_to_last_marker (close_except_for no_tag (is_named name) b)
    else b

-- the form that the form element pointer names leaves the stack, also from between others
abbrev pub form_taken_out : Option ℕ → Builder → Builder
form_taken_out None b = b
form_taken_out (Some k) b =
    if within (has_number k) (has_tag is_scope) (elements b.path)
    then (let closing = generate_implied_end_tags b in with_path closing (taken_out k closing.path))
    else b

abbrev pub form_ended : Builder → Builder
form_ended b =
    if has_template b then close_in_scope no_tag (is_any (codes "form")) b
    else form_taken_out b.form (record b { form = None })

abbrev pub body_end : Builder → Group → List ℕ → Outcome
body_end b a_template name = Done (template_end_tag b)
body_end b the_body name =
    Done (if has_in_scope (is_any (codes "body")) b then switch_to after_body b else b)
body_end b the_html name =
    if has_in_scope (is_any (codes "body")) b then Again (switch_to after_body b) else Done b
body_end b a_block name = Done (close_in_scope no_tag (is_named name) b)
body_end b a_button name = Done (close_in_scope no_tag (is_named name) b)
body_end b a_preformatted name = Done (close_in_scope no_tag (is_named name) b)
body_end b a_select name = Done (close_in_scope no_tag (is_named name) b)
body_end b a_form name = Done (form_ended b)
body_end b a_paragraph name = Done (p_ended b)
body_end b an_item name = Done (item_ended b)
body_end b a_description name = Done (close_in_scope (is_named name) (is_named name) b)
body_end b a_heading name = Done (close_in_scope no_tag is_heading b)
body_end b an_anchor name = Done (adoption_agency name b)
body_end b a_format name = Done (adoption_agency name b)
body_end b a_nobr name = Done (adoption_agency name b)
body_end b a_mark name = Done (mark_ended name b)
body_end b a_break name = Done (add_one (void_start b (bare_tag (codes "br"))))
body_end b g name = Done (any_other_end_tag name b)

-- Other tokens

abbrev pub body_character : ℕ → Builder → Builder
body_character c b =
    if c == 0 then b
    else if is_ascii_whitespace c then insert_character c (reconstruct_formatting b)
    else frameset_not_ok (insert_character c (reconstruct_formatting b))

-- at the end, templates that are open are closed by the rules of "in template"
abbrev pub file_ended : Builder → Outcome
file_ended b = if has_template b then Again (close_template b) else Done b

abbrev pub in_body_step : Builder → Token → Outcome
in_body_step b (a_character c) = Done (body_character c b)
in_body_step b (a_comment own) = Done (insert_comment own b)
in_body_step b (a_doctype own) = Done b
in_body_step b (a_start g t closes) = body_start b g t closes
in_body_step b (an_end g name) = body_end b g name
in_body_step b end_of_file = file_ended b
