-- The tree construction dispatcher (13.2.6), and foreign content (13.2.6.5).
use Rattle.std.specs.Char.{is_ascii_whitespace, to_ascii_lowercase}
use Rattle.std.specs.Prelude.{Bool, List, Some, [], codes, false, if◌then◌else◌, length, map, nat_lt, not, suc, true, ℕ, ◌&&◌, ◌*◌, ◌+◌, ◌-◌, ◌==◌, ◌||◌, ◌∷◌}
use Rattle.std.specs.Str.{bytes_eq}
use Rattle.tl_html_spec.specs.Balanced.{is_one_of}
use Rattle.tl_html_spec.specs.HtmlTokenizer.{data_state, replacement}
use Rattle.tl_dom_spec.specs.Tags.{Tag, has_attribute, is_annotation, is_html, is_html_integration_point, is_text_integration_point}
use Rattle.tl_dom_spec.specs.Groups.{Group, a_break, a_paragraph, an_svg}
use Rattle.tl_dom_spec.specs.Path.{Frame, elements, has_number, popped_through, popped_to}
use Rattle.tl_dom_spec.specs.Builder.{Again, Builder, Done, Mode, Outcome, Token, a_character, a_comment, a_doctype, a_start, adjusted_current_node, after_after_body, after_after_frameset, after_body, after_frameset, after_head, an_end, before_head, before_html, end_of_file, frameset_not_ok, in_body, in_caption, in_cell, in_column_group, in_frameset, in_head, in_head_noscript, in_row, in_table, in_table_body, in_table_text, in_template, initial, insert_bytes, insert_character, insert_comment, repeated, text_mode, with_path}
use Rattle.tl_dom_spec.specs.Adjusted.{foreign_name, insert_foreign_element}
use Rattle.tl_dom_spec.specs.Head.{after_head_step, before_head_step, before_html_step, in_head_noscript_step, in_head_step, initial_step, text_step}
use Rattle.tl_dom_spec.specs.Body.{in_body_step}
use Rattle.tl_dom_spec.specs.Tables.{in_caption_step, in_cell_step, in_column_group_step, in_row_step, in_table_body_step, in_table_step, in_table_text_step}
use Rattle.tl_dom_spec.specs.Outer.{after_after_body_step, after_after_frameset_step, after_body_step, after_frameset_step, in_frameset_step, in_template_step}

-- the rules of the section of the current insertion mode in HTML content (13.2.6.4)
abbrev pub mode_step : Mode → Builder → Token → Outcome
mode_step initial b token = initial_step b token
mode_step before_html b token = before_html_step b token
mode_step before_head b token = before_head_step b token
mode_step in_head b token = in_head_step b token
mode_step in_head_noscript b token = in_head_noscript_step b token
mode_step after_head b token = after_head_step b token
mode_step in_body b token = in_body_step b token
mode_step text_mode b token = text_step b token
mode_step in_table b token = in_table_step b token
mode_step in_table_text b token = in_table_text_step b token
mode_step in_caption b token = in_caption_step b token
mode_step in_column_group b token = in_column_group_step b token
mode_step in_table_body b token = in_table_body_step b token
mode_step in_row b token = in_row_step b token
mode_step in_cell b token = in_cell_step b token
mode_step in_template b token = in_template_step b token
mode_step after_body b token = after_body_step b token
mode_step in_frameset b token = in_frameset_step b token
mode_step after_frameset b token = after_frameset_step b token
mode_step after_after_body b token = after_after_body_step b token
mode_step after_after_frameset b token = after_after_frameset_step b token

abbrev pub html_step : Builder → Token → Outcome
html_step b token = mode_step b.mode b token

-- Foreign content (13.2.6.5)

-- start tags that end it
abbrev pub breakout_names : List ℕ
breakout_names =
    codes "b big blockquote body br center code dd div dl dt em embed h1 h2 h3 h4 h5 h6 head hr i img li listing menu meta nobr ol p pre ruby s small span strong strike sub sup table tt u ul var"

abbrev pub breaks_out : Tag → Bool
breaks_out t =
    is_one_of breakout_names t.name
    || (is_one_of (codes "font") t.name
    && (has_attribute (codes "color") t.attributes || has_attribute (codes "face") t.attributes
    || has_attribute (codes "size") t.attributes))

-- what stays open then
abbrev pub is_html_place : Frame → Bool
is_html_place f =
    is_html f.tag || is_html_integration_point f.tag || is_text_integration_point f.tag

abbrev pub broken_out : Builder → Builder
broken_out b = with_path b (popped_to is_html_place b.path)

abbrev pub foreign_character : ℕ → Builder → Builder
foreign_character c b =
    if c == 0 then insert_bytes replacement b
    else if is_ascii_whitespace c then insert_character c b
    else frameset_not_ok (insert_character c b)

abbrev pub foreign_start : Builder → Group → Tag → Bool → Outcome
foreign_start b g t closes =
    if breaks_out t then html_step (broken_out b) (a_start g t closes)
    else Done (insert_foreign_element (adjusted_current_node b).space
    (record t { name = foreign_name (adjusted_current_node b).space t.name }) closes b)

-- whether a foreign element of the name is come to first (its number), or an HTML element, or none
pub data Found : Type 0 where
  the_frame : ℕ → Found
  by_mode : Found
  nothing : Found

abbrev pub found_in : List ℕ → List Frame → Found
found_in name [] = nothing
found_in name (f ∷ []) = nothing
found_in name (f ∷ g ∷ fs) =
    if bytes_eq (map to_ascii_lowercase f.tag.name) name then the_frame f.number
    else if is_html g.tag then by_mode
    else found_in name (g ∷ fs)

abbrev pub foreign_end_at : Found → Builder → Group → List ℕ → Outcome
foreign_end_at (the_frame k) b g name = Done (with_path b (popped_through (has_number k) b.path))
foreign_end_at by_mode b g name = html_step b (an_end g name)
foreign_end_at nothing b g name = Done b

-- end tags of `br` and `p` end foreign content too
abbrev pub foreign_end : Builder → Group → List ℕ → Outcome
foreign_end b a_break name = html_step (broken_out b) (an_end a_break name)
foreign_end b a_paragraph name = html_step (broken_out b) (an_end a_paragraph name)
foreign_end b g name = foreign_end_at (found_in name (elements b.path)) b g name

abbrev pub foreign_step : Builder → Token → Outcome
foreign_step b (a_character c) = Done (foreign_character c b)
foreign_step b (a_comment own) = Done (insert_comment own b)
foreign_step b (a_doctype own) = Done b
foreign_step b (a_start g t closes) = foreign_start b g t closes
foreign_step b (an_end g name) = foreign_end b g name
foreign_step b end_of_file = html_step b end_of_file

-- The dispatcher (13.2.6)

abbrev pub is_svg_start : Group → Bool
is_svg_start an_svg = true
is_svg_start _ = false

-- whether a token goes to the insertion mode, where this is the adjusted current node
abbrev pub is_html_content : Tag → Token → Bool
is_html_content t (a_character c) =
    is_html t || is_text_integration_point t || is_html_integration_point t
is_html_content t (a_start g own closes) =
    is_html t || is_html_integration_point t
    || (is_text_integration_point t && not (is_one_of (codes "mglyph malignmark") own.name))
    || (is_annotation t && is_svg_start g)
is_html_content t end_of_file = true
is_html_content t token = is_html t

abbrev pub dispatch : Token → Builder → Outcome
dispatch token b =
    if is_html_content (adjusted_current_node b) token then html_step b token
    else foreign_step b token

-- how often a token is reprocessed at most: up to the body from the start, and then twice for each
-- element that is open
abbrev pub bound : Builder → ℕ
bound b = 8 + 2 * length b.path

abbrev pub is_line_feed : Token → Bool
is_line_feed (a_character c) = c == 10
is_line_feed _ = false

-- no line feed is ignored any more, and the tokenizer goes on in its data state, if no rule says
-- otherwise
abbrev pub calm : Builder → Builder
calm b = record b { skips = false; reads = data_state }

-- how many elements were put in, that no start tag stands for, beyond four for each token
abbrev pub excess_of : Builder → ℕ
excess_of b = b.added - 4 * b.tokens

abbrev pub count_token : Builder → Builder
count_token b =
    let taken = record b { tokens = suc b.tokens } in
    if nat_lt taken.excess (excess_of taken) then record taken { excess = excess_of taken }
    else taken

-- a token with its number among the marks of the page
abbrev pub numbered : ℕ → Token → Token
numbered n (a_start g t closes) = a_start g (record t { source = Some n }) closes
numbered n (a_comment own) = a_comment (record own { source = n })
numbered n (a_doctype own) = a_doctype (record own { source = n })
numbered n token = token

-- the number of the next mark behind a token: all are marks but characters and the end of the page
abbrev pub marks_behind : ℕ → Token → ℕ
marks_behind n (a_character c) = n
marks_behind n end_of_file = n
marks_behind n token = suc n

abbrev pub token_done : Builder → Token → Builder
token_done b token =
    record (count_token
    (if b.skips && is_line_feed token then calm b
    else repeated (bound b) (dispatch (numbered b.marks token)) (Again (calm b)))) {
      marks = marks_behind b.marks token;
    }

abbrev pub tokens_done : Builder → List Token → Builder
tokens_done b [] = b
tokens_done b (token ∷ tokens) = tokens_done (token_done b token) tokens
