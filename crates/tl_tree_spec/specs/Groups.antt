-- Names of elements by the rules of "in body" (13.2.6.4.7) for their tags.
use Rattle.std.specs.Prelude.{ℕ, Bool, true, false, ◌||◌, List, codes, if◌then◌else◌}
use Rattle.tl_names.specs.Elements.{headings, is_among, table_scope_bounds, table_sections}
use Rattle.tl_html_spec.specs.Balanced.{is_one_of}

-- the start tags of "in body" by the rule that they have there; end tags go by the same groups
pub data Group : Type 0 where
  -- `p`
  a_paragraph : Group
  -- address .. ul
  a_block : Group
  -- h1 .. h6
  a_heading : Group
  -- pre, listing
  a_preformatted : Group
  -- li
  an_item : Group
  -- dd, dt
  a_description : Group
  -- button
  a_button : Group
  -- a
  an_anchor : Group
  -- b, big ..
  a_format : Group
  -- nobr
  a_nobr : Group
  -- applet, marquee, object
  a_mark : Group
  -- br
  a_break : Group
  -- area, embed, img, keygen, wbr
  a_void : Group
  -- image
  an_image : Group
  -- param, source, track
  a_detail : Group
  -- hr
  a_rule : Group
  -- rb, rtc
  a_ruby_base : Group
  -- rp, rt
  a_ruby_text : Group
  -- table
  a_table : Group
  -- caption
  a_caption : Group
  -- colgroup
  a_column_group : Group
  -- col
  a_column : Group
  -- tbody, tfoot, thead
  a_table_body : Group
  -- tr
  a_row : Group
  -- td, th
  a_cell : Group
  -- head, frame
  misplaced : Group
  -- option, optgroup
  an_option : Group
  -- what is not written down here
  elsewhere : Group
  any_other : Group

abbrev pub block_names : List ℕ
block_names =
    codes "address article aside blockquote center details dialog dir div dl fieldset figcaption figure footer header hgroup main menu nav ol search section summary ul"

abbrev pub format_names : List ℕ
format_names = codes "b big code em font i s small strike strong tt u"

abbrev pub elsewhere_names : List ℕ
elsewhere_names =
    codes "html body base basefont bgsound link meta noframes script style template title frameset form plaintext input textarea xmp iframe noembed noscript select math svg"

abbrev pub group : List ℕ → Group
group n =
    if is_one_of (codes "p") n then a_paragraph
    else if is_one_of block_names n then a_block
    else if is_among headings n then a_heading
    else if is_one_of (codes "pre listing") n then a_preformatted
    else if is_one_of (codes "li") n then an_item
    else if is_one_of (codes "dd dt") n then a_description
    else if is_one_of (codes "button") n then a_button
    else if is_one_of (codes "a") n then an_anchor
    else if is_one_of format_names n then a_format
    else if is_one_of (codes "nobr") n then a_nobr
    else if is_one_of (codes "applet marquee object") n then a_mark
    else if is_one_of (codes "br") n then a_break
    else if is_one_of (codes "area embed img keygen wbr") n then a_void
    else if is_one_of (codes "image") n then an_image
    else if is_one_of (codes "param source track") n then a_detail
    else if is_one_of (codes "hr") n then a_rule
    else if is_one_of (codes "rb rtc") n then a_ruby_base
    else if is_one_of (codes "rp rt") n then a_ruby_text
    else if is_one_of (codes "table") n then a_table
    else if is_one_of (codes "caption") n then a_caption
    else if is_one_of (codes "colgroup") n then a_column_group
    else if is_one_of (codes "col") n then a_column
    else if is_among table_sections n then a_table_body
    else if is_one_of (codes "tr") n then a_row
    else if is_one_of (codes "td th") n then a_cell
    else if is_one_of (codes "head frame") n then misplaced
    else if is_one_of (codes "option optgroup") n then an_option
    else if is_one_of elsewhere_names n then elsewhere
    else any_other

abbrev pub is_paragraph_group : Group → Bool
is_paragraph_group a_paragraph = true
is_paragraph_group _ = false

abbrev pub is_heading_group : Group → Bool
is_heading_group a_heading = true
is_heading_group _ = false

abbrev pub is_item_group : Group → Bool
is_item_group an_item = true
is_item_group _ = false

abbrev pub is_description_group : Group → Bool
is_description_group a_description = true
is_description_group _ = false

-- dd, dt, li, optgroup, option, p, rb, rp, rt, rtc
abbrev pub is_implied_group : Group → Bool
is_implied_group a_description = true
is_implied_group an_item = true
is_implied_group an_option = true
is_implied_group a_paragraph = true
is_implied_group a_ruby_base = true
is_implied_group a_ruby_text = true
is_implied_group _ = false

abbrev pub is_paragraph : List ℕ → Bool
is_paragraph n = is_paragraph_group (group n)

abbrev pub is_heading : List ℕ → Bool
is_heading n = is_heading_group (group n)

abbrev pub is_item : List ℕ → Bool
is_item n = is_item_group (group n)

abbrev pub is_description : List ℕ → Bool
is_description n = is_description_group (group n)

abbrev pub is_implied : List ℕ → Bool
is_implied n = is_implied_group (group n)

abbrev pub is_table_group : Group → Bool
is_table_group a_table = true
is_table_group _ = false

abbrev pub is_table : List ℕ → Bool
is_table n = is_table_group (group n)

abbrev pub is_caption_group : Group → Bool
is_caption_group a_caption = true
is_caption_group _ = false

abbrev pub is_caption : List ℕ → Bool
is_caption n = is_caption_group (group n)

abbrev pub is_column_group_group : Group → Bool
is_column_group_group a_column_group = true
is_column_group_group _ = false

abbrev pub is_column_group : List ℕ → Bool
is_column_group n = is_column_group_group (group n)

abbrev pub is_table_body_group : Group → Bool
is_table_body_group a_table_body = true
is_table_body_group _ = false

abbrev pub is_table_body : List ℕ → Bool
is_table_body n = is_table_body_group (group n)

abbrev pub is_row_group : Group → Bool
is_row_group a_row = true
is_row_group _ = false

abbrev pub is_row : List ℕ → Bool
is_row n = is_row_group (group n)

abbrev pub is_cell_group : Group → Bool
is_cell_group a_cell = true
is_cell_group _ = false

abbrev pub is_cell : List ℕ → Bool
is_cell n = is_cell_group (group n)

-- caption, col, colgroup, tbody, td, tfoot, th, thead, tr
abbrev pub is_part : Group → Bool
is_part a_caption = true
is_part a_column_group = true
is_part a_column = true
is_part a_table_body = true
is_part a_row = true
is_part a_cell = true
is_part _ = false

-- the scope of tables (13.2.4.2)
abbrev pub is_table_scope : List ℕ → Bool
is_table_scope n = is_among table_scope_bounds n

-- where clearing the stack back to a table context, a table body context, a table row context ends
-- (13.2.6.4.9, .13, .14)
abbrev pub is_table_context : List ℕ → Bool
is_table_context n = is_table n || is_one_of (codes "html template") n

abbrev pub is_body_context : List ℕ → Bool
is_body_context n = is_table_body n || is_one_of (codes "html template") n

abbrev pub is_row_context : List ℕ → Bool
is_row_context n = is_row n || is_one_of (codes "html template") n
