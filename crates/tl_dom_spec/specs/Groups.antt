-- Names of tags by the rules that they have in the insertion modes (13.2.6.4). A start tag and an
-- end tag of one name are of one group.
use Rattle.std.specs.Prelude.{List, codes, if◌then◌else◌, ℕ}
use Rattle.std.specs.Str.{bytes_eq}
use Rattle.tl_html_spec.specs.Balanced.{is_one_of}
use Rattle.tl_names.specs.Elements.{headings, is_among, table_sections}

pub data Group : Type 0 where
  -- html
  the_html : Group
  -- head
  the_head : Group
  -- body
  the_body : Group
  -- frameset
  a_frameset : Group
  -- frame
  a_frame : Group
  -- base
  a_base : Group
  -- basefont, bgsound, link, meta
  a_link : Group
  -- title
  a_title : Group
  -- noframes
  a_noframes : Group
  -- style
  a_style : Group
  -- noscript
  a_noscript : Group
  -- script
  a_script : Group
  -- template
  a_template : Group
  -- p
  a_paragraph : Group
  -- address .. ul
  a_block : Group
  -- h1 .. h6
  a_heading : Group
  -- pre, listing
  a_preformatted : Group
  -- form
  a_form : Group
  -- li
  an_item : Group
  -- dd, dt
  a_description : Group
  -- plaintext
  a_plaintext : Group
  -- button
  a_button : Group
  -- a
  an_anchor : Group
  -- b, big ..
  a_format : Group
  -- nobr
  a_nobr : Group
  -- applet, marquee, object
  a_mark : Group
  -- table
  a_table : Group
  -- br
  a_break : Group
  -- area, embed, img, keygen, wbr
  a_void : Group
  -- image
  an_image : Group
  -- input
  an_input : Group
  -- param, source, track
  a_detail : Group
  -- hr
  a_rule : Group
  -- textarea
  a_textarea : Group
  -- xmp
  an_example : Group
  -- iframe
  an_iframe : Group
  -- noembed
  a_noembed : Group
  -- select
  a_select : Group
  -- option
  an_option : Group
  -- optgroup
  an_option_group : Group
  -- rb, rtc
  a_ruby_base : Group
  -- rp, rt
  a_ruby_text : Group
  -- math
  a_math : Group
  -- svg
  an_svg : Group
  -- caption
  a_caption : Group
  -- colgroup
  a_column_group : Group
  -- col
  a_column : Group
  -- tbody, tfoot, thead
  a_table_body : Group
  -- tr
  a_row : Group
  -- td, th
  a_cell : Group
  any_other : Group

abbrev pub block_names : List ℕ
block_names =
    codes "address article aside blockquote center details dialog dir div dl fieldset figcaption figure footer header hgroup main menu nav ol search section summary ul"

abbrev pub format_names : List ℕ
format_names = codes "b big code em font i s small strike strong tt u"

abbrev pub head_group : List ℕ → Group
head_group n =
    if bytes_eq (codes "base") n then a_base
    else if is_one_of (codes "basefont bgsound link meta") n then a_link
    else if bytes_eq (codes "title") n then a_title
    else if bytes_eq (codes "noframes") n then a_noframes
    else if bytes_eq (codes "style") n then a_style
    else if bytes_eq (codes "noscript") n then a_noscript
    else if bytes_eq (codes "script") n then a_script
    else if bytes_eq (codes "template") n then a_template
    else if bytes_eq (codes "textarea") n then a_textarea
    else if bytes_eq (codes "xmp") n then an_example
    else if bytes_eq (codes "iframe") n then an_iframe
    else if bytes_eq (codes "noembed") n then a_noembed
    else if bytes_eq (codes "plaintext") n then a_plaintext
    else any_other

abbrev pub inner_group : List ℕ → Group
inner_group n =
    if bytes_eq (codes "button") n then a_button
    else if bytes_eq (codes "nobr") n then a_nobr
    else if is_one_of (codes "applet marquee object") n then a_mark
    else if bytes_eq (codes "br") n then a_break
    else if is_one_of (codes "area embed img keygen wbr") n then a_void
    else if bytes_eq (codes "image") n then an_image
    else if bytes_eq (codes "input") n then an_input
    else if is_one_of (codes "param source track") n then a_detail
    else if bytes_eq (codes "select") n then a_select
    else if bytes_eq (codes "option") n then an_option
    else if bytes_eq (codes "optgroup") n then an_option_group
    else if is_one_of (codes "rb rtc") n then a_ruby_base
    else if is_one_of (codes "rp rt") n then a_ruby_text
    else if bytes_eq (codes "math") n then a_math
    else if bytes_eq (codes "svg") n then an_svg
    else head_group n

abbrev pub group : List ℕ → Group
group n =
    if bytes_eq (codes "html") n then the_html
    else if bytes_eq (codes "head") n then the_head
    else if bytes_eq (codes "body") n then the_body
    else if bytes_eq (codes "p") n then a_paragraph
    else if bytes_eq (codes "a") n then an_anchor
    else if is_one_of format_names n then a_format
    else if bytes_eq (codes "table") n then a_table
    else if bytes_eq (codes "caption") n then a_caption
    else if bytes_eq (codes "colgroup") n then a_column_group
    else if bytes_eq (codes "col") n then a_column
    else if is_among table_sections n then a_table_body
    else if bytes_eq (codes "tr") n then a_row
    else if is_one_of (codes "td th") n then a_cell
    else if is_one_of block_names n then a_block
    else if is_among headings n then a_heading
    else if is_one_of (codes "pre listing") n then a_preformatted
    else if bytes_eq (codes "form") n then a_form
    else if bytes_eq (codes "li") n then an_item
    else if is_one_of (codes "dd dt") n then a_description
    else if bytes_eq (codes "hr") n then a_rule
    else if bytes_eq (codes "frameset") n then a_frameset
    else if bytes_eq (codes "frame") n then a_frame
    else inner_group n
