-- The insertion mode is reset appropriately (13.2.4.1), and a template ends (13.2.6.4.4).
use Rattle.std.specs.Prelude.{Bool, List, None, Option, Some, [], false, if◌then◌else◌, true, ◌∷◌}
use Rattle.tl_dom_spec.specs.Tags.{Tag, is_html, is_implied_thoroughly, is_template}
use Rattle.tl_dom_spec.specs.Groups.{Group, a_caption, a_cell, a_column_group, a_frameset, a_row, a_table, a_table_body, a_template, group, the_body, the_head, the_html}
use Rattle.tl_dom_spec.specs.Path.{Frame, elements, popped_while}
use Rattle.tl_dom_spec.specs.Builder.{Builder, Mode, after_head, before_head, clear_to_last_marker, has_template, in_body, in_caption, in_cell, in_column_group, in_frameset, in_head, in_row, in_table, in_table_body, in_template, pop_until, with_path}

abbrev pub current_template_mode : List Mode → Mode
current_template_mode [] = in_template
current_template_mode (m ∷ modes) = m

abbrev pub templates_popped : List Mode → List Mode
templates_popped [] = []
templates_popped (m ∷ modes) = modes

-- the mode that an element of a group decides, which may be the last one that is looked at
abbrev pub mode_at : Builder → Bool → Group → Option Mode
mode_at b is_last a_cell = if is_last then None else Some in_cell
mode_at b is_last a_row = Some in_row
mode_at b is_last a_table_body = Some in_table_body
mode_at b is_last a_caption = Some in_caption
mode_at b is_last a_column_group = Some in_column_group
mode_at b is_last a_table = Some in_table
mode_at b is_last a_template = Some (current_template_mode b.templates)
mode_at b is_last the_head = if is_last then None else Some in_head
mode_at b is_last the_body = Some in_body
mode_at b is_last a_frameset = Some in_frameset
mode_at b is_last the_html = Some (if b.has_head then after_head else before_head)
mode_at b is_last g = None

abbrev pub tag_mode : Builder → Bool → Tag → Option Mode
tag_mode b is_last t = if is_html t then mode_at b is_last (group t.name) else None

abbrev pub or_mode : Option Mode → Mode → Mode
or_mode None m = m
or_mode (Some m) other = m

-- in a fragment the context element stands for the last one
abbrev pub last_tag : Option Tag → Tag → Tag
last_tag None t = t
last_tag (Some context) t = context

abbrev pub mode_of : Builder → List Frame → Mode
mode_of b [] = in_body
mode_of b (f ∷ []) = or_mode (tag_mode b true (last_tag b.context f.tag)) in_body
mode_of b (f ∷ g ∷ fs) = or_mode (tag_mode b false f.tag) (mode_of b (g ∷ fs))

abbrev pub reset_insertion_mode : Builder → Builder
reset_insertion_mode b = record b { mode = mode_of b (elements b.path) }

-- a template is closed, with what it marked and its mode
abbrev pub close_template : Builder → Builder
close_template b =
    let outside = clear_to_last_marker (pop_until is_template b) in
    reset_insertion_mode (record outside { templates = templates_popped outside.templates })

-- all implied end tags are generated thoroughly before
abbrev pub template_end_tag : Builder → Builder
template_end_tag b =
    if has_template b
    then close_template
    (with_path b (popped_while (λ (f : Frame). is_implied_thoroughly f.tag) b.path))
    else b
