-- What is written of rows with lines between them, one after the other.
use Rattle.std.specs.Option.{is_some, option_map, unwrap_or}
use Rattle.std.specs.Prelude.{Bool, List, [], false, if◌then◌else◌, length, max, nat_lt, suc, true, zero, ℕ, ◌+◌, ◌-◌, ◌&&◌, ◌++◌, ◌||◌, ◌∷◌}
use Rattle.tl_dom_spec.specs.Tags.{Tag, is_any}
use Rattle.tl_tree.specs.Below.{ends_at}
use Rattle.tl_html_print.specs.Inner.Printed.{ended_at, parent_tag, printed, tag_at}
use Rattle.tl_html_print.specs.Pretty.{after, after_lines, begins_line, ends_line, is_block, is_broken, is_frame, is_frame_in, is_white, late_names, line, unseen_names}
use Rattle.tl_html_print.specs.Serialized.{start_tag}
use Rattle.tl_html_print.specs.declared.pretty.spot.Before.TheVariants.{Begin, Edge}
use Rattle.tl_html_print.specs.declared.pretty.spot.Spot.{Spot}
use Rattle.tl_html_print.specs.declared.pretty.stand.Stand.{Stand}
use Rattle.tl_html_print.specs.declared.pretty.stand.Stand.TheVariants.{Alone, Inside, Late, Unseen, Words}
use Rattle.tl_tree.specs.Asked.{ancestors_at, end_at, first_child_at, node_at, parent_at}
use Rattle.tl_tree.specs.Rows.{Node, Row, a_comment, a_doctype, a_text, an_element}

-- Rows

-- whether the tag of an element passes
abbrev pub has_tag : (Tag → Bool) → List Row → ℕ → Bool
has_tag test rows number = unwrap_or (option_map test (tag_at rows number)) false

abbrev pub is_frame_at : List Row → ℕ → Bool
is_frame_at rows number = has_tag is_frame rows number

abbrev pub is_frame_around : List Row → ℕ → Bool
is_frame_around rows number = is_frame_in (parent_tag rows (parent_at rows number))

abbrev pub is_block_at : List Row → ℕ → Bool
is_block_at rows number = has_tag is_block rows number

abbrev pub is_unseen_at : List Row → ℕ → Bool
is_unseen_at rows number = has_tag (is_any unseen_names) rows number

abbrev pub is_broken_at : List Row → ℕ → Bool
is_broken_at rows number = has_tag is_broken rows number

abbrev pub is_late_at : List Row → ℕ → Bool
is_late_at rows number = has_tag (is_any late_names) rows number

abbrev pub element_stand_at : List Row → ℕ → Stand
element_stand_at rows number =
    if is_frame_around rows number || is_block_at rows number
    then (if is_late_at rows number then Late else Alone)
    else if is_unseen_at rows number then Unseen
    else Inside

abbrev pub stand_of : Stand → Node → Stand
stand_of own (an_element tag) = own
stand_of own (a_comment _) = Unseen
stand_of own (a_doctype _) = Alone
stand_of own _ = Words

abbrev pub stand_at : List Row → ℕ → Stand
stand_at rows number =
    unwrap_or
    (option_map (stand_of (element_stand_at rows number)) (node_at rows number))
    Words

abbrev pub is_opened_at : List Row → ℕ → Bool
is_opened_at rows number = is_some (first_child_at rows number) && is_broken_at rows number

abbrev pub next_of : List Row → ℕ → Bool → ℕ
next_of rows number is_opened =
    if is_opened then number + 1
    else max (number + 1) (unwrap_or (end_at rows number) 0)

abbrev pub is_white_node : Node → Bool
is_white_node (a_text own) = is_white own.said
is_white_node _ = false

abbrev pub is_white_at : List Row → ℕ → Bool
is_white_at rows number = unwrap_or (option_map is_white_node (node_at rows number)) false

-- what a row stands in ends right before another one
abbrev pub parent_ends : List Row → ℕ → ℕ → Bool
parent_ends rows number next =
    unwrap_or
    (option_map (λ parent. ends_at rows parent next) (parent_at rows number))
    false

-- Places

abbrev pub begin : Spot
begin = record { depth = 0; before = Begin }

abbrev pub behind : Spot → Stand → Spot
behind spot stand = record { depth = spot.depth; before = after spot.before stand }

abbrev pub inside : Spot → Spot
inside spot = record { depth = spot.depth + 1; before = Edge }

abbrev pub outside : Bool → Spot → Spot
outside is_late spot =
    record { depth = spot.depth - 1; before = after_lines is_late spot.before }

abbrev pub line_if : Bool → ℕ → List ℕ
line_if begins depth = if begins then line depth else []

-- Steps

abbrev pub begins_next : List Row → ℕ → ℕ → Spot → Bool
begins_next rows number next spot =
    if parent_ends rows number next
    then ends_line spot.before
    else begins_line spot.before (stand_at rows next)

-- a row with what is below it
abbrev pub whole_lines : Bool → List Row → ℕ → ℕ → Spot → List ℕ
whole_lines is_scripting rows number next spot =
    if is_white_at rows number
    then (if begins_next rows number next spot then [] else printed is_scripting rows number next)
    else line_if (begins_line spot.before (stand_at rows number)) spot.depth
    ++ printed is_scripting rows number next

abbrev pub whole_spot : List Row → ℕ → Spot → Spot
whole_spot rows number spot =
    if is_white_at rows number then spot else behind spot (stand_at rows number)

-- the start tag of a row
abbrev pub start_lines : List Row → ℕ → Spot → List ℕ
start_lines rows number spot =
    line_if (begins_line spot.before Alone) spot.depth
    ++ unwrap_or (option_map start_tag (tag_at rows number)) []

-- rows from the inside outwards, as long as they end before the next row
abbrev pub closed_lines : List Row → ℕ → Spot → List ℕ → List ℕ
closed_lines rows next spot [] = []
closed_lines rows next spot (number ∷ outer) =
    if ends_at rows number next
    then line_if (ends_line spot.before) (spot.depth - 1)
    ++ (ended_at rows number
    ++ closed_lines rows next (outside (is_late_at rows number) spot) outer)
    else []

abbrev pub closed_spot : List Row → ℕ → Spot → List ℕ → Spot
closed_spot rows next spot [] = spot
closed_spot rows next spot (number ∷ outer) =
    if ends_at rows number next
    then closed_spot rows next (outside (is_late_at rows number) spot) outer
    else spot

abbrev pub closing_lines : Bool → List Row → ℕ → ℕ → Spot → List ℕ
closing_lines is_scripting rows number next spot =
    whole_lines is_scripting rows number next spot
    ++ closed_lines rows next (whole_spot rows number spot) (ancestors_at rows number)

abbrev pub closing_spot : List Row → ℕ → ℕ → Spot → Spot
closing_spot rows number next spot =
    closed_spot rows next (whole_spot rows number spot) (ancestors_at rows number)

abbrev pub step_lines : Bool → List Row → ℕ → Bool → ℕ → Spot → List ℕ
step_lines is_scripting rows number is_opened next spot =
    if is_opened then start_lines rows number spot
    else closing_lines is_scripting rows number next spot

abbrev pub step_spot : List Row → ℕ → Bool → ℕ → Spot → Spot
step_spot rows number is_opened next spot =
    if is_opened then inside spot else closing_spot rows number next spot

-- behind the last row
abbrev pub last_line : Spot → List ℕ
last_line spot = line_if (ends_line spot.before) (spot.depth - 1)

-- so many rows at most, from one on
abbrev pub laid_up_to : Bool → List Row → ℕ → ℕ → Spot → List ℕ
laid_up_to is_scripting rows zero number spot = last_line spot
laid_up_to is_scripting rows (suc most) number spot =
    elim (nat_lt number (length rows)) as (λ _. List ℕ) [
      | true ↦ (
          let is_opened = is_opened_at rows number in
          let next = next_of rows number is_opened in
          step_lines is_scripting rows number is_opened next spot
          ++ laid_up_to is_scripting rows most next
          (step_spot rows number is_opened next spot))
      | false ↦ last_line spot
    ]

abbrev pub laid_from : Bool → List Row → ℕ → Spot → List ℕ
laid_from is_scripting rows number spot =
    laid_up_to is_scripting rows (length rows - number) number spot

abbrev pub laid_rows : Bool → List Row → List ℕ
laid_rows is_scripting rows = laid_from is_scripting rows 0 begin
