-- The readable text of rows: what `innerText` has of them in a browser without style sheets but the
-- standard's own.
use Rattle.std.specs.List.{list_any}
use Rattle.std.specs.Option.{option_map, unwrap_or}
use Rattle.std.specs.Prelude.{Bool, List, [], false, if◌then◌else◌, length, max, nat_le, nat_lt, suc, true, zero, ℕ, ◌+◌, ◌-◌, ◌&&◌, ◌++◌, ◌==◌, ◌∷◌}
use Rattle.tl_tree.specs.Asked.{ancestors_at, end_at, node_at}
use Rattle.tl_tree.specs.Below.{ends_at}
use Rattle.tl_tree.specs.Rows.{Node, Row, a_text, an_element}
use Rattle.tl_tree_extract.specs.Boxes.{box_at, display_at, is_hidden, keeps_lines}
use Rattle.tl_tree_extract.specs.Flowing.{Item, a_begin, an_end, at_begin, text_items, written}
use Rattle.tl_tree_extract.specs.declared.text.display.Display.{Display}

abbrev pub unless_hidden : Display → List Item → List Item
unless_hidden display items = if is_hidden display then [] else items

-- what a node has before what is below it
abbrev pub opened : Display → Bool → Node → List Item
opened display is_kept (an_element tag) = a_begin display ∷ []
opened display is_kept (a_text own) = unless_hidden display (text_items is_kept own.said)
opened display is_kept _ = []

abbrev pub opened_of : List Row → Display → Bool → ℕ → List Item
opened_of rows display is_kept number =
    unwrap_or (option_map (opened display is_kept) (node_at rows number)) []

-- up to which row white space stands as it is
abbrev pub kept_of : List Row → Display → ℕ → ℕ → ℕ
kept_of rows display kept number =
    if keeps_lines display then max kept (unwrap_or (end_at rows number) 0) else kept

-- the next row: the one behind, or behind what is below a hidden one
abbrev pub behind_of : List Row → Display → ℕ → ℕ
behind_of rows display number =
    if is_hidden display
    then max (number + 1) (unwrap_or (end_at rows number) 0)
    else number + 1

-- the elements that a row is in and that end before the next row, from the inside outwards, up to
-- the first row
abbrev pub ended_outside : List Row → ℕ → ℕ → List ℕ → List Item
ended_outside rows first next [] = []
ended_outside rows first next (number ∷ outer) =
    if nat_le first number && ends_at rows number next
    then an_end (box_at rows number) ∷ ended_outside rows first next outer
    else []

-- a row that ends before the next one, with those that end there too
abbrev pub ended_of : List Row → Display → ℕ → ℕ → ℕ → List Item
ended_of rows display first next number =
    if ends_at rows number next
    then an_end display ∷ ended_outside rows first next (ancestors_at rows number)
    else []

-- so many rows at most, from one on and before an end
abbrev pub items_up_to : List Bool → List Row → ℕ → ℕ → ℕ → ℕ → ℕ → List Item
items_up_to marks rows first end zero kept number = []
items_up_to marks rows first end (suc most) kept number =
    elim (nat_lt number end) as (λ _. List Item) [
      | true ↦ (
          let display = display_at marks rows number in
          let inner = kept_of rows display kept number in
          let next = behind_of rows display number in
          opened_of rows display (nat_lt number inner) number
          ++ (ended_of rows display first next number
          ++ items_up_to marks rows first end most inner next))
      | false ↦ []
    ]

abbrev pub items_from : List Bool → List Row → ℕ → ℕ → ℕ → ℕ → List Item
items_from marks rows first end kept number =
    items_up_to marks rows first end (end - number) kept number

-- the text of a range of rows
abbrev pub readable : List Bool → List Row → ℕ → ℕ → ℕ → List ℕ
readable marks rows first end kept =
    written at_begin (items_from marks rows first end kept first)

-- whether white space below a row stands as it is
abbrev pub is_kept_at : List Row → ℕ → Bool
is_kept_at rows number =
    list_any (λ outer. keeps_lines (box_at rows outer)) (number ∷ ancestors_at rows number)

-- what is below a row
abbrev pub readable_below : List Bool → List Row → ℕ → List ℕ
readable_below marks rows number =
    unwrap_or
    (option_map
    (λ end. readable marks rows (number + 1) end (if is_kept_at rows number then end else 0))
    (end_at rows number))
    []

-- all rows
abbrev pub readable_rows : List Bool → List Row → List ℕ
readable_rows marks rows = readable marks rows 0 (length rows) 0

-- a text on one line: its words, with a space between two
abbrev pub one_line : List ℕ → List ℕ
one_line text = written at_begin (text_items false text)
