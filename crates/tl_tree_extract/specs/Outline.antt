-- The headings of a page.
use Rattle.std.specs.Option.{option_and_then, option_map_or, unwrap_or}
use Rattle.std.specs.Prelude.{List, None, Option, Some, [], codes, flat_map, if◌then◌else◌, length, nat_le, suc, zero, ℕ, ◌&&◌, ◌++◌, ◌-◌, ◌==◌, ◌∷◌}
use Rattle.tl_dom_spec.specs.Tags.{is_html}
use Rattle.tl_tree.specs.Asked.{node_at}
use Rattle.tl_tree.specs.Rows.{Node, Row, an_element}
use Rattle.tl_tree_extract.specs.Boxes.{name_at}
use Rattle.tl_tree_extract.specs.Links.{is_shown}
use Rattle.tl_tree_extract.specs.Readable.{one_line, readable_below}
use Rattle.tl_tree_extract.specs.declared.outline.Heading.{Heading}

-- from 1 for `h1` to 6 for `h6`
abbrev pub level_of : List ℕ → Option ℕ
level_of (h ∷ digit ∷ []) =
    if h == 104 && nat_le 49 digit && nat_le digit 54 then Some (digit - 48) else None
level_of _ = None

abbrev pub level_in : Node → Option ℕ
level_in (an_element tag) = if is_html tag then level_of tag.name else None
level_in _ = None

-- the level of a row, if it is a heading
abbrev pub level_at : List Row → ℕ → Option ℕ
level_at rows n = option_and_then level_in (node_at rows n)

abbrev pub heading : ℕ → ℕ → List Heading
heading n level = record { node = n; level = level } ∷ []

abbrev pub headings_at : List Row → ℕ → List Heading
headings_at rows n =
    if is_shown rows n then option_map_or (heading n) (level_at rows n) [] else []

-- those of the rows before a number, in the order of the page
abbrev pub headings_before : List Row → ℕ → List Heading
headings_before rows zero = []
headings_before rows (suc n) = headings_before rows n ++ headings_at rows n

abbrev pub headings_of : List Row → List Heading
headings_of rows = headings_before rows (length rows)

-- two spaces for each of so many levels
abbrev pub indentation : ℕ → List ℕ
indentation zero = []
indentation (suc n) = indentation n ++ codes "  "

-- `h2 Words`, behind two spaces for each level above
abbrev pub heading_line : List Row → Heading → List ℕ
heading_line rows h =
    indentation (h.level - 1)
    ++ (unwrap_or (name_at rows h.node) []
    ++ (32 ∷ (one_line (readable_below [] rows h.node) ++ 10 ∷ [])))

abbrev pub outline_of : List Row → List ℕ
outline_of rows = flat_map (heading_line rows) (headings_of rows)
