-- Where nodes stand in a page.
use Rattle.std.specs.Fmt.{decimal}
use Rattle.std.specs.Option.{is_some}
use Rattle.std.specs.Prelude.{Bool, List, None, Option, Some, [], flat_map, if◌then◌else◌, length, suc, true, zero, ℕ, ◌++◌, ◌-◌, ◌∷◌}
use Rattle.tl_answers.specs.Lines.{field_line, value_at}
use Rattle.tl_answers.specs.declared.field.Field.{Field}
use Rattle.tl_answers.specs.declared.field.Field.TheVariants.{InnerHtml, Number, OuterHtml, Text, Value}
use Rattle.tl_dom_spec.specs.HtmlForest.{HtmlForest}
use Rattle.tl_lines.specs.Lines.{column_at, line_at}
use Rattle.tl_tree.specs.Rows.{Row, rows_of}
use Rattle.tl_tree.specs.declared.source.Source.{Source}

-- where the first of so many nodes, from one on, begins that stands in a page of so many bytes; the
-- end of the page where none does
abbrev pub place_from : (ℕ → Option Source) → ℕ → ℕ → ℕ → ℕ
place_from sources size zero n = size
place_from sources size (suc most) n =
    elim (sources n) as (λ _. ℕ) [
      | None ↦ place_from sources size most (suc n)
      | Some source ↦ source.start
    ]

-- where a node begins, or what stands behind it where the standard puts it in
abbrev pub place_at : (ℕ → Option Source) → ℕ → List Row → ℕ → ℕ
place_at sources size rows n = place_from sources size (length rows - n) n

-- `LINE:COLUMN:`
abbrev pub place_words : List ℕ → ℕ → List ℕ
place_words page at =
    decimal (line_at page at) ++ 58 ∷ (decimal (column_at page at) ++ 58 ∷ [])

-- there is something to be written of a node
abbrev pub has_field : Field → List Row → ℕ → Bool
has_field Number rows n = true
has_field OuterHtml rows n = true
has_field InnerHtml rows n = true
has_field Text rows n = true
has_field (Value key) rows n = is_some (value_at key rows n)

-- it with its place in front
abbrev pub placed_line :
    Field → List ℕ → HtmlForest → (ℕ → Option Source) → List ℕ → ℕ → List ℕ
placed_line field end trees sources page n =
    if has_field field (rows_of trees) n
    then place_words page (place_at sources (length page) (rows_of trees) n)
    ++ field_line field end trees n
    else []

abbrev pub placed_lines :
    Field → List ℕ → HtmlForest → (ℕ → Option Source) → List ℕ → List ℕ → List ℕ
placed_lines field end trees sources page numbers =
    flat_map (placed_line field end trees sources page) numbers
