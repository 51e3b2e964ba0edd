-- Tables of a page.
use Rattle.std.specs.Option.{option_and_then, option_copied, option_map_or}
use Rattle.std.specs.Prelude.{Bool, List, None, Option, Some, [], codes, drop, false, filter, flat_map, get_or, length, min, suc, take, ℕ, ◌&&◌, ◌*◌, ◌+◌, ◌++◌, ◌-◌, ◌<◌, ◌^◌, ◌≡◌, ◌≤◌, ◌∷◌}
use Rattle.std.specs.Str.{bytes_eq}
use Rattle.tl_answers.specs.Document.{document_element}
use Rattle.tl_answers.specs.Findings.{Finding, of_nodes}
use Rattle.tl_answers.specs.LeftOut.{is_within, marks_in}
use Rattle.tl_answers.specs.Lines.{is_html_at}
use Rattle.tl_answers.specs.declared.tables.TableForm.{TableForm}
use Rattle.tl_answers.specs.declared.tables.TableForm.TheVariants.{Json, Sheet}
use Rattle.tl_answers.specs.declared.tables.TableQuery.{TableQuery}
use Rattle.tl_css.specs.Selector.{Css}
use Rattle.tl_tree.specs.Asked.{name_of, node_at}
use Rattle.tl_tree.specs.Below.{elements_below}
use Rattle.tl_tree.specs.Rows.{Row}
use Rattle.tl_tree.specs.declared.source.Source.{Source}
use Rattle.tl_tree_extract.specs.Sheet.{table_written}
use Rattle.tl_tree_extract.specs.SheetJson.{table_line}
use Rattle.tl_tree_extract.specs.declared.sheet.Spans.{Spans}

abbrev pub is_table_name : Option (List ℕ) → Bool
is_table_name None = false
is_table_name (Some name) = bytes_eq name (codes "table")

-- a `table` of HTML
abbrev pub is_table_at : List Row → ℕ → Bool
is_table_at rows n =
    is_html_at rows n && is_table_name (option_and_then name_of (node_at rows n))

-- the numbers of the tables of a page, in order; those in contents of templates are none
abbrev pub tables_of : List Row → List ℕ
tables_of rows =
    filter (is_table_at rows) (option_map_or (elements_below rows) (document_element rows) [])

-- those that are nodes where a selector holds, which are these, or in such a node; all where there
-- is no selector
abbrev pub tables_within : Option Css → List Row → List ℕ → List ℕ
tables_within None rows found = tables_of rows
tables_within (Some selector) rows found =
    filter (is_within (marks_in rows found) rows) (tables_of rows)

-- the one of a number, from 0, or all
abbrev pub numbered : Option ℕ → List ℕ → List ℕ
numbered None tables = tables
numbered (Some number) tables = take 1 (drop number tables)

-- the tables that are asked for, where the selector holds of these nodes
abbrev pub asked_tables : List Row → TableQuery → List ℕ → List ℕ
asked_tables rows query found =
    numbered query.number (tables_within (option_copied query.within) rows found)

-- the text of a table
abbrev pub table_text : TableForm → Spans → List Row → ℕ → List ℕ
table_text (Sheet columns) spans rows n = table_written columns spans rows n
table_text (Json file) spans rows n = table_line (option_copied file) spans rows n

-- what stands between two: an empty line, and nothing between lines of JSON
abbrev pub gap : TableForm → List ℕ
gap (Sheet columns) = 10 ∷ []
gap (Json file) = []

-- a table behind another one
abbrev pub later_text : TableForm → Spans → List Row → ℕ → List ℕ
later_text form spans rows n = gap form ++ table_text form spans rows n

-- tables one behind the other
abbrev pub tables_text : TableForm → Spans → List Row → List ℕ → List ℕ
tables_text form spans rows [] = []
tables_text form spans rows (n ∷ ns) =
    table_text form spans rows n ++ flat_map (later_text form spans rows) ns

-- what is answered of these tables; where there is none, nothing is found
abbrev pub tables_found : TableQuery → List Row → List ℕ → Finding
tables_found query rows tables = of_nodes tables (tables_text query.form query.spans rows tables)

-- In proportion

-- the most bytes that the text of tables may have, of a page of so many; as numbers of 64 bits
-- have it
abbrev pub table_limit : ℕ → ℕ
table_limit size = min (65536 + 64 * size) (2 ^ 64 - 1)

-- the text of these tables has no more
abbrev pub Fit : ℕ → TableQuery → List Row → List ℕ → Type 0
Fit size query rows tables =
    length (tables_text query.form query.spans rows tables) ≤ table_limit size

-- where the start tag of a node begins; 0 where none stands for it
abbrev pub start_of : Option Source → ℕ
start_of None = 0
start_of (Some source) = source.start

-- the first so many of these tables fit, with one more they don't, and its start tag begins there
pub record IsLargeAt (size : ℕ) (query : TableQuery) (rows : List Row)
    (sources : ℕ → Option Source) (tables : List ℕ) (at : ℕ) : Type 0 where
  pub count : ℕ
  pub is_table : count < length tables
  pub few : Fit size query rows (take count tables)
  pub long : table_limit size
      < length (tables_text query.form query.spans rows (take (suc count) tables))
  pub begins : at ≡ start_of (sources (get_or tables count 0))
