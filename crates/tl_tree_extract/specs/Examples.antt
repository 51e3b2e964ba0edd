-- Words for worked rows. No contract cites them.
use Prim.Native.String.{String}
use Rattle.std.specs.Prelude.{Bool, List, Option, [], codes, flat_map, map, if◌then◌else◌, ℕ, ◌%◌, ◌+◌, ◌++◌, ◌/◌, ◌==◌, ◌∷◌}
use Rattle.tl_dom_spec.specs.HtmlForest.{HtmlForest, element, no_trees}
use Rattle.tl_dom_spec.specs.HtmlTree.{html_tree_by, standard}
use Rattle.tl_dom_spec.specs.Tags.{html_tag}
use Rattle.tl_tree.specs.Rows.{Row, rows_of}
use Rattle.tl_tree_extract.specs.Fields.{record_written}
use Rattle.tl_tree_extract.specs.Links.{parts_of}
use Rattle.tl_tree_extract.specs.NodeOutline.{node_outline}
use Rattle.tl_tree_extract.specs.Outline.{outline_of}
use Rattle.tl_tree_extract.specs.Readable.{readable_below, readable_rows}
use Rattle.tl_tree_extract.specs.Sheet.{table_written}
use Rattle.tl_tree_extract.specs.SheetJson.{table_line}
use Rattle.tl_tree_extract.specs.Spans.{Part}
use Rattle.tl_tree_extract.specs.Table.{Forming, place_cells}
use Rattle.tl_tree_extract.specs.declared.column.Columns.{Columns}
use Rattle.tl_tree_extract.specs.declared.column.Columns.TheVariants.{Tabs}
use Rattle.tl_tree_extract.specs.declared.fields.Field.{Field}
use Rattle.tl_tree_extract.specs.declared.sheet.Spans.{Spans}
use Rattle.tl_tree_extract.specs.declared.sheet.Spans.TheVariants.{Filled}
use Rattle.tl_tree_extract.specs.declared.tables.Cell.{Cell}
use Rattle.tl_tree_extract.specs.declared.tables.TableRow.{TableRow}
use Rattle.tl_tree_extract.specs.declared.url_keys.UrlKind.{UrlKind}

-- `/` is a line feed, and `_` a tab
abbrev pub shown_byte : ℕ → ℕ
shown_byte b = if b == 47 then 10 else if b == 95 then 9 else b

abbrev pub shown : String → List ℕ
shown line = map shown_byte (codes line)

-- the readable text of a page, all of it or but for rows with a mark
abbrev pub text_but : List Bool → String → List ℕ
text_but marks page = readable_rows marks (rows_of (html_tree_by standard (codes page)).trees)

abbrev pub text : String → List ℕ
text page = text_but [] page

-- of a node: `html`, `head` and `body` are the first three
abbrev pub text_below : String → ℕ → List ℕ
text_below page number =
    readable_below [] (rows_of (html_tree_by standard (codes page)).trees) number

-- a number below a hundred
abbrev pub two_digits : ℕ → List ℕ
two_digits n = (48 + n / 10) ∷ (48 + n % 10) ∷ []

-- a number below ten
abbrev pub digit : ℕ → List ℕ
digit n = (48 + n) ∷ []

abbrev pub part_shown : Part → List ℕ
part_shown p = two_digits p.start ++ codes ":" ++ p.bytes ++ codes "; "

-- each URL of a value, and where it begins
abbrev pub urls : UrlKind → String → List ℕ
urls kind value = flat_map part_shown (parts_of kind (codes value))

-- a cell with spans
abbrev pub a_cell : String → String → HtmlForest → HtmlForest
a_cell columns rows more =
    element (html_tag (codes "td")
    ((codes "colspan", codes columns) ∷ (codes "rowspan", codes rows) ∷ []))
    no_trees more

abbrev pub cell_shown : Cell → List ℕ
cell_shown c =
    digit c.left ++ codes "-" ++ digit c.right ++ codes "," ++ digit c.top ++ codes "-"
    ++ digit c.bottom
    ++ codes "; "

-- the slots of two rows of a group of three, of which the first one has some of these cells
abbrev pub two_rows : HtmlForest → List ℕ → List ℕ → List ℕ
two_rows cells first second =
    let rows = rows_of cells in
    let row : TableRow = record { node = 0; group_end = 3 } in
    let none : Forming = record { width = 0; cells = [] } in
    flat_map cell_shown
    (place_cells rows row 1 second 0 (place_cells rows row 0 first 0 none)).cells

-- the rows of a page
abbrev pub page_rows : String → List Row
page_rows page = rows_of (html_tree_by standard (codes page)).trees

-- the slots of a table, which is the node behind `html`, `head` and `body`, each with the words of
-- the cell that has it
abbrev pub slots : String → List ℕ
slots page = table_written Tabs Filled (page_rows page) 3

-- the same table as a line of JSON
abbrev pub table_json : Option (List ℕ) → Spans → String → List ℕ
table_json file spans page = table_line file spans (page_rows page) 3

-- the nodes of a page on lines, with their numbers or without
abbrev pub nodes : Bool → String → List ℕ
nodes has_numbers page = node_outline has_numbers (page_rows page)

-- the headings of a page
abbrev pub outline : String → List ℕ
outline page = outline_of (rows_of (html_tree_by standard (codes page)).trees)

-- what fields say of a node of a page
abbrev pub record_of : Columns → String → List Field → ℕ → List ℕ
record_of columns page fields n =
    record_written columns (rows_of (html_tree_by standard (codes page)).trees) fields n
