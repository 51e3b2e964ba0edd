-- Values of nodes in columns: a line for each node.
use Rattle.std.specs.Option.{unwrap_or}
use Rattle.std.specs.Prelude.{Bool, List, [], flat_map, if◌then◌else◌, length, map, ℕ, ◌++◌, ◌∷◌}
use Rattle.tl_answers.specs.Lines.{is_html_at, spelled}
use Rattle.tl_answers.specs.declared.field.Key.{Key}
use Rattle.tl_answers.specs.declared.records.Records.{Records}
use Rattle.tl_tree.specs.Asked.{attributes_at, value_of}
use Rattle.tl_tree.specs.Rows.{Row}
use Rattle.tl_tree_extract.specs.Fields.{first_written, separator, value_written}
use Rattle.tl_tree_extract.specs.Readable.{one_line, readable_below}
use Rattle.tl_tree_extract.specs.declared.column.Columns.{Columns}

-- the value at a key of a node that is an element of HTML, or another one; nothing without one
abbrev pub value_by : Bool → List Row → ℕ → Key → List ℕ
value_by is_html rows n key =
    unwrap_or (value_of (spelled is_html key) (attributes_at rows n)) []

-- the readable text below it on one line, where it is asked for
abbrev pub text_by : Bool → List Row → ℕ → List (List ℕ)
text_by has_text rows n = if has_text then one_line (readable_below [] rows n) ∷ [] else []

-- what is said of a node: its value at each key, and then its text
abbrev pub values_by : Bool → List Key → Bool → List Row → ℕ → List (List ℕ)
values_by is_html keys has_text rows n =
    map (value_by is_html rows n) keys ++ text_by has_text rows n

-- values behind the first one
abbrev pub later_values : Columns → List (List ℕ) → List ℕ
later_values columns [] = []
later_values columns (value ∷ values) =
    separator columns ∷ (value_written columns value ++ later_values columns values)

-- the line of values
abbrev pub values_written : Columns → List (List ℕ) → List ℕ
values_written columns [] = 10 ∷ []
values_written columns (value ∷ values) =
    first_written columns (length values) value ++ (later_values columns values ++ 10 ∷ [])

abbrev pub record_line : Records → List Row → ℕ → List ℕ
record_line own rows n =
    values_written own.columns
    (values_by (is_html_at rows n) own.keys.now own.has_text rows n)

-- the lines of the nodes of these numbers
abbrev pub record_lines : Records → List Row → List ℕ → List ℕ
record_lines own rows numbers = flat_map (record_line own rows) numbers
