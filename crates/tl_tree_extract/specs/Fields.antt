-- What is said of a node in columns: a record of tab-separated or comma-separated values.
use Rattle.std.specs.List.{list_any}
use Rattle.std.specs.Option.{option_and_then, unwrap_or}
use Rattle.std.specs.Prelude.{Bool, List, [], flat_map, if◌then◌else◌, length, suc, zero, ℕ, ◌++◌, ◌==◌, ◌||◌, ◌∷◌}
use Rattle.tl_tree.specs.Asked.{attributes_at, name_of, node_at, value_of}
use Rattle.tl_tree.specs.Rows.{Row}
use Rattle.tl_tree_extract.specs.Readable.{one_line, readable_below}
use Rattle.tl_tree_extract.specs.declared.fields.Field.{Field}
use Rattle.tl_tree_extract.specs.declared.fields.Field.TheVariants.{Attribute, Name, Text}
use Rattle.tl_tree_extract.specs.declared.column.Columns.{Columns}
use Rattle.tl_tree_extract.specs.declared.column.Columns.TheVariants.{Commas, Tabs}

-- nothing where a node has no such value
abbrev pub field_said : List Row → ℕ → Field → List ℕ
field_said rows n (Attribute key) = unwrap_or (value_of key.now (attributes_at rows n)) []
field_said rows n Text = one_line (readable_below [] rows n)
field_said rows n Name = unwrap_or (option_and_then name_of (node_at rows n)) []

-- Tabs: a tab, a line feed, a carriage return and a `\` are written as `\t`, `\n`, `\r` and `\\`

abbrev pub tab_byte : ℕ → List ℕ
tab_byte b =
    if b == 9 then 92 ∷ 116 ∷ []
    else if b == 10 then 92 ∷ 110 ∷ []
    else if b == 13 then 92 ∷ 114 ∷ []
    else if b == 92 then 92 ∷ 92 ∷ []
    else b ∷ []

abbrev pub is_escaped : ℕ → Bool
is_escaped b = b == 9 || b == 10 || b == 13 || b == 92

-- Commas: RFC 4180. A record of one empty value is `""`, as an empty line would be none

abbrev pub is_quoted : ℕ → Bool
is_quoted b = b == 34 || b == 44 || b == 10 || b == 13

abbrev pub doubled : ℕ → List ℕ
doubled b = if b == 34 then 34 ∷ 34 ∷ [] else b ∷ []

abbrev pub quoted : List ℕ → List ℕ
quoted value = 34 ∷ (flat_map doubled value ++ 34 ∷ [])

abbrev pub comma_value : List ℕ → List ℕ
comma_value value = if list_any is_quoted value then quoted value else value

abbrev pub value_written : Columns → List ℕ → List ℕ
value_written Tabs value = flat_map tab_byte value
value_written Commas value = comma_value value

abbrev pub separator : Columns → ℕ
separator Tabs = 9
separator Commas = 44

abbrev pub unless_empty : List ℕ → List ℕ
unless_empty [] = 34 ∷ 34 ∷ []
unless_empty (b ∷ bytes) = b ∷ bytes

-- the first column, before so many others
abbrev pub first_written : Columns → ℕ → List ℕ → List ℕ
first_written Tabs others value = value_written Tabs value
first_written Commas zero value = unless_empty (value_written Commas value)
first_written Commas (suc n) value = value_written Commas value

-- the columns behind the first one
abbrev pub more_columns : Columns → List Row → ℕ → List Field → List ℕ
more_columns columns rows n [] = []
more_columns columns rows n (field ∷ fields) =
    separator columns ∷ (value_written columns (field_said rows n field)
    ++ more_columns columns rows n fields)

-- the columns of a node, in the order of the fields
abbrev pub record_written : Columns → List Row → List Field → ℕ → List ℕ
record_written columns rows [] n = 10 ∷ []
record_written columns rows (field ∷ fields) n =
    first_written columns (length fields) (field_said rows n field)
    ++ (more_columns columns rows n fields ++ 10 ∷ [])

-- a record for each node
abbrev pub records_written : Columns → List Row → List Field → List ℕ → List ℕ
records_written columns rows fields numbers =
    flat_map (record_written columns rows fields) numbers
