-- Lines of several pages, each led by the name of its page.
use Rattle.std.specs.Prelude.{Bool, List, [], false, if◌then◌else◌, not, true, ℕ, ◌&&◌, ◌++◌, ◌==◌, ◌∷◌}
use Rattle.tl_tree_extract.specs.Fields.{separator, value_written}
use Rattle.tl_tree_extract.specs.declared.column.Columns.{Columns}
use Rattle.tl_tree_extract.specs.declared.column.Columns.TheVariants.{Commas, Tabs}

-- what is left of a text, whose first byte begins a line or doesn't, with a name before each line.
-- A line ends at this byte, and the last one gets it where it lacks it
abbrev pub prefixed_from : List ℕ → ℕ → Bool → List ℕ → List ℕ
prefixed_from name end begins [] = if begins then [] else end ∷ []
prefixed_from name end begins (byte ∷ text) =
    (if begins then name else []) ++ byte ∷ prefixed_from name end (byte == end) text

-- a text with a name before each line
abbrev pub prefixed : List ℕ → ℕ → List ℕ → List ℕ
prefixed name end text = prefixed_from name end true text

-- whether what follows a byte of records stands in quotes, where a line feed ends no record
abbrev pub is_quoted_behind : Columns → Bool → ℕ → Bool
is_quoted_behind Tabs quoted byte = false
is_quoted_behind Commas quoted byte = if byte == 34 then not quoted else quoted

-- what is left of records, whose first byte begins one or doesn't, with a value before each
abbrev pub named_from : Columns → List ℕ → Bool → Bool → List ℕ → List ℕ
named_from columns value begins quoted [] = []
named_from columns value begins quoted (byte ∷ records) =
    (if begins then value else [])
    ++ byte ∷ named_from columns value
    ((byte == 10) && not (is_quoted_behind columns quoted byte))
    (is_quoted_behind columns quoted byte)
    records

-- records, each with a name as its first value
abbrev pub named_records : Columns → List ℕ → List ℕ → List ℕ
named_records columns name records =
    named_from columns (value_written columns name ++ separator columns ∷ []) true false records
