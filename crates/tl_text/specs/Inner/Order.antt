-- The order of the rows of a table of references.
use Rattle.std.specs.Prelude.{ℕ, Bool, true, false, ◌==◌, ◌&&◌, nat_lt, List, [], ◌∷◌, if◌then◌else◌}
use Rattle.std.specs.List.{list_all}
use Rattle.tl_html_spec.specs.References.{Row, not_zero}

-- whether a name stands behind these bytes in the order of words
abbrev pub is_past : List ℕ → List ℕ → Bool
is_past [] bytes = false
is_past (a ∷ name) [] = true
is_past (a ∷ name) (b ∷ bytes) = if a == b then is_past name bytes else nat_lt b a

-- whether it stands behind the name of the first of these rows
abbrev pub is_past_first : List ℕ → List Row → Bool
is_past_first name [] = true
is_past_first name (row ∷ rows) = is_past name row.0

-- rows whose names hold no byte 0, the last in the order of words first
abbrev pub are_in_order : List Row → Bool
are_in_order [] = true
are_in_order (row ∷ rows) =
    list_all not_zero row.0 && is_past_first row.0 rows && are_in_order rows
