-- The values at a key, line by line.
use Rattle.std.specs.Option.{option_map_or}
use Rattle.std.specs.Prelude.{List, [], flat_map, ℕ, ◌++◌, ◌∷◌}
use Rattle.tl_tree.specs.Asked.{attributes_at, value_of}
use Rattle.tl_tree.specs.Rows.{Row}

-- a text and a line feed
abbrev pub line : List ℕ → List ℕ
line text = text ++ 10 ∷ []

-- the value of an element at a key, or nothing where it has none
abbrev pub value_line : List ℕ → List Row → ℕ → List ℕ
value_line key rows n = option_map_or line (value_of key (attributes_at rows n)) []

-- those of the elements of these numbers
abbrev pub value_lines : List ℕ → List Row → List ℕ → List ℕ
value_lines key rows numbers = flat_map (value_line key rows) numbers
