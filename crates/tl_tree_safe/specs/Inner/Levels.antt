-- The levels of open elements, by which it is looked up where a tag may stand.
use Rattle.std.specs.Prelude.{List, [], false, ℕ, ◌∷◌}
use Rattle.tl_safe_fit.specs.Kinds.{kind_of}
use Rattle.tl_safe_fit.specs.Levels.{level_inside, outermost_level}
use Rattle.tl_safe_fit.specs.declared.levels.Level.{Level}
use Rattle.tl_safe_fit.specs.declared.levels.Parts.{Parts}
use Rattle.tl_tree_safe.specs.Fitted.{Names, at_top}

-- no part of a table is added
abbrev pub no_parts : Parts
no_parts = record { column_group = false; table_body = false; row = false }

-- the names where elements of these names are open, the innermost first
abbrev pub names_of : List (List ℕ) → Names
names_of [] = at_top
names_of (n ∷ around) = n ∷ names_of around

-- the level inside of them
abbrev pub level_of : List (List ℕ) → Level
level_of [] = outermost_level no_parts
level_of (n ∷ around) = level_inside no_parts (level_of around) (kind_of n)
