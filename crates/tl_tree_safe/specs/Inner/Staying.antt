-- Links that are read as they stand.
use Rattle.std.specs.Char.{is_ascii_uppercase}
use Rattle.std.specs.List.{list_all}
use Rattle.std.specs.Prelude.{Bool, List, [], not, true, ℕ, ◌&&◌, ◌==◌, ◌||◌, ◌∷◌}
use Rattle.tl_tree_safe.specs.Lists.{is_link_byte}
use Rattle.tl_tree_safe.specs.Values.{begins_scheme}

-- no letter in upper case stands before the first `:`
abbrev pub is_low : List ℕ → Bool
is_low [] = true
is_low (b ∷ link) = b == 58 || (not (is_ascii_uppercase b) && is_low link)

-- a link is read as it stands
abbrev pub is_read_so : List ℕ → Bool
is_read_so link = list_all is_link_byte link && (not (begins_scheme link) || is_low link)
