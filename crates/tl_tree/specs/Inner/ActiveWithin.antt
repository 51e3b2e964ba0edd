-- Which entries may stand in the list of active formatting elements: their numbers differ, and no
-- number and no tag is greater than the greatest one.
use Rattle.std.specs.List.{list_any}
use Rattle.std.specs.Prelude.{Bool, List, [], false, nat_eq, nat_le, not, true, ℕ, ◌&&◌, ◌∷◌}
use Rattle.tl_tree.specs.declared.active_entry.Entry.{Entry}
use Rattle.tl_tree.specs.declared.active_entry.Entry.TheVariants.{Formatting, Marker}

abbrev pub entry_is_within : ℕ → ℕ → Entry → Bool
entry_is_within greatest_number greatest_tag Marker = true
entry_is_within greatest_number greatest_tag (Formatting number tag) =
    nat_le number greatest_number && nat_le tag greatest_tag

abbrev pub is_of : ℕ → Entry → Bool
is_of k Marker = false
is_of k (Formatting number tag) = nat_eq number k

abbrev pub shares_number : Entry → Entry → Bool
shares_number Marker other = false
shares_number (Formatting number tag) other = is_of number other

abbrev pub are_distinct : List Entry → Bool
are_distinct [] = true
are_distinct (e ∷ entries) = not (list_any (shares_number e) entries) && are_distinct entries
