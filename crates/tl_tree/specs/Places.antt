-- Where marks stand, as it is kept: most of them in five bytes, and long ones in a list of their
-- own, whose number stands in the place of the start.
use Rattle.std.specs.Int.{from_le_bytes, w32}
use Rattle.std.specs.Prelude.{Bool, List, if◌then◌else◌, nat_lt, slice_index_or, ℕ, ◌+◌, ◌==◌, ◌^◌}
use Rattle.tl_tree.specs.declared.short_bounds.ShortBounds.{ShortBounds}
use Rattle.tl_tree.specs.declared.source.Bounds.{Bounds}

abbrev pub start_of : ShortBounds → ℕ
start_of s = from_le_bytes w32 s.start

abbrev pub is_long : ShortBounds → Bool
is_long s = s.len == 255

-- where there are so many long ones
abbrev pub is_placed : ℕ → ShortBounds → Bool
is_placed many s =
    if is_long s then nat_lt (start_of s) many else nat_lt (start_of s + s.len) (2 ^ 32)

-- where it stands
abbrev pub bounds_at : List Bounds → ShortBounds → Bounds
bounds_at long s =
    if is_long s
    then slice_index_or long (start_of s) (record { start = 0; end = 0 })
    else record { start = start_of s; end = start_of s + s.len }
