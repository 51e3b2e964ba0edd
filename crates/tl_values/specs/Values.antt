-- Values made of old ones.
use Rattle.memchr.specs.Find.{matches}
use Rattle.std.specs.Prelude.{List, [], drop, length, slice_range, ℕ, ◌++◌, ◌+◌, ◌∷◌}

-- from a place on: the value with a text put in the place of what so many bytes at these places
-- are
abbrev pub put_at : List ℕ → ℕ → List ℕ → ℕ → List ℕ → List ℕ
put_at put len value from [] = drop from value
put_at put len value from (place ∷ places) =
    slice_range value from place ++ put ++ put_at put len value (place + len) places

-- the value with a text put in the place of each occurrence of another one, from the left; none
-- overlaps one before it
abbrev pub replaced : List ℕ → List ℕ → List ℕ → List ℕ
replaced sought put value = put_at put (length sought) value 0 (matches value sought 0)
