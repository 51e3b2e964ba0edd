-- Lines and columns as editors count them: a line ends with a line feed, and a column is a
-- character of UTF-8.
use Rattle.std.specs.List.{list_any}
use Rattle.std.specs.Prelude.{Bool, List, [], if◌then◌else◌, nat_le, nat_lt, not, take, ℕ, ◌&&◌, ◌+◌, ◌==◌, ◌∷◌}

abbrev pub is_line_feed : ℕ → Bool
is_line_feed b = b == 10

-- a byte that goes on with a character
abbrev pub goes_on : ℕ → Bool
goes_on b = nat_le 128 b && nat_lt b 192

abbrev pub one_if : Bool → ℕ
one_if b = if b then 1 else 0

abbrev pub line_feeds : List ℕ → ℕ
line_feeds [] = 0
line_feeds (b ∷ bytes) = one_if (is_line_feed b) + line_feeds bytes

-- the bytes that begin a character, or stand in none
abbrev pub characters : List ℕ → ℕ
characters [] = 0
characters (b ∷ bytes) = one_if (not (goes_on b)) + characters bytes

abbrev pub has_line_feed : List ℕ → Bool
has_line_feed bytes = list_any is_line_feed bytes

-- what stands behind the last line feed
abbrev pub last_line : List ℕ → List ℕ
last_line [] = []
last_line (b ∷ bytes) =
    if has_line_feed (b ∷ bytes) then last_line bytes else b ∷ bytes

-- of a place in a text, both from 1. A place behind the text is its end

abbrev pub line_at : List ℕ → ℕ → ℕ
line_at text offset = 1 + line_feeds (take offset text)

abbrev pub column_at : List ℕ → ℕ → ℕ
column_at text offset = 1 + characters (last_line (take offset text))
