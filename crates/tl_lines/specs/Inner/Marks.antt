-- Positions that are known before they are asked for.
use Rattle.std.specs.Prelude.{List, get_or, if◌then◌else◌, length, ℕ, ◌*◌, ◌+◌, ◌<◌, ◌≡◌}
use Rattle.tl_lines.specs.Lines.{characters, column_at, has_line_feed, last_line, line_at}
use Rattle.tl_lines.specs.declared.position.Position.{Position}

-- the column behind bytes that begin in a column
abbrev pub column_behind : ℕ → List ℕ → ℕ
column_behind column bytes =
    if has_line_feed bytes then 1 + characters (last_line bytes) else column + characters bytes

-- the position of a place
abbrev pub at : List ℕ → ℕ → Position
at text offset = record { line = line_at text offset; column = column_at text offset }

-- these are the positions of every so many bytes
abbrev pub AreMarks : ℕ → List ℕ → List Position → Type 0
AreMarks step text marks =
    (i : ℕ) → i < length marks → get_or marks i (at text 0) ≡ at text (i * step)
