-- What a terminal is shown of bytes that a page may have chosen.
use Rattle.std.specs.Prelude.{Bool, List, [], false, nat_le, nat_lt, not, ℕ, ◌&&◌, ◌==◌, ◌||◌, ◌∷◌, if◌then◌else◌}

-- a byte 0, a tab, a line feed, and a carriage return before a line feed do no harm
abbrev pub is_harmless : ℕ → Bool → Bool
is_harmless byte is_line_end =
    byte == 0 || byte == 9 || byte == 10 || (byte == 13 && is_line_end)

-- a control character of ASCII that a terminal obeys
abbrev pub is_obeyed : ℕ → Bool → Bool
is_obeyed byte is_line_end =
    (nat_lt byte 32 && not (is_harmless byte is_line_end)) || byte == 127

-- the second byte of one from U+0080 to U+009F
abbrev pub is_second : ℕ → ℕ → Bool
is_second before byte = before == 194 && nat_le 128 byte && nat_lt byte 160

-- what stands for a byte: "?" for a control character, "¿" for one of two bytes
abbrev pub visible_byte : ℕ → ℕ → Bool → ℕ
visible_byte before byte is_line_end =
    if is_obeyed byte is_line_end then 63 else (if is_second before byte then 191 else byte)

-- whether bytes begin with a line feed
abbrev pub begins_line : List ℕ → Bool
begins_line [] = false
begins_line (byte ∷ bytes) = byte == 10

-- what is shown of bytes behind this one
abbrev pub visible_behind : ℕ → List ℕ → List ℕ
visible_behind before [] = []
visible_behind before (byte ∷ bytes) =
    visible_byte before byte (begins_line bytes) ∷ visible_behind byte bytes

abbrev pub visible : List ℕ → List ℕ
visible bytes = visible_behind 0 bytes
