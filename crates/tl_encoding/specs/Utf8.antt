-- UTF-8 by the Encoding standard's decoder (8.1.1).
use Rattle.std.specs.Prelude.{ℕ, ◌+◌, ◌-◌, ◌*◌, ◌||◌, ◌==◌, List, [], ◌∷◌, ◌++◌, nat_lt, suc, zero, if◌then◌else◌}
use Rattle.std.specs.Int.{is_in_range}

-- where the decoder stands: before a character, or inside of one, with how many bytes are needed
-- after the next one, the lower and the upper boundary of that, and the code point so far
pub data State : Type 0 where
  outside : State
  inside : ℕ → ℕ → ℕ → ℕ → State

-- what a byte gives before a character: itself, an error, which is U+FFFD, or nothing yet
abbrev pub first_points : ℕ → List ℕ
first_points byte =
    if nat_lt byte 0x80 then byte ∷ []
    else if nat_lt byte 0xC2 || nat_lt 0xF4 byte then 0xFFFD ∷ []
    else []

-- the boundaries of the byte after that which begins a character
abbrev pub lower : ℕ → ℕ
lower first = if first == 0xE0 then 0xA0 else if first == 0xF0 then 0x90 else 0x80

abbrev pub upper : ℕ → ℕ
upper first = if first == 0xED then 0x9F else if first == 0xF4 then 0x8F else 0xBF

-- where the decoder stands behind such a byte
abbrev pub first_state : ℕ → State
first_state byte =
    if nat_lt byte 0xC2 || nat_lt 0xF4 byte then outside
    else if nat_lt byte 0xE0 then inside 0 (lower byte) (upper byte) (byte - 0xC0)
    else if nat_lt byte 0xF0 then inside 1 (lower byte) (upper byte) (byte - 0xE0)
    else inside 2 (lower byte) (upper byte) (byte - 0xF0)

-- the code points of bytes: inside of a character a byte that isn't within the boundaries is
-- restored behind the error
abbrev pub decodes : State → List ℕ → List ℕ
decodes outside [] = []
decodes (inside more low high point) [] = 0xFFFD ∷ []
decodes outside (b ∷ s) = first_points b ++ decodes (first_state b) s
decodes (inside zero low high point) (b ∷ s) =
    if is_in_range low high b then (point * 64 + (b - 0x80)) ∷ decodes outside s
    else 0xFFFD ∷ (first_points b ++ decodes (first_state b) s)
decodes (inside (suc more) low high point) (b ∷ s) =
    if is_in_range low high b then decodes (inside more 0x80 0xBF (point * 64 + (b - 0x80))) s
    else 0xFFFD ∷ (first_points b ++ decodes (first_state b) s)

-- all of them
abbrev pub utf_8 : List ℕ → List ℕ
utf_8 bytes = decodes outside bytes
