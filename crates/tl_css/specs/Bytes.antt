-- The bytes of selector texts, by their classes.
use Rattle.std.specs.Prelude.{ℕ, ◌+◌, ◌-◌, ◌*◌, Bool, not, ◌||◌, ◌&&◌, ◌==◌, nat_lt, nat_le, List, [], ◌∷◌, if◌then◌else◌}
use Rattle.std.specs.Char.{is_ascii_alphanumeric, is_ascii_digit}
use Rattle.std.specs.Str.{byte}

-- a line end of CSS: a line feed, a carriage return or a form feed
abbrev pub is_newline : ℕ → Bool
is_newline b = (b == 0x0A) || (b == 0x0D) || (b == 0x0C)

abbrev pub is_white : ℕ → Bool
is_white b = (b == 0x20) || (b == 0x09) || is_newline b

-- a byte of a name: letters, digits, `-`, `_`, and all bytes above ASCII
abbrev pub is_name_byte : ℕ → Bool
is_name_byte b = is_ascii_alphanumeric b || (b == byte "-") || (b == byte "_") || nat_le 128 b

abbrev pub backslash : ℕ
backslash = 0x5C

-- a byte that stands for itself between these quotes
abbrev pub is_string_byte : ℕ → ℕ → Bool
is_string_byte quote b = not ((b == quote) || (b == backslash) || is_newline b)

abbrev pub is_hex : ℕ → Bool
is_hex b = is_ascii_digit b || (nat_le 65 b && nat_le b 70) || (nat_le 97 b && nat_le b 102)

abbrev pub hex_value : ℕ → ℕ
hex_value b = if nat_lt b 58 then b - 48 else (if nat_lt b 71 then b - 55 else b - 87)

-- the number that hex digits say, after the number n
abbrev pub hex_number : ℕ → List ℕ → ℕ
hex_number n [] = n
hex_number n (b ∷ s) = hex_number (n * 16 + hex_value b) s

abbrev pub decimal_number : ℕ → List ℕ → ℕ
decimal_number n [] = n
decimal_number n (b ∷ s) = decimal_number (n * 10 + (b - 48)) s

-- the character of a number, or the replacement character where it has none
abbrev pub char_of : ℕ → ℕ
char_of n =
    if (n == 0) || (nat_le 0xD800 n && nat_lt n 0xE000) || nat_lt 0x10FFFF n then 0xFFFD else n
