-- Names and strings as CSS writes them.
use Rattle.std.specs.Prelude.{ℕ, ◌/◌, ◌%◌, Bool, ◌||◌, ◌==◌, List, [], ◌∷◌, ◌++◌, flat_map, nat_le, nat_lt, if◌then◌else◌}
use Rattle.std.specs.Char.{is_ascii_alphanumeric, is_ascii_digit}
use Rattle.tl_html_spec.specs.Digits.{digit_in, digits}

-- letters, digits, `-`, `_` and bytes above ASCII stand for themselves in a name
abbrev pub is_plain : ℕ → Bool
is_plain b = is_ascii_alphanumeric b || (b == 45) || (b == 95) || nat_le 128 b

-- a byte that is written by its number
abbrev pub is_control : ℕ → Bool
is_control b = nat_lt b 32 || (b == 127)

-- a `\`, the two digits of a byte in base 16, and the space that ends them
abbrev pub number_escape : ℕ → List ℕ
number_escape b = 92 ∷ digit_in digits (b / 16) ∷ digit_in digits (b % 16) ∷ 32 ∷ []

-- a byte behind a `\`
abbrev pub escape_of : ℕ → List ℕ
escape_of b = if is_control b then number_escape b else 92 ∷ b ∷ []

abbrev pub name_byte : ℕ → List ℕ
name_byte b = if is_plain b then b ∷ [] else escape_of b

-- the first byte of a name, which begins with no digit, and here with no `-`
abbrev pub first_byte : ℕ → List ℕ
first_byte b =
    if is_ascii_digit b then number_escape b else if b == 45 then 92 ∷ b ∷ [] else name_byte b

-- a name; nothing of an empty one
abbrev pub css_name : List ℕ → List ℕ
css_name [] = []
css_name (b ∷ bytes) = first_byte b ++ flat_map name_byte bytes

abbrev pub string_byte : ℕ → List ℕ
string_byte b = if is_control b || (b == 34) || (b == 92) then escape_of b else b ∷ []

-- a string in double quotes
abbrev pub css_string : List ℕ → List ℕ
css_string bytes = 34 ∷ flat_map string_byte bytes ++ 34 ∷ []
