-- What the tokenizer is in within a text of markup, byte by byte, as the code has it.
use Rattle.std.specs.Prelude.{ℕ, Bool, true, false, ◌||◌, ◌==◌, List, [], ◌∷◌, Option, Some, None, if◌then◌else◌}
use Rattle.std.specs.Char.{is_ascii_alphabetic, is_ascii_alphanumeric, is_ascii_digit, is_ascii_hexdigit, to_ascii_lowercase}
use Rattle.tl_patch_edit.specs.declared.seam.Within.{Within}
use Rattle.tl_patch_edit.specs.declared.seam.Within.TheVariants as within

-- after the first byte of what stands there
abbrev pub first : ℕ → Within
first b =
    if b == 38 then within.Reference
    else if b == 60 then within.TagOpen
    else if b == 13 then within.Return
    else within.Text

-- after a byte that goes on with what is begun, if the byte does
abbrev pub going_on : Within → ℕ → Option Within
going_on within.Text b = None
going_on within.Return b = if b == 10 then Some within.Text else None
going_on within.Reference b =
    if is_ascii_alphanumeric b then Some within.Name
    else if b == 35 then Some within.Number
    else None
going_on within.Name b =
    if is_ascii_alphanumeric b then Some within.Name
    else if b == 59 then Some within.Text
    else None
going_on within.Number b =
    if to_ascii_lowercase b == 120 then Some within.HexadecimalStart
    else if is_ascii_digit b then Some within.Decimal
    else None
going_on within.HexadecimalStart b =
    if is_ascii_hexdigit b then Some within.Hexadecimal else None
going_on within.Hexadecimal b =
    if is_ascii_hexdigit b then Some within.Hexadecimal
    else if b == 59 then Some within.Text
    else None
going_on within.Decimal b =
    if is_ascii_digit b then Some within.Decimal
    else if b == 59 then Some within.Text
    else None
going_on within.TagOpen b =
    if b == 47 then Some within.EndTagOpen
    else if is_ascii_alphabetic b || (b == 33) || (b == 63) then Some within.Markup
    else None
going_on within.EndTagOpen b = Some within.Markup
going_on within.Markup b = Some within.Markup

abbrev pub or_first : Option Within → ℕ → Within
or_first (Some w) b = w
or_first None b = first b

abbrev pub after_byte : Within → ℕ → Within
after_byte w b = or_first (going_on w b) b

abbrev pub is_some_within : Option Within → Bool
is_some_within (Some w) = true
is_some_within None = false

-- whether what is begun goes on with a byte
abbrev pub goes_on_with : Within → ℕ → Bool
goes_on_with w b = is_some_within (going_on w b)

abbrev pub within_from : Within → List ℕ → Within
within_from w [] = w
within_from w (b ∷ text) = within_from (after_byte w b) text

-- what a text ends in
abbrev pub within_text : List ℕ → Within
within_text text = within_from within.Text text

abbrev pub is_markup : Within → Bool
is_markup within.Markup = true
is_markup _ = false
