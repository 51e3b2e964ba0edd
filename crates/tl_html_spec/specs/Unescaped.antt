-- What a text or a value says: its characters, with each reference looked at from its `&`
-- (13.2.5.72 to .80).
use Rattle.std.specs.Prelude.{ℕ, zero, suc, ◌+◌, ◌*◌, ◌==◌, Bool, true, false, ◌||◌, not, List, [], ◌∷◌, ◌++◌, Option, Some, None, codes, option_map, if◌then◌else◌}
use Rattle.std.specs.Char.{is_ascii_alphanumeric, is_ascii_digit, is_ascii_hexdigit, to_ascii_lowercase}
use Rattle.tl_html_spec.specs.HtmlTokenizer.{digit_value}
use Rattle.tl_html_spec.specs.References.{Reference, begins_with, named_reference, number_value}

-- a reference, with one byte more before it
abbrev pub one_before : Reference → Reference
one_before r = record r { takes = suc r.takes }

-- a number of which the digits so far make this, up to where its digits end, or the `;` after them
-- (13.2.5.78, .79)
abbrev pub number_from : (ℕ → Bool) → ℕ → ℕ → List ℕ → Reference
number_from is_digit base code [] = record { gives = number_value code; takes = 0 }
number_from is_digit base code (b ∷ s) =
    if is_digit b then one_before (number_from is_digit base (code * base + digit_value b) s)
    else record { gives = number_value code; takes = if b == 59 then 1 else 0 }

-- a number has a digit at least (13.2.5.76, .77)
abbrev pub number : (ℕ → Bool) → ℕ → List ℕ → Option Reference
number is_digit base s =
    if begins_with is_digit s then Some (number_from is_digit base 0 s) else None

-- a number after `#`, with an `x` before it of base 16 (13.2.5.75)
abbrev pub numeric_reference : List ℕ → Option Reference
numeric_reference [] = None
numeric_reference (b ∷ s) =
    if to_ascii_lowercase b == 120 then option_map one_before (number is_ascii_hexdigit 16 s)
    else number is_ascii_digit 10 (b ∷ s)

-- the reference of which this stands after its `&`, in a value or a text (13.2.5.72)
abbrev pub reference : Bool → List ℕ → Option Reference
reference in_value [] = None
reference in_value (b ∷ s) =
    if is_ascii_alphanumeric b then named_reference in_value (b ∷ s)
    else if b == 35 then option_map one_before (numeric_reference s)
    else None

-- a `&` that begins no reference stands for itself
abbrev pub or_itself : Option Reference → Reference
or_itself None = record { gives = codes "&"; takes = 0 }
or_itself (Some r) = r

-- the characters of a value or a text, where so many bytes of a reference are still to pass
abbrev pub unescaped_after : Bool → ℕ → List ℕ → List ℕ
unescaped_after in_value n [] = []
unescaped_after in_value (suc n) (b ∷ s) = unescaped_after in_value n s
unescaped_after in_value zero (b ∷ s) =
    if b == 38 then (or_itself (reference in_value s)).gives
    ++ unescaped_after in_value (or_itself (reference in_value s)).takes s
    else b ∷ unescaped_after in_value 0 s

abbrev pub unescaped : Bool → List ℕ → List ℕ
unescaped in_value s = unescaped_after in_value 0 s

-- the characters of a text
abbrev pub unescaped_text : List ℕ → List ℕ
unescaped_text text = unescaped false text

-- the characters of a value
abbrev pub unescaped_value : List ℕ → List ℕ
unescaped_value value = unescaped true value

-- what stands in a text, and in a value between double quotes
abbrev pub is_in_text : ℕ → Bool
is_in_text b = not (b == 60)

abbrev pub is_in_value : ℕ → Bool
is_in_value b = not ((b == 34) || (b == 0))
