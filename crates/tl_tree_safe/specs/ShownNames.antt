-- Names of a page as they are shown, so that no byte of them acts on a terminal.
use Rattle.std.specs.Prelude.{Bool, List, [], codes, flat_map, if◌then◌else◌, nat_lt, not, ℕ, ◌%◌, ◌&&◌, ◌++◌, ◌/◌, ◌==◌, ◌∷◌}
use Rattle.tl_html_spec.specs.Digits.{digit_in, digits}

-- printable ASCII without `\`
abbrev pub is_printable : ℕ → Bool
is_printable b = nat_lt 32 b && nat_lt b 127 && not (b == 92)

-- it stands for itself, and any other byte is its number, as `\x1b`
abbrev pub shown_byte : ℕ → List ℕ
shown_byte b =
    if is_printable b then b ∷ []
    else 92 ∷ 120 ∷ digit_in digits (b / 16) ∷ digit_in digits (b % 16) ∷ []

abbrev pub shown : List ℕ → List ℕ
shown name = flat_map shown_byte name
