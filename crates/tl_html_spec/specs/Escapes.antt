-- Characters written as a text or a value.
use Rattle.std.specs.Prelude.{ℕ, ◌==◌, List, [], ◌∷◌, flat_map, codes, if◌then◌else◌}

-- a character of a text
abbrev pub text_escape : ℕ → List ℕ
text_escape b = if b == 38 then codes "&amp;" else if b == 60 then codes "&lt;" else b ∷ []

-- a character of a value, which stands between double quotes
abbrev pub value_escape : ℕ → List ℕ
value_escape b = if b == 38 then codes "&amp;" else if b == 34 then codes "&quot;" else b ∷ []

abbrev pub escaped_text : List ℕ → List ℕ
escaped_text text = flat_map text_escape text

abbrev pub escaped_value : List ℕ → List ℕ
escaped_value value = flat_map value_escape value
