-- Names of elements that the rules of tree construction tell apart, as numbers.
use Rattle.std.specs.Prelude.{List, Option, [], get_or, if◌then◌else◌, length, map, slice_get, suc, ℕ, ◌*◌, ◌+◌, ◌-◌, ◌/◌, ◌%◌, ◌∷◌}
use Rattle.std.specs.Str.{bytes_eq}
use Rattle.tl_names.specs.declared.element_name.ElementName.{ElementName}
use Rattle.tl_names.specs.declared.element_tables.TheConstants.{NAMES}

-- the names: `laws` has each once more
unfoldable pub element_names : List (List ℕ)
element_names = map (λ own. own.now) NAMES

-- the place of a name in a list, or the list's length
abbrev pub place_in : List (List ℕ) → List ℕ → ℕ
place_in [] n = 0
place_in (own ∷ names) n = if bytes_eq n own then 0 else suc (place_in names n)

-- the name of these bytes: its place, and one number for all others
unfoldable pub name_of : List ℕ → ElementName
name_of n = record { number = place_in element_names n }

abbrev pub number_of : ElementName → ℕ
number_of name = name.number

unfoldable pub text_of : ElementName → Option (List ℕ)
text_of name = slice_get element_names name.number

-- the bytes of a name, and none of another
unfoldable pub bytes_of : ElementName → List ℕ
bytes_of name = get_or element_names name.number []

-- the slot of a name by four of its bytes
abbrev pub slot_of : List ℕ → ℕ
slot_of n =
    (get_or n 0 0 * 409 + get_or n (length n / 4) 0 * 664
    + get_or n (length n / 2 + length n / 7) 0 * 312 + get_or n (length n - 1) 0 * 929) % 1024
