-- The members of a class.
use Rattle.std.specs.Prelude.{ℕ, Bool, List, [], filter, Option, Some, None, unwrap_or, if◌then◌else◌}
use Rattle.std.specs.Char.{is_ascii_whitespace}
use Rattle.std.specs.List.{list_any, slice_split}
use Rattle.std.specs.Str.{is_utf8, bytes_eq}
use Rattle.tl_spec.specs.Lex.Runs.{has_bytes}

-- the nonempty parts between ASCII white space
abbrev pub parts : List ℕ → List (List ℕ)
parts value = filter has_bytes (slice_split is_ascii_whitespace value)

-- the parts of a class, where there is one and it is UTF-8
abbrev pub class_parts : Option (List ℕ) → Option (List (List ℕ))
class_parts None = None
class_parts (Some value) = if is_utf8 value then Some (parts value) else None

-- the members of a class: its parts, if it has any
abbrev pub members : Option (List ℕ) → List (List ℕ)
members class = unwrap_or (class_parts class) []

-- whether a name is a member of a class
abbrev pub has_member : Option (List ℕ) → List ℕ → Bool
has_member class name = list_any (bytes_eq name) (members class)
