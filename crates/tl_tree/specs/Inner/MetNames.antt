-- Numbers of names of elements: those of names that differ in case alone are the same.
use Rattle.std.specs.Char.{to_ascii_lowercase}
use Rattle.std.specs.Map.{lookup}
use Rattle.std.specs.Prelude.{List, Option, Some, Vec, cond, map, nat_eq, ℕ}
use Rattle.std.specs.Str.{bytes_eq}
use Rattle.std.specs.declared.alloc.Global.{Global}
use Rattle.tl_names.specs.ElementNames.{name_of}
use Rattle.tl_names.specs.declared.element_name.TheConstants.ElementName.{OTHER}
use Rattle.tl_tree.specs.declared.met_names.MetNames.{MetNames}

abbrev pub in_lower_case : List ℕ → List ℕ
in_lower_case name = map to_ascii_lowercase name

-- of a name that was met
abbrev pub number_among : List (Vec ℕ Global × ℕ) → List ℕ → Option ℕ
number_among entries name = lookup (λ (own : Vec ℕ Global). bytes_eq name own.items) entries

-- of a name in lower case: a name that is known has its own
unfoldable pub lowered_number : MetNames → List ℕ → Option ℕ
lowered_number names name =
    cond
    (nat_eq (name_of name).number OTHER.number)
    (number_among names.numbers.entries name)
    (Some (name_of name).number)

abbrev pub number_in : MetNames → List ℕ → Option ℕ
number_in names name = lowered_number names (in_lower_case name)
