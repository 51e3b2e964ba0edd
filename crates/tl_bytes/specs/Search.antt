-- What a search of bytes answers.
use Rattle.std.specs.Prelude.{ℕ, Bool, ◌==◌, not, if◌then◌else◌, List, Option}
use Rattle.std.specs.Int.{w64, trailing_zeros}
use Rattle.std.specs.List.{list_any, position}
use Rattle.tl_spec.specs.Lex.ByteClass.{is_ident, is_name}

-- the first place whose byte is of this class, if there is one
abbrev pub first : (ℕ → Bool) → List ℕ → Option ℕ
first class bytes = position class bytes

-- the class of these bytes
abbrev pub is_one_of : List ℕ → ℕ → Bool
is_one_of needles b = list_any (λ needle. b == needle) needles

-- the class of what no doctype's word holds
abbrev pub is_not_ident : ℕ → Bool
is_not_ident b = not (is_ident b)

-- the class of what no name of a tag or an attribute holds
abbrev pub is_not_name : ℕ → Bool
is_not_name b = not (is_name b)

-- the place of the lowest bit that is set in a mask of sixteen, or 16
abbrev pub lowest_bit : ℕ → ℕ
lowest_bit mask = if mask == 0 then 16 else trailing_zeros w64 mask
