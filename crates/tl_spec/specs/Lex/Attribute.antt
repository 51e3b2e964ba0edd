-- Attributes as they stand in a start tag.
use Rattle.std.specs.Prelude.{ℕ, ◌||◌, ◌==◌, List, [], ◌∷◌, length, Option, Some, None, take_while, if◌then◌else◌}
use Rattle.std.specs.List.{before_first}
use Rattle.tl_spec.specs.Lex.ByteClass.{is_blank, is_ident, is_name, is_closing, ends_value, is_quote, greater, equals}
use Rattle.tl_spec.specs.Lex.Runs.{drop_while, drop_until, read_many}

-- a key, and its value where it has one
abbrev pub Pair : Type 0
Pair = List ℕ × Option (List ℕ)

-- what stands after blanks
abbrev pub skip_blanks : List ℕ → List ℕ
skip_blanks s = drop_while is_blank s

-- the value at the front: up to the same quote, or without a quote up to a byte that ends it; and
-- what stands from its end on
abbrev pub value : List ℕ → List ℕ × List ℕ
value [] = ([], [])
value (b ∷ s) =
    if is_quote b then (before_first (λ c. c == b) s, drop_until (λ c. c == b) s)
    else (before_first ends_value (b ∷ s), drop_until ends_value (b ∷ s))

-- the value after `=` and blanks, where a `=` stands at the front; and what stands from its end on
abbrev pub optional_value : List ℕ → Option (List ℕ) × List ℕ
optional_value [] = (None, [])
optional_value (b ∷ s) =
    if b == equals then (let v = value (skip_blanks s) in (Some v.0, v.1)) else (None, b ∷ s)

-- what stands after the end of an attribute: one byte is passed over, unless it is `>` or ident
abbrev pub skip_end : List ℕ → List ℕ
skip_end [] = []
skip_end (b ∷ s) = if (b == greater) || is_ident b then b ∷ s else s

-- the attribute at the front, and what stands after it
abbrev pub attribute : List ℕ → Pair × List ℕ
attribute s = let v = optional_value (skip_blanks (drop_while is_name s)) in
    ((take_while is_name s, v.0), skip_end v.1)

-- the attribute at the front, and what stands after it and blanks; none at `/`, `>` or the end
abbrev pub next_attribute : List ℕ → Option (Pair × List ℕ)
next_attribute [] = None
next_attribute (b ∷ s) =
    if is_closing b then None else (let a = attribute (b ∷ s) in Some (a.0, skip_blanks a.1))

-- all attributes at the front, and what stands after them
abbrev pub attributes : List ℕ → List Pair × List ℕ
attributes s = read_many next_attribute (length s) s
