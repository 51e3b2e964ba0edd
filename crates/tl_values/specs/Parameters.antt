-- The parameters of a URL's query, in the text of a value.
use Rattle.std.specs.List.{ends_with, join_with_byte, list_any, position_or_len, slice_split, starts_with}
use Rattle.std.specs.Prelude.{Bool, List, [], drop, filter, if◌then◌else◌, length, nat_lt, not, take, ℕ, ◌&&◌, ◌+◌, ◌++◌, ◌==◌, ◌∷◌}
use Rattle.std.specs.Str.{bytes_eq}

-- where the first such byte stands, or else the end
abbrev pub place_of : ℕ → List ℕ → ℕ
place_of byte text = position_or_len (λ b. b == byte) text

-- Names

-- A pattern stands for a whole name: its first `*` for any bytes, each other byte for itself
abbrev pub name_matches : List ℕ → List ℕ → Bool
name_matches pattern name =
    let star = place_of 42 pattern in
    if nat_lt star (length pattern)
    then starts_with ◌==◌ name (take star pattern)
    && ends_with ◌==◌ (drop star name) (drop (star + 1) pattern)
    else bytes_eq name pattern

-- URLs

-- what stands before the fragment
abbrev pub unfragmented : List ℕ → List ℕ
unfragmented value = take (place_of 35 value) value

abbrev pub fragment : List ℕ → List ℕ
fragment value = drop (place_of 35 value) value

-- what stands before the query
abbrev pub unasked : List ℕ → List ℕ
unasked value = take (place_of 63 (unfragmented value)) (unfragmented value)

-- what stands between the `?` and the fragment
abbrev pub query : List ℕ → List ℕ
query value = drop 1 (drop (place_of 63 (unfragmented value)) (unfragmented value))

-- what stands between the `&`
abbrev pub parameters_of : List ℕ → List (List ℕ)
parameters_of bytes = slice_split (λ b. b == 38) bytes

-- the name of a parameter, as it is written, is one of these
abbrev pub is_named : List ℕ → List ℕ → Bool
is_named pattern parameter = name_matches pattern (take (place_of 61 parameter) parameter)

abbrev pub is_other_named : List ℕ → List ℕ → Bool
is_other_named pattern parameter = not (is_named pattern parameter)

-- a query behind its mark; an empty one has none
abbrev pub marked : List ℕ → List ℕ
marked [] = []
marked (b ∷ bytes) = 63 ∷ b ∷ bytes

-- the value without the parameters of these names: the others with one `&` between. Where it has
-- none of them it stays as it is
abbrev pub without_parameters : List ℕ → List ℕ → List ℕ
without_parameters pattern value =
    let own = parameters_of (query value) in
    if list_any (is_named pattern) own
    then unasked value
    ++ marked (join_with_byte 38 (filter (is_other_named pattern) own))
    ++ fragment value
    else value
