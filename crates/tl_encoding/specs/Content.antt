-- The label in the `content` of a tag `meta`, as the HTML standard extracts it ("extracting a
-- character encoding from a meta element").
use Rattle.std.specs.Prelude.{ℕ, List, [], ◌∷◌, Option, Some, None, codes, drop, length, nat_lt, if◌then◌else◌}
use Rattle.std.specs.List.{prefix_len, take_while}
use Rattle.std.specs.Option.{option_and_then, option_or}
use Rattle.tl_encoding.specs.Runs.{after_equals, begins_with, is_of, is_quote}
use Rattle.tl_encoding.specs.declared.run.ByteClass.TheVariants.{Space, Except, Label}

-- what stands after `charset` and an equals sign, where they stand
abbrev pub charset_at : List ℕ → Option (List ℕ)
charset_at bytes =
    if begins_with (codes "charset") bytes then after_equals Space (drop 7 bytes) else None

-- what is said at the first place that says something
abbrev pub first_said : (List ℕ → Option (List ℕ)) → List ℕ → Option (List ℕ)
first_said at [] = None
first_said at (b ∷ s) = option_or (at (b ∷ s)) (first_said at s)

-- the bytes before a quote, if it stands there
abbrev pub until : ℕ → List ℕ → Option (List ℕ)
until quote bytes =
    if nat_lt (prefix_len (is_of (Except quote)) bytes) (length bytes)
    then Some (take_while (is_of (Except quote)) bytes)
    else None

-- a label between quotes or bare: none where its quote doesn't come again
abbrev pub written_label : List ℕ → Option (List ℕ)
written_label [] = None
written_label (b ∷ s) =
    if is_quote b then until b s else Some (take_while (is_of Label) (b ∷ s))

abbrev pub content_label : List ℕ → Option (List ℕ)
content_label content = option_and_then written_label (first_said charset_at content)
