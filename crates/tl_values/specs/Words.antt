-- Words of a value, as those of a class: one more, or one less.
use Rattle.std.specs.Char.{is_ascii_whitespace}
use Rattle.std.specs.List.{list_any}
use Rattle.std.specs.Option.{option_map, unwrap_or}
use Rattle.std.specs.Prelude.{Bool, List, [], filter, flat_map, if◌then◌else◌, length, not, slice_get, true, ℕ, ◌++◌, ◌-◌, ◌∷◌}
use Rattle.std.specs.Str.{bytes_eq}
use Rattle.tl_tree.specs.Below.{words_of}

abbrev pub has_word : List ℕ → List ℕ → Bool
has_word word value = list_any (λ own. bytes_eq own word) (words_of value)

-- whether a word can follow at once: at the begin, and behind white space
abbrev pub is_apart : List ℕ → Bool
is_apart value =
    unwrap_or (option_map is_ascii_whitespace (slice_get value (length value - 1))) true

-- the value with a word more, unless it has it; what stands there stays as it is
abbrev pub with_word : List ℕ → List ℕ → List ℕ
with_word word value =
    if has_word word value then value
    else if is_apart value then value ++ word
    else value ++ 32 ∷ word

-- words with a space between them
abbrev pub spaced : List (List ℕ) → List ℕ
spaced [] = []
spaced (word ∷ words) = word ++ flat_map (λ other. 32 ∷ other) words

abbrev pub is_other : List ℕ → List ℕ → Bool
is_other word own = not (bytes_eq own word)

-- the value without a word: its other words, with a space between them. Where it lacks the word it
-- stays as it is
abbrev pub without_word : List ℕ → List ℕ → List ℕ
without_word word value =
    if has_word word value then spaced (filter (is_other word) (words_of value)) else value
