-- Classes, and patterns that match them.
use Rattle.std.specs.List.{ends_with, filter, join_with_byte, list_all, list_any, slice_split, starts_with}
use Rattle.std.specs.Prelude.{Bool, List, codes, if◌then◌else◌, length, not, take, ℕ, ◌-◌, ◌&&◌, ◌==◌, ◌||◌}
use Rattle.std.specs.Str.{bytes_eq}
use Rattle.tl_tree_safe.specs.Characters.{is_space, is_word}

-- what stands before the last character
abbrev pub before_last : List ℕ → List ℕ
before_last pattern = take (length pattern - 1) pattern

-- A pattern stands for a whole word: one that ends with `*` for each that begins with what stands
-- before that, and another one for itself alone
abbrev pub pattern_matches : List ℕ → List ℕ → Bool
pattern_matches pattern word =
    if ends_with ◌==◌ pattern (codes "*")
    then starts_with ◌==◌ word (before_last pattern)
    else bytes_eq word pattern

-- one of these patterns matches a word
abbrev pub some_matches : List (List ℕ) → List ℕ → Bool
some_matches patterns word = list_any (λ pattern. pattern_matches pattern word) patterns

-- a word that is not empty, and a pattern matches it
abbrev pub is_class_of : List (List ℕ) → List ℕ → Bool
is_class_of patterns word = is_word word && some_matches patterns word

-- what stands between white space, and this may be nothing
abbrev pub class_words : List ℕ → List (List ℕ)
class_words value = slice_split is_space value

-- the words that patterns match, in their order, with one space between
abbrev pub kept_classes : List (List ℕ) → List ℕ → List ℕ
kept_classes patterns value =
    join_with_byte 32 (filter (is_class_of patterns) (class_words value))

-- no white space but a space
abbrev pub is_plain_space : ℕ → Bool
is_plain_space b = not (is_space b) || b == 32

-- words that patterns match, one or more, with one space between
abbrev pub are_classes : List (List ℕ) → List ℕ → Bool
are_classes patterns value =
    list_all (is_class_of patterns) (class_words value) && list_all is_plain_space value
