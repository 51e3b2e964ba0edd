-- Classes, written one after the other.
use Rattle.std.specs.Borrow.{Bor}
use Rattle.std.specs.List.{join_with_byte}
use Rattle.std.specs.Prelude.{Bool, List, None, Option, Some, [], if◌then◌else◌, ℕ, ◌∷◌}
use Rattle.tl_tree_safe.specs.Classes.{class_words}

-- the words of what is left of a value, if anything is
abbrev pub words_left : Option (Bor (List ℕ)) → List (List ℕ)
words_left None = []
words_left (Some rest) = class_words rest.now

-- a word, behind a space where others stand before it
abbrev pub spaced_word : Bool → List ℕ → List ℕ
spaced_word is_first word = if is_first then word else 32 ∷ word

-- words with one space between, and one before them where others stand there
abbrev pub spaced_words : Bool → List (List ℕ) → List ℕ
spaced_words is_first [] = []
spaced_words is_first (word ∷ words) = spaced_word is_first (join_with_byte 32 (word ∷ words))
