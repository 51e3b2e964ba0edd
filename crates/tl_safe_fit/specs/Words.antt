-- Words as lists of bytes.
use Rattle.std.specs.Prelude.{ℕ, Bool, List, map}
use Rattle.std.specs.Borrow.{Bor}
use Rattle.std.specs.List.{list_any}
use Rattle.std.specs.Str.{bytes_eq}

-- lent words as lists of bytes
abbrev pub words_of : List (Bor (List ℕ)) → List (List ℕ)
words_of words = map (λ w. w.now) words

-- one of these words, in exact case
abbrev pub is_among : List (List ℕ) → List ℕ → Bool
is_among words word = list_any (bytes_eq word) words
