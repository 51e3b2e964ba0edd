-- Tests of characters one by one: what the loops compute.
use Rattle.std.specs.Prelude.{ℕ, Bool, true, false, ◌==◌, ◌&&◌, ◌||◌, if◌then◌else◌, List, [], ◌∷◌, Option, Some, None}
use Rattle.std.specs.Char.{is_whitespace}

-- the characters begin with those of front
abbrev pub begins : List ℕ → List ℕ → Bool
begins value [] = true
begins [] (c ∷ front) = false
begins (d ∷ value) (c ∷ front) = (d == c) && begins value front

-- the characters are the same
abbrev pub same : List ℕ → List ℕ → Bool
same [] [] = true
same [] (c ∷ other) = false
same (d ∷ value) [] = false
same (d ∷ value) (c ∷ other) = (d == c) && same value other

-- the characters of part stand at the front or further on
abbrev pub has_part : List ℕ → List ℕ → Bool
has_part [] part = begins [] part
has_part (d ∷ value) part = begins (d ∷ value) part || has_part value part

-- what is left of a word after one character more, if it goes on so
abbrev pub advance : Option (List ℕ) → ℕ → Option (List ℕ)
advance None c = None
advance (Some []) c = None
advance (Some (d ∷ left)) c = if d == c then Some left else None

-- nothing of the word is left
abbrev pub is_done : Option (List ℕ) → Bool
is_done None = false
is_done (Some []) = true
is_done (Some (d ∷ left)) = false

-- a word of the value is word, where left is what its first one has yet to say
abbrev pub scan : List ℕ → Option (List ℕ) → List ℕ → Bool
scan word left [] = is_done left
scan word left (c ∷ value) = if is_whitespace c then is_done left || scan word (Some word) value
    else scan word (advance left c) value
