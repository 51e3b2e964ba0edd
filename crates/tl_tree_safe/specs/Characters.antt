-- Characters of texts and values.
use Rattle.std.specs.Prelude.{Bool, List, [], false, filter, if◌then◌else◌, map, not, true, ℕ, ◌&&◌, ◌==◌, ◌||◌, ◌∷◌}

-- a carriage return, which only a reference gives, is shown as a space, and would be read as a line
-- feed
abbrev pub said_byte : ℕ → ℕ
said_byte b = if b == 13 then 32 else b

-- neither 0, nor 27, with which a text of another character set begins
abbrev pub is_said : ℕ → Bool
is_said b = not (b == 0) && not (b == 27)

-- what stays of a text or a value
abbrev pub cleaned : List ℕ → List ℕ
cleaned bytes = filter is_said (map said_byte bytes)

-- the white space of ASCII
abbrev pub is_space : ℕ → Bool
is_space b = b == 32 || b == 9 || b == 10 || b == 12 || b == 13

-- a word that is not empty
abbrev pub is_word : List ℕ → Bool
is_word [] = false
is_word (b ∷ word) = true
