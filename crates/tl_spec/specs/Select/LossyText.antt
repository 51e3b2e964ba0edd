-- Tests of a value by its lossy text, in which a replacement character stands for bytes that are no
-- UTF-8.
use Rattle.std.specs.Prelude.{◌≡◌, ◌≢◌, ℕ, List, [], ◌++◌}
use Rattle.std.specs.Char.{is_whitespace}
use Rattle.std.specs.List.{Contains, slice_split}
use Rattle.std.specs.Str.Lossy.{utf8_lossy}
use Rattle.bstr.specs.Utf8.{lossy_chars}

-- both have the same text
abbrev pub IsSameText : List ℕ → List ℕ → Type 0
IsSameText value other = utf8_lossy value ≡ utf8_lossy other

-- the text of a value begins with that of front
abbrev pub BeginsWith : List ℕ → List ℕ → Type 0
BeginsWith value front = (rest : List ℕ) × (utf8_lossy value ≡ utf8_lossy front ++ rest)

-- the text of a value ends with that of back
abbrev pub EndsWith : List ℕ → List ℕ → Type 0
EndsWith value back = (rest : List ℕ) × (utf8_lossy value ≡ rest ++ utf8_lossy back)

-- the text of part stands in that of a value
abbrev pub HasPart : List ℕ → List ℕ → Type 0
HasPart value part =
    (before : List ℕ) × (behind : List ℕ) × (utf8_lossy value ≡ before ++ utf8_lossy part ++ behind)

-- the words of a value's text, in characters: its parts between Unicode white space, of which some
-- may be empty
abbrev pub words : List ℕ → List (List ℕ)
words value = slice_split is_whitespace (lossy_chars value)

-- the text of word, which is not empty, is one of the words of a value's
pub record HasWord (value word : List ℕ) : Type 0 where
  pub some : word ≢ []
  pub among : Contains (words value) (lossy_chars word)
