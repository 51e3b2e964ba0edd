-- Runs of bytes of a class, as the HTML standard's prescan skips and collects them.
use Rattle.std.specs.Prelude.{ℕ, Bool, not, ◌||◌, ◌==◌, List, [], ◌∷◌, Option, Some, None, false, drop, length, nat_eq, nat_le, take, if◌then◌else◌}
use Rattle.std.specs.Char.{is_ascii_alphabetic, is_ascii_whitespace}
use Rattle.std.specs.List.{prefix_len, starts_with}
use Rattle.std.specs.Str.{str_eq_ignore_ascii_case}
use Rattle.tl_encoding.specs.declared.run.ByteClass.{ByteClass}
use Rattle.tl_encoding.specs.declared.run.ByteClass.TheVariants.{Space, Blank, Gap, Key, Bare, Label, Letter, Except}

-- white space; spaces and control characters; what stands between attributes; what a key is made of
-- after its first byte; a value without quotes, and a tag before its attributes; a label in a text;
-- letters; all but one byte
abbrev pub is_of : ByteClass → ℕ → Bool
is_of Space b = is_ascii_whitespace b
is_of Blank b = nat_le b 32
is_of Gap b = is_ascii_whitespace b || (b == 47)
is_of Key b = not (is_ascii_whitespace b || (b == 47) || (b == 61) || (b == 62))
is_of Bare b = not (is_ascii_whitespace b || (b == 62))
is_of Label b = not (is_ascii_whitespace b || (b == 59))
is_of Letter b = is_ascii_alphabetic b
is_of (Except other) b = not (b == other)

-- what stands after the bytes of a class in front
abbrev pub after : ByteClass → List ℕ → List ℕ
after class bytes = drop (prefix_len (is_of class) bytes) bytes

-- whether the first byte is of a class
abbrev pub begins_of : ByteClass → List ℕ → Bool
begins_of class [] = false
begins_of class (b ∷ s) = is_of class b

-- whether bytes begin with a word, in any case
abbrev pub begins_with : List ℕ → List ℕ → Bool
begins_with word bytes = str_eq_ignore_ascii_case (take (length word) bytes) word

-- whether bytes begin with others, in the same case
abbrev pub begins : List ℕ → List ℕ → Bool
begins word bytes = starts_with nat_eq bytes word

-- bytes from the first place on where they begin with a word, in the same case
abbrev pub from_word : List ℕ → List ℕ → List ℕ
from_word word [] = []
from_word word (b ∷ s) = if begins word (b ∷ s) then b ∷ s else from_word word s

-- what stands after an equals sign with bytes of a class around it, if that is next
abbrev pub rest_after_equals : ByteClass → List ℕ → Option (List ℕ)
rest_after_equals class [] = None
rest_after_equals class (b ∷ s) = if b == 61 then Some (after class s) else None

abbrev pub after_equals : ByteClass → List ℕ → Option (List ℕ)
after_equals class bytes = rest_after_equals class (after class bytes)

abbrev pub is_quote : ℕ → Bool
is_quote b = (b == 34) || (b == 39)
