-- What lines of steps say, and which lines say an edit.
use Rattle.std.specs.Prelude.{ℕ, ◌+◌, ◌-◌, ◌*◌, ◌≤◌, ◌≡◌, ◌≢◌, Bool, ◌&&◌, List, [], ◌∷◌, ◌++◌, Option, None, Some, All, length, filter, map, if◌then◌else◌, nat_lt, nat_le, ◌==◌, codes}
use Rattle.std.specs.Option.{option_map, option_and_then, option_or}
use Rattle.std.specs.List.{before_first, after_first, slice_split}
use Rattle.std.specs.Str.{all_ascii_digits, byte, bytes_eq}
use Rattle.tl_spec.specs.Lex.ByteClass.{space, line_feed, largest_u32, is_space}
use Rattle.tl_spec.specs.Lex.Runs.{has_bytes}
use Rattle.tl_spec.specs.Edit.{Change, Names, Texts, Comments, Sets, Flags, Unsets, Bares, Pushes, Pulls, Roots}

abbrev pub is_line_feed : ℕ → Bool
is_line_feed b = b == line_feed

-- the number that digits write after those of n
abbrev pub continue_number : ℕ → List ℕ → ℕ
continue_number n [] = n
continue_number n (digit ∷ digits) = continue_number (10 * n + (digit - byte "0")) digits

-- one or more decimal digits of a value of at most 4294967295, the largest `u32`
abbrev pub is_number : List ℕ → Bool
is_number digits = nat_lt 0 (length digits)
    && (all_ascii_digits digits && nat_le (continue_number 0 digits) largest_u32)

abbrev pub number_of : List ℕ → Option ℕ
number_of digits = if is_number digits then Some (continue_number 0 digits) else None

-- the word up to the first space, or to the end
abbrev pub first_word : List ℕ → List ℕ
first_word bytes = before_first is_space bytes

-- what stands after the first space, and nothing where there is none
abbrev pub after_word : List ℕ → List ℕ
after_word bytes = after_first is_space bytes

-- the edit that a word says of a number and a text, if it is a word of such an edit
abbrev pub change_of_text : List ℕ → ℕ → List ℕ → Option Change
change_of_text word n text =
    if bytes_eq word (codes "name") then Some (Names n text)
    else if bytes_eq word (codes "text") then Some (Texts n text)
    else if bytes_eq word (codes "comment") then Some (Comments n text)
    else if bytes_eq word (codes "set") then Some (Sets n (first_word text) (after_word text))
    else if bytes_eq word (codes "flag") then Some (Flags n text)
    else if bytes_eq word (codes "unset") then Some (Unsets n text)
    else if bytes_eq word (codes "bare") then Some (Bares n text)
    else None

-- the edit that a word says of two numbers, if it is a word of such an edit
abbrev pub change_of_numbers : List ℕ → ℕ → ℕ → Option Change
change_of_numbers word n m =
    if bytes_eq word (codes "push") then Some (Pushes n m)
    else if bytes_eq word (codes "pull") then Some (Pulls n m)
    else if bytes_eq word (codes "root") then Some (Roots n m)
    else None

-- the edit that a word says of a number and what stands after it: a text, or a second number
abbrev pub change_of_word : List ℕ → ℕ → List ℕ → Option Change
change_of_word word n text =
    option_or (change_of_text word n text)
    (option_and_then (λ m. change_of_numbers word n m) (number_of text))

-- what is made of a number and of all that stands after its space
abbrev pub change_with_number : (ℕ → List ℕ → Option Change) → List ℕ → Option Change
change_with_number made bytes =
    option_and_then (λ n. made n (after_word bytes)) (number_of (first_word bytes))

-- the edit that a line says: its first word tells the form, and the rest is read by it
abbrev pub change_by_word : List ℕ → List ℕ → Option Change
change_by_word word rest = change_with_number (change_of_word word) rest

-- what one line says, if anything
abbrev pub change_of_line : List ℕ → Option Change
change_of_line line = change_by_word (first_word line) (after_word line)

-- all of them, if each is there
abbrev pub all_some : List (Option Change) → Option (List Change)
all_some [] = Some []
all_some (None ∷ os) = None
all_some (Some x ∷ os) = option_map (λ xs. x ∷ xs) (all_some os)

-- what lines say, the empty ones left out
abbrev pub changes_of_lines : List (List ℕ) → Option (List Change)
changes_of_lines lines = all_some (map change_of_line (filter has_bytes lines))

-- what a text of step lines says, if each of its lines says an edit
abbrev pub parse_changes : List ℕ → Option (List Change)
parse_changes text = changes_of_lines (slice_split is_line_feed text)

-- a word, a space, and what stands after it
abbrev pub word_and_rest : List ℕ → List ℕ → List ℕ
word_and_rest word rest = word ++ space ∷ rest

-- the line of an edit, its numbers in the given digits
abbrev pub line_of : (ℕ → List ℕ) → Change → List ℕ
line_of digits (Names n name) = word_and_rest (codes "name") (word_and_rest (digits n) name)
line_of digits (Texts n text) = word_and_rest (codes "text") (word_and_rest (digits n) text)
line_of digits (Comments n text) = word_and_rest (codes "comment") (word_and_rest (digits n) text)
line_of digits (Sets n key value) =
    word_and_rest (codes "set") (word_and_rest (digits n) (word_and_rest key value))
line_of digits (Flags n key) = word_and_rest (codes "flag") (word_and_rest (digits n) key)
line_of digits (Unsets n key) = word_and_rest (codes "unset") (word_and_rest (digits n) key)
line_of digits (Bares n key) = word_and_rest (codes "bare") (word_and_rest (digits n) key)
line_of digits (Pushes n h) = word_and_rest (codes "push") (word_and_rest (digits n) (digits h))
line_of digits (Pulls n i) = word_and_rest (codes "pull") (word_and_rest (digits n) (digits i))
line_of digits (Roots i h) = word_and_rest (codes "root") (word_and_rest (digits i) (digits h))

-- digits that read as the number that they stand for, if that is not too large
abbrev pub ReadBack : (ℕ → List ℕ) → Type 0
ReadBack digits = (n : ℕ) → n ≤ largest_u32 → number_of (digits n) ≡ Some n

-- an edit whose numbers are not too large, with no space in the key of a set value
abbrev pub IsSpellable : Change → Type 0
IsSpellable (Names n name) = n ≤ largest_u32
IsSpellable (Texts n text) = n ≤ largest_u32
IsSpellable (Comments n text) = n ≤ largest_u32
IsSpellable (Sets n key value) = (n ≤ largest_u32) × All (λ b. b ≢ space) key
IsSpellable (Flags n key) = n ≤ largest_u32
IsSpellable (Unsets n key) = n ≤ largest_u32
IsSpellable (Bares n key) = n ≤ largest_u32
IsSpellable (Pushes n h) = (n ≤ largest_u32) × (h ≤ largest_u32)
IsSpellable (Pulls n i) = (n ≤ largest_u32) × (i ≤ largest_u32)
IsSpellable (Roots i h) = (i ≤ largest_u32) × (h ≤ largest_u32)

-- the lines of edits, with a line feed after each
abbrev pub lines_of : (ℕ → List ℕ) → List Change → List ℕ
lines_of digits [] = []
lines_of digits (c ∷ cs) = line_of digits c ++ line_feed ∷ lines_of digits cs

-- an edit that one line can say
abbrev pub IsLine : (ℕ → List ℕ) → Change → Type 0
IsLine digits c = IsSpellable c × All (λ b. b ≢ line_feed) (line_of digits c)
