-- Names, strings and white space at the front of a text.
use Rattle.std.specs.Prelude.{ℕ, Bool, true, false, ◌&&◌, ◌||◌, ◌==◌, if◌then◌else◌, List, [], ◌∷◌, ◌++◌, length, take, drop, Option, Some, None, is_some, option_map, encode_utf8, codes, Ok}
use Rattle.std.specs.List.{take_while, list_any}
use Rattle.std.specs.Str.{byte, bytes_eq, str_to_ascii_lowercase}
use Rattle.tl_spec.specs.Lex.Runs.{after_needle, read_many}
use Rattle.tl_css.specs.declared.error.Cause.TheVariants.{Unclosed, NoName}
use Rattle.tl_css.specs.Bytes.{is_newline, is_white, is_name_byte, is_string_byte, backslash, is_hex, hex_number, char_of}
use Rattle.tl_css.specs.Read.{Read, wrong}
use Rattle.tl_css.specs.Selector.{Ident, ident_of}

-- what stands after a byte of white space; a line end of two bytes is one
abbrev pub past_white : List ℕ → List ℕ
past_white [] = []
past_white (b ∷ []) = []
past_white (b ∷ c ∷ s) = if (b == 0x0D) && (c == 0x0A) then s else c ∷ s

abbrev pub begins : (ℕ → Bool) → List ℕ → Bool
begins p [] = false
begins p (b ∷ s) = p b

-- one byte of white space after an escape belongs to it
abbrev pub past_escape : List ℕ → List ℕ
past_escape s = if begins is_white s then past_white s else s

abbrev pub escape_by : List ℕ → List ℕ → List ℕ × List ℕ
escape_by [] [] = ([], [])
escape_by [] (b ∷ s) = (b ∷ [], s)
escape_by (d ∷ ds) s =
    (encode_utf8 (char_of (hex_number 0 (d ∷ ds))), past_escape (drop (length (d ∷ ds)) s))

-- what an escape stands for, from after its backslash on, and what stands after it: a character by
-- its number, of one to six hex digits, or a byte as it is (the other bytes of a character stand
-- for themselves)
abbrev pub escape_at : List ℕ → List ℕ × List ℕ
escape_at s = escape_by (take_while is_hex (take 6 s)) s

-- a byte that stands for itself: in a name, or between quotes
abbrev pub is_plain : Option ℕ → ℕ → Bool
is_plain None b = is_name_byte b
is_plain (Some quote) b = is_string_byte quote b

-- after a backslash: an escape, but before a line end there is none in a name, and it stands for
-- nothing in a string
abbrev pub escaped_at : Option ℕ → List ℕ → Option (List ℕ × List ℕ)
escaped_at quote [] = None
escaped_at quote (c ∷ s) =
    if is_newline c then (if is_some quote then Some ([], past_white (c ∷ s)) else None)
    else Some (escape_at (c ∷ s))

-- the first part of a name, or of what stands between quotes: what it stands for, and what stands
-- after it
abbrev pub part_at : Option ℕ → List ℕ → Option (List ℕ × List ℕ)
part_at quote [] = None
part_at quote (b ∷ s) =
    if is_plain quote b then Some (b ∷ [], s)
    else (if b == backslash then escaped_at quote s else None)

-- all its parts
abbrev pub parts_at : Option ℕ → List ℕ → List (List ℕ) × List ℕ
parts_at quote s = read_many (part_at quote) (length s) s

abbrev pub joined : List (List ℕ) → List ℕ
joined [] = []
joined (p ∷ ps) = p ++ joined ps

-- the longest run of such parts: what it stands for, which may be nothing, and what stands after it
unfoldable pub run_at : Option ℕ → List ℕ → List ℕ × List ℕ
run_at quote s = (joined (parts_at quote s).0, (parts_at quote s).1)

abbrev pub begins_name : List ℕ → Bool
begins_name s = is_some (part_at None s)

-- a name
abbrev pub name_at : List ℕ → Read (List ℕ)
name_at s = if begins_name s then Ok (run_at None s) else wrong s NoName

-- a name, in lower case
abbrev pub lower_run : List ℕ → List ℕ
lower_run s = str_to_ascii_lowercase (run_at None s).0

-- the same as a name or a key
abbrev pub ident_run : List ℕ → Ident
ident_run s = ident_of (run_at None s).0

-- this keyword, as a name in any case
abbrev pub is_word : List ℕ → List ℕ → Bool
is_word s word = bytes_eq (lower_run s) word

-- White space

abbrev pub begins_comment : List ℕ → Bool
begins_comment [] = false
begins_comment (b ∷ []) = false
begins_comment (b ∷ c ∷ s) = (b == byte "/") && (c == byte "*")

-- what stands after a comment, if it is closed
abbrev pub after_comment : List ℕ → Option (List ℕ)
after_comment s = if begins_comment s then after_needle (codes "*/") (drop 2 s) else None

-- a comment, which is no white space
abbrev pub comment_at : List ℕ → Option (Bool × List ℕ)
comment_at s = option_map (λ rest. (false, rest)) (after_comment s)

-- what stands after the comments at the front: there may be some between the parts of a simple
-- selector, and no white space
unfoldable pub past_comments : List ℕ → List ℕ
past_comments s = (read_many comment_at (length s) s).1

-- a byte of white space, which is `true`, or a comment
abbrev pub gap_part_at : List ℕ → Option (Bool × List ℕ)
gap_part_at [] = None
gap_part_at (b ∷ s) = if is_white b then Some (true, s) else comment_at (b ∷ s)

abbrev pub gap_result : Bool → List ℕ → Read Bool
gap_result white rest = if begins_comment rest then wrong rest Unclosed else Ok (white, rest)

abbrev pub gap_after : Bool → List Bool × List ℕ → Read Bool
gap_after white parts = gap_result (white || list_any (λ white. white) parts.0) parts.1

-- all white space and comments: whether there is white space
unfoldable pub gap_at : List ℕ → Read Bool
gap_at s = gap_after false (read_many gap_part_at (length s) s)
