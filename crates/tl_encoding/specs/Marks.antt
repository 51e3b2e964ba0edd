-- UTF-8 in which bytes are wrong, as a text that has each of them: where the decoder gives U+FFFD,
-- each byte that it stands for has a character of its own, its mark.
use Rattle.std.specs.Prelude.{ℕ, Bool, ◌+◌, ◌-◌, ◌==◌, ◌||◌, List, [], ◌∷◌, ◌++◌, drop, encode_utf8, false, flat_map, length, suc, take, zero, if◌then◌else◌}
use Rattle.std.specs.Int.{is_in_range}
use Rattle.std.specs.Str.Lossy.{after_first_chunk, utf8_invalid_len, utf8_valid_len}

-- the mark of a byte: one of the last 256 code points, which are of private use
abbrev pub mark : ℕ → ℕ
mark byte = 0x10FF00 + byte

abbrev pub is_mark : ℕ → Bool
is_mark point = is_in_range 0x10FF00 0x10FFFF point

abbrev pub has_mark : List ℕ → Bool
has_mark [] = false
has_mark (point ∷ points) = is_mark point || has_mark points

-- the marks of bytes, in UTF-8
abbrev pub marks : List ℕ → List ℕ
marks bytes = flat_map (λ b. encode_utf8 (mark b)) bytes

-- the first bytes for which U+FFFD stands
abbrev pub first_wrong : List ℕ → List ℕ
first_wrong bytes =
    let rest = drop (utf8_valid_len bytes) bytes in take (utf8_invalid_len rest) rest

-- the text of bytes, in UTF-8, with at most so many times U+FFFD
abbrev pub marked_within : ℕ → List ℕ → List ℕ
marked_within zero bytes = bytes
marked_within (suc n) bytes =
    if utf8_valid_len bytes == length bytes then bytes
    else take (utf8_valid_len bytes) bytes
    ++ (marks (first_wrong bytes) ++ marked_within n (after_first_chunk bytes))

-- the text of bytes, in UTF-8
abbrev pub marked : List ℕ → List ℕ
marked bytes = marked_within (length bytes) bytes

-- the bytes of a text with marks
abbrev pub unmarked_point : ℕ → List ℕ
unmarked_point point = if is_mark point then (point - 0x10FF00) ∷ [] else encode_utf8 point

abbrev pub unmarked : List ℕ → List ℕ
unmarked points = flat_map unmarked_point points
