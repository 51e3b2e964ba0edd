-- The attributes of a tag, one after the other, as the HTML standard's prescan gets them ("get an
-- attribute"). Where the bytes run out there is nothing left, which is no end of a tag.
use Rattle.std.specs.Prelude.{ℕ, Bool, ◌+◌, ◌==◌, List, [], ◌∷◌, Option, Some, None, true, drop, length, suc, take, zero, if◌then◌else◌}
use Rattle.std.specs.List.{prefix_len, take_while}
use Rattle.std.specs.Str.{str_eq_ignore_ascii_case}
use Rattle.tl_encoding.specs.Runs.{after, after_equals, is_of, is_quote}
use Rattle.tl_encoding.specs.declared.run.ByteClass.TheVariants.{Space, Gap, Key, Bare, Except}

-- how many bytes a key has: its first byte may be an equals sign
abbrev pub key_len : List ℕ → ℕ
key_len [] = 0
key_len (b ∷ s) = 1 + prefix_len (is_of Key) s

abbrev pub key : List ℕ → List ℕ
key bytes = take (key_len bytes) bytes

abbrev pub after_key : List ℕ → List ℕ
after_key bytes = drop (key_len bytes) bytes

-- a value, between quotes or bare, and what stands after it
abbrev pub written_value : List ℕ → List ℕ
written_value [] = []
written_value (b ∷ s) =
    if is_quote b then take_while (is_of (Except b)) s else take_while (is_of Bare) (b ∷ s)

abbrev pub after_value : List ℕ → List ℕ
after_value [] = []
after_value (b ∷ s) = if is_quote b then drop 1 (after (Except b) s) else after Bare (b ∷ s)

-- a key without an equals sign has the empty value
abbrev pub value_of : Option (List ℕ) → List ℕ
value_of None = []
value_of (Some written) = written_value written

abbrev pub value : List ℕ → List ℕ
value bytes = value_of (after_equals Space (after_key bytes))

-- where the next attribute stands
abbrev pub next_of : List ℕ → Option (List ℕ) → List ℕ
next_of bytes None = after Gap (after_key bytes)
next_of bytes (Some written) = after Gap (after_value written)

abbrev pub next : List ℕ → List ℕ
next bytes = next_of bytes (after_equals Space (after_key bytes))

-- no attribute stands here: `>` does, or the bytes ran out
abbrev pub is_end : List ℕ → Bool
is_end [] = true
is_end (b ∷ s) = b == 62

abbrev pub is_named : List ℕ → List ℕ → Bool
is_named word bytes = str_eq_ignore_ascii_case (key bytes) word

-- of at most so many attributes the value of the first with this key: of equal keys it counts
abbrev pub value_among : ℕ → List ℕ → List ℕ → Option (List ℕ)
value_among zero word bytes = None
value_among (suc n) word bytes =
    if is_end bytes then None
    else if is_named word bytes then Some (value bytes)
    else value_among n word (next bytes)

-- what stands after at most so many attributes
abbrev pub after_attributes : ℕ → List ℕ → List ℕ
after_attributes zero bytes = bytes
after_attributes (suc n) bytes = if is_end bytes then bytes else after_attributes n (next bytes)

-- the value at a key of the tag whose attributes begin here: each has a byte at least
abbrev pub value_at : List ℕ → List ℕ → Option (List ℕ)
value_at word tag = value_among (length tag) word (after Gap tag)

-- the end of that tag, at its `>`; nothing where the bytes run out
abbrev pub tag_end : List ℕ → List ℕ
tag_end tag = after_attributes (length tag) (after Gap tag)
