-- How keys on the heap are hashed. No public clause cites this module.
use Rattle.std.specs.Prelude.{ℕ, ◌*◌, ◌%◌, ◌^◌, ◌==◌, List, length, fold, cond, bit_xor}
use Rattle.std.specs.Int.{w64, from_le_bytes}
use Rattle.tl_inline.specs.declared.inline.hashmap.heap.hasher.ShortHasher.{ShortHasher}

-- nothing is fed yet
abbrev pub empty_hash : ShortHasher
empty_hash = record { state = 0x243f_6a88_85a3_08d3 }

-- one number more, below 2 ^ 64
abbrev pub with_number : ShortHasher → ℕ → ShortHasher
with_number hasher number =
    record { state = (bit_xor hasher.state number * 0x9e37_79b9_7f4a_7c15) % 2 ^ 64 }

-- more bytes: eight at once are one number, others are a number each
abbrev pub with_bytes : ShortHasher → List ℕ → ShortHasher
with_bytes hasher bytes = cond (length bytes == 8)
    (with_number hasher (from_le_bytes w64 bytes)) (fold with_number hasher bytes)
