-- Digests of what keys feed to a hasher. No public clause cites this module.
use Rattle.std.specs.Prelude.{ℕ, ◌*◌, ◌%◌, ◌^◌, ◌==◌, List, [], ◌∷◌, ◌++◌, length, take, drop, fold, cond, nat_le, min, bit_or, Option, Some, None}
use Rattle.std.specs.Option.{option_map_or}
use Rattle.sha2.specs.Sha256.{sha256}
use Rattle.tl_inline.specs.declared.inline.hashmap.heap.digest.Feed.{Feed}

-- two numbers below 2 ^ 128
abbrev pub Digest : Type 0
Digest = ℕ × ℕ

-- bytes after a beginning, the lowest 16 of them, as a number
abbrev pub number_of : ℕ → List ℕ → ℕ
number_of begin bytes = fold (λ n byte. bit_or ((n * 2 ^ 8) % 2 ^ 128) byte) begin bytes

-- the bytes up to a place and those from it on, each as a number, the second below a mark
abbrev pub halves : ℕ → List ℕ → ℕ → Digest
halves mark bytes at = (number_of 0 (take at bytes), number_of mark (drop at bytes))

-- nothing is fed yet
abbrev pub empty_feed : Feed
empty_feed = record { before = None; last = record { items = [] } }

-- the SHA-256 of all bytes, block by block
abbrev pub chain : Feed → List ℕ
chain feed =
    sha256 (option_map_or (λ before. before ++ feed.last.items) feed.before feed.last.items)

-- one byte more; where 119 are kept, their SHA-256 takes their place
abbrev pub with_byte : Feed → ℕ → Feed
with_byte feed byte =
    cond (length feed.last.items == 119)
    (record { before = Some (chain feed); last = record { items = byte ∷ [] } })
    (record { before = feed.before; last = record { items = feed.last.items ++ byte ∷ [] } })

-- up to 31 bytes are their own digest; of more it is the SHA-256, but for a mark that says whether
-- it is of one block
abbrev pub digest_of_feed : Feed → Digest
digest_of_feed feed = by feed.before
  where
    by : Option (List ℕ) → Digest
    by (Some before) = halves 0xff (chain feed) 17
    by None = cond (nat_le (length feed.last.items) 31)
        (halves (length feed.last.items) feed.last.items (min (length feed.last.items) 16))
        (halves 0xfe (chain feed) 17)

-- the digest of all that is fed
abbrev pub digest_of : List (List ℕ) → Digest
digest_of fed = digest_of_feed (fold (fold with_byte) empty_feed fed)
