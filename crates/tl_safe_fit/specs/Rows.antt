-- Rows of an index.
use Rattle.std.specs.Prelude.{◌≡◌, ◌<◌, ℕ, List, [], length, map, slice_index, slice_index_or}
use Rattle.tl_safe_fit.specs.Linked.{latest, slot_of}
use Rattle.tl_safe_fit.specs.declared.words.row.Row.{Row}

abbrev pub words_in : List Row → List (List ℕ)
words_in rows = map (λ r. r.word.now) rows

abbrev pub links_in : List Row → List ℕ
links_in rows = map (λ r. r.before) rows

-- each slot leads to the last row of it
abbrev pub AreHeads : List Row → List ℕ → Type 0
AreHeads rows heads =
    (slot : ℕ) → slot < 64 → slice_index heads slot ≡ latest (words_in rows) slot (length rows)

-- and each row to the one before it
abbrev pub AreLinked : List Row → Type 0
AreLinked rows =
    (k : ℕ) → k < length rows → slice_index (links_in rows) k
    ≡ latest (words_in rows) (slot_of (slice_index_or (words_in rows) k [])) k
