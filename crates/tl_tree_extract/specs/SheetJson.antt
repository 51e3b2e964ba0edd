-- A table as JSON, as its tokens: an array of rows, each an array with a string for each slot. The
-- kit's `json` writes them down (`print` there), and reads them back.
use Rattle.json.specs.Print.{print}
use Rattle.json.specs.Token.{Token, begin_array, begin_object, end_array, end_object, key, string}
use Rattle.std.specs.Prelude.{List, None, Option, Some, [], codes, length, suc, zero, ℕ, ◌++◌, ◌∷◌}
use Rattle.std.specs.Str.Lossy.{utf8_lossy}
use Rattle.tl_tree.specs.Rows.{Row}
use Rattle.tl_tree_extract.specs.Sheet.{slot_words}
use Rattle.tl_tree_extract.specs.Table.{TableModel, table_of}
use Rattle.tl_tree_extract.specs.declared.sheet.Spans.{Spans}

-- so many slots of a row from the left, each with its words: bytes that are no UTF-8 are U+FFFD
abbrev pub slot_strings : Spans → List Row → TableModel → ℕ → ℕ → List Token
slot_strings spans rows t row zero = []
slot_strings spans rows t row (suc n) =
    slot_strings spans rows t row n ++ string (utf8_lossy (slot_words spans rows t n row)) ∷ []

-- a row has a slot in each column of the table
abbrev pub row_array : Spans → List Row → TableModel → ℕ → List Token
row_array spans rows t row =
    begin_array ∷ (slot_strings spans rows t row t.width ++ end_array ∷ [])

-- so many rows from above
abbrev pub row_arrays : Spans → List Row → TableModel → ℕ → List Token
row_arrays spans rows t zero = []
row_arrays spans rows t (suc n) = row_arrays spans rows t n ++ row_array spans rows t n

abbrev pub array_of_rows : Spans → List Row → TableModel → List Token
array_of_rows spans rows t =
    begin_array ∷ (row_arrays spans rows t (length t.rows) ++ end_array ∷ [])

-- an array of rows; where the file is said, an object that has both
abbrev pub with_file : Option (List ℕ) → List Token → List Token
with_file None rows = rows
with_file (Some file) rows =
    begin_object
    ∷ key (codes "file")
    ∷ string file
    ∷ key (codes "rows")
    ∷ (rows ++ end_object ∷ [])

-- a table as JSON, and a line feed
abbrev pub table_line : Option (List ℕ) → Spans → List Row → ℕ → List ℕ
table_line file spans rows table =
    print (with_file file (array_of_rows spans rows (table_of rows table))) ++ 10 ∷ []
