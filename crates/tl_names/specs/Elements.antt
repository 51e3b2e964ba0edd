-- Names of elements among others: the lists are those of the code, and `laws` has each once more,
-- name by name, with its section.
use Prim.Native.String.{String}
use Rattle.std.specs.Prelude.{ℕ, Bool, ◌==◌, List, codes, map}
use Rattle.std.specs.Borrow.{Bor}
use Rattle.std.specs.List.{list_any, slice_split}
use Rattle.std.specs.Str.{bytes_eq}
use Rattle.tl_names.specs.declared.elements.TheConstants.{RCDATA_NAMES, RAWTEXT_NAMES, SPECIAL_NAMES, SCOPE_BOUNDS, LIST_SCOPE_BOUNDS, TABLE_SCOPE_BOUNDS, IMPLIED_ENDS, HEADINGS, TABLE_SECTIONS, TABLE_PARTS, PARAGRAPH_ENDS, SCOPED_ENDS, HEAD_PARTS, FEED_DROPPERS, CLOSED_AT_ONCE}

-- lent words as lists of bytes
abbrev pub words_of : List (Bor (List ℕ)) → List (List ℕ)
words_of words = map (λ own. own.now) words

-- the words of a text, with one space between two of them
abbrev pub words : String → List (List ℕ)
words text = slice_split (λ b. b == 32) (codes text)

-- one of these names, in exact case
abbrev pub is_among : List (List ℕ) → List ℕ → Bool
is_among names name = list_any (bytes_eq name) names

abbrev pub rcdata_names : List (List ℕ)
rcdata_names = map (λ own. own.now) RCDATA_NAMES

abbrev pub rawtext_names : List (List ℕ)
rawtext_names = map (λ own. own.now) RAWTEXT_NAMES

abbrev pub special_names : List (List ℕ)
special_names = map (λ own. own.now) SPECIAL_NAMES

abbrev pub scope_bounds : List (List ℕ)
scope_bounds = map (λ own. own.now) SCOPE_BOUNDS

abbrev pub list_scope_bounds : List (List ℕ)
list_scope_bounds = map (λ own. own.now) LIST_SCOPE_BOUNDS

abbrev pub table_scope_bounds : List (List ℕ)
table_scope_bounds = map (λ own. own.now) TABLE_SCOPE_BOUNDS

abbrev pub implied_ends : List (List ℕ)
implied_ends = map (λ own. own.now) IMPLIED_ENDS

abbrev pub headings : List (List ℕ)
headings = map (λ own. own.now) HEADINGS

abbrev pub table_sections : List (List ℕ)
table_sections = map (λ own. own.now) TABLE_SECTIONS

abbrev pub table_parts : List (List ℕ)
table_parts = map (λ own. own.now) TABLE_PARTS

abbrev pub paragraph_ends : List (List ℕ)
paragraph_ends = map (λ own. own.now) PARAGRAPH_ENDS

abbrev pub scoped_ends : List (List ℕ)
scoped_ends = map (λ own. own.now) SCOPED_ENDS

abbrev pub head_parts : List (List ℕ)
head_parts = map (λ own. own.now) HEAD_PARTS

abbrev pub feed_droppers : List (List ℕ)
feed_droppers = map (λ own. own.now) FEED_DROPPERS

abbrev pub closed_at_once : List (List ℕ)
closed_at_once = map (λ own. own.now) CLOSED_AT_ONCE
