-- Where a separator has to stand between two pieces, so that each is read as it is.
use Rattle.std.specs.Prelude.{◌==◌, ℕ, Bool, true, false, ◌&&◌, List, [], ◌∷◌, Option, Some, None, is_none}
use Rattle.std.specs.List.{starts_with}
use Rattle.tl_html_spec.specs.HtmlTokenizer.{State, data_state}
use Rattle.tl_html_spec.specs.Pieces.{Piece}
use Rattle.tl_html_spec.specs.Reader.{after, at, rest_before}

-- after these bytes from `data` the tokenizer is not at rest before this byte: a reference, a tag
-- or a line end would go on with it
unfoldable pub is_apart : List ℕ → ℕ → Bool
is_apart bytes b = is_none (rest_before (after (at data_state) bytes) b)

abbrev pub is_apart_from : List ℕ → List ℕ → Bool
is_apart_from bytes [] = false
is_apart_from bytes (b ∷ next) = is_apart bytes b

abbrev pub is_data_state : State → Bool
is_data_state data_state = true
is_data_state _ = false

abbrev pub begins_with_mark : List ℕ → Bool
begins_with_mark bytes = starts_with ◌==◌ bytes (0xEF ∷ 0xBB ∷ 0xBF ∷ [])

-- what stands before a place in markup, if something does, would go on with what stands behind it;
-- at the front of a page a byte order mark would be none of its characters
abbrev pub is_seam : Option Piece → Option Piece → Bool
is_seam before None = false
is_seam None (Some q) = begins_with_mark q.bytes
is_seam (Some p) (Some q) =
    (is_data_state p.rest && is_data_state q.rest) && is_apart_from p.bytes q.bytes
