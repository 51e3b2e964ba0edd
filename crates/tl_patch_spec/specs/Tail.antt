-- How far the elements of a page go to an edit. `</body>` and `</html>` end nothing (13.2.6.4.7),
-- so by `balanced` what is open there ends with the page; to an edit it ends where they stand.
use Rattle.std.specs.Prelude.{ℕ, suc, Bool, true, false, ◌&&◌, ◌==◌, List, [], ◌∷◌, Option, Some, None, codes, length, map, if◌then◌else◌}
use Rattle.std.specs.List.{list_all, slice_get}
use Rattle.std.specs.Str.{bytes_eq}
use Rattle.tl_html_spec.specs.HtmlTokenizer.{Character, CommentToken, EndTag, HtmlToken, is_white_space}
use Rattle.tl_html_spec.specs.Balanced.{is_one_of}
use Rattle.tl_html_spec.specs.Pieces.{Piece}
use Rattle.tl_patch_spec.specs.Elements.{Element, elements, ended_element}

-- what the tail of a page holds: white space, comments, and end tags of these names
abbrev pub is_tail_name : List ℕ → Bool
is_tail_name name = is_one_of (codes "body html") name

abbrev pub is_tail_token : HtmlToken → Bool
is_tail_token (Character b) = is_white_space b
is_tail_token (CommentToken bytes) = true
is_tail_token (EndTag name) = is_tail_name name
is_tail_token _ = false

abbrev pub is_tail_piece : Piece → Bool
is_tail_piece p = list_all is_tail_token p.tokens

-- whether tokens are an end tag with such a name
abbrev pub are_end_tag : (List ℕ → Bool) → List HtmlToken → Bool
are_end_tag named (EndTag name ∷ []) = named name
are_end_tag named _ = false

-- the number of the first such end tag behind which a tail alone stands, or of the end of the page
abbrev pub tail_from : (List ℕ → Bool) → ℕ → List Piece → ℕ
tail_from named n [] = n
tail_from named n (p ∷ ps) =
    if are_end_tag named p.tokens && list_all is_tail_piece ps then n
    else tail_from named (suc n) ps

-- where an element of this name ends that is open there: `html` with its end tag, any other where
-- the tail begins
abbrev pub tail_end : List Piece → List ℕ → ℕ
tail_end ps name =
    tail_from (if bytes_eq name (codes "html") then bytes_eq name else is_tail_name) 0 ps

abbrev pub is_end_of : List ℕ → Option Piece → Bool
is_end_of name None = false
is_end_of name (Some p) = are_end_tag (bytes_eq name) p.tokens

-- an element that ends with the page ends in its tail, by its own end tag if that stands there
abbrev pub up_to_tail : List Piece → Element → Element
up_to_tail ps e =
    if e.end == length ps then ended_element (e.name, e.start) (tail_end ps e.name)
    (is_end_of e.name (slice_get ps (tail_end ps e.name)))
    else e

abbrev pub elements_up_to_tail : List Piece → List Element
elements_up_to_tail ps = map (up_to_tail ps) (elements ps)
