-- Words for worked rows. No contract cites them.
use Prim.Native.String.{String}
use Rattle.std.specs.Prelude.{ℕ, Bool, true, false, List, [], ◌∷◌, Option, codes, map, option_map}
use Rattle.std.specs.List.{list_any}
use Rattle.tl_html_spec.specs.HtmlTokenizer.{HtmlToken}
use Rattle.tl_html_spec.specs.Pieces.{Piece, pieces, runs}
use Rattle.tl_patch_spec.specs.Elements.{Element, elements}
use Rattle.tl_patch_spec.specs.Patches.{Content, NewContent, NewEndTag, Patch, Put, Text, asked_of, put_at, tokens_asked}
use Rattle.tl_patch_spec.specs.RawTexts.{is_misread}
use Rattle.tl_patch_spec.specs.Seams.{is_apart_from}
use Rattle.tl_patch_spec.specs.Splices.{Splice}
use Rattle.tl_patch_spec.specs.Tail.{elements_up_to_tail}
use Rattle.tl_patch_spec.specs.Together.{Asked, ask_of, asked_at, asked_each, at_each}

-- the pieces of a page, where characters are joined
abbrev pub cut_page : String → List Piece
cut_page page = runs (pieces (codes page))

-- its elements, by the numbers of these pieces
abbrev pub elements_in : String → List Element
elements_in page = elements (cut_page page)

-- the same, up to its tail
abbrev pub up_to_tail_in : String → List Element
up_to_tail_in page = elements_up_to_tail (cut_page page)

-- one that ends with its own end tag
abbrev pub whole : String → ℕ → ℕ → Element
whole name start end =
    record { name = codes name; start = start; end = end; has_end_tag = true }

-- one that ends before a piece
abbrev pub cut : String → ℕ → ℕ → Element
cut name start end =
    record { name = codes name; start = start; end = end; has_end_tag = false }

-- one of a start tag alone
abbrev pub alone : String → ℕ → Element
alone name place = cut name place place

-- what a patch asks for of the element that begins at this piece
abbrev pub asked_in : String → ℕ → Patch → Option (List (Splice Put))
asked_in page place patch = asked_of (cut_page page) place patch

-- the same, on an element of two tags, one whose end tag is left out, one of a tag
-- alone, one that another end tag closes, a tag that is dropped, and a title

abbrev pub on_whole : Patch → Option (List (Splice Put))
on_whole patch = asked_of (cut_page "<b>x</b>") 0 patch

abbrev pub on_implied : Patch → Option (List (Splice Put))
on_implied patch = asked_of (cut_page "<ul><li>a<li>b</ul>") 1 patch

abbrev pub on_alone : Patch → Option (List (Splice Put))
on_alone patch = asked_of (cut_page "<br>x") 0 patch

abbrev pub on_unclosed : Patch → Option (List (Splice Put))
on_unclosed patch = asked_of (cut_page "<div><b>x</div>") 1 patch

abbrev pub on_dropped : Patch → Option (List (Splice Put))
on_dropped patch = asked_of (cut_page "<body>a<body>b") 2 patch

abbrev pub on_title : Patch → Option (List (Splice Put))
on_title patch = asked_of (cut_page "<title>x</title>") 0 patch

abbrev pub words : String → Content
words bytes = Text (codes bytes)

-- a text that is put
abbrev pub put_words : String → List Put
put_words bytes = NewContent (words bytes) ∷ []

-- whether these bytes go on with what follows them
abbrev pub is_apart_in : String → String → Bool
is_apart_in bytes next = is_apart_from (codes bytes) (codes next)

-- the tokens that a patch asks for
abbrev pub with_patch : String → ℕ → Patch → Option (List HtmlToken)
with_patch page place patch = tokens_asked (cut_page page) place patch

-- what patches ask for of the elements that begin at these pieces, and one patch of each
abbrev pub all_asked : String → List (ℕ × Patch) → Option (List Asked)
all_asked page patches = asked_each (cut_page page) patches

abbrev pub each_asked : String → Patch → List ℕ → Option (List Asked)
each_asked page patch numbers = all_asked page (at_each patch numbers)

-- the end tag of an element that begins at a piece, put in before another piece by the patch of a
-- number
abbrev pub end_tag_put : String → ℕ → ℕ → ℕ → Asked
end_tag_put name start at place =
    asked_at (record { depth = start; rank = 3; at = at })
    (put_at place (NewEndTag (codes name) ∷ []))

-- whether what they ask for may be read as markup by a browser
abbrev pub are_misread : List Piece → List (Splice Put) → Bool
are_misread ps asks = list_any (is_misread ps asks) asks

abbrev pub misread_in : String → List (ℕ × Patch) → Option Bool
misread_in page patches =
    option_map (λ (each : List Asked). are_misread (cut_page page) (map ask_of each))
    (all_asked page patches)
