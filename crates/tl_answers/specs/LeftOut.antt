-- What is left out of texts.
use Rattle.std.specs.List.{list_any}
use Rattle.std.specs.Prelude.{Bool, List, None, Option, Some, [], if◌then◌else◌, length, ℕ, ◌∷◌, ◌≡◌}
use Rattle.tl_css.specs.Selector.{Css}
use Rattle.tl_tree.specs.Asked.{ancestors_at}
use Rattle.tl_tree.specs.Rows.{Row}
use Rattle.tl_tree_extract.specs.Boxes.{is_left_out}
use Rattle.tl_tree_extract.specs.Marks.{marks_of}
use Rattle.tl_tree_extract.specs.Readable.{readable_below}
use Rattle.tl_tree_select.specs.Meaning.{AreFound}
use Rattle.tl_tree_select.specs.Page.{Page}

-- the numbers of the nodes of a page where the selector of what is left out holds; where there is
-- none, no number
abbrev pub AreLeftOut : Option Css → Page → List ℕ → Type 0
AreLeftOut None page ns = ns ≡ []
AreLeftOut (Some selector) page ns = AreFound page selector ns

-- a mark for each row, of those that are left out; none is needed where none is
abbrev pub marks_in : List Row → List ℕ → List Bool
marks_in rows [] = []
marks_in rows (n ∷ ns) = marks_of (n ∷ ns) (length rows)

-- a row, or one that it is in, has a mark
abbrev pub is_within : List Bool → List Row → ℕ → Bool
is_within marks rows n = list_any (is_left_out marks) (n ∷ ancestors_at rows n)

-- the readable text inside a row, without rows that have a mark and what is in them
abbrev pub readable_inside : List Bool → List Row → ℕ → List ℕ
readable_inside marks rows n = if is_within marks rows n then [] else readable_below marks rows n
