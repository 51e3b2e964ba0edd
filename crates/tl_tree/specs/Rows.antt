-- The rows of trees: their nodes in the order of the page. Each knows the row that it stands in,
-- and where the rows below it end, so that what is below a row is a range of numbers.
use Rattle.std.specs.Prelude.{Bool, List, None, Option, Some, [], false, slice_get, true, ℕ, ◌+◌, ◌++◌, ◌<◌, ◌≡◌, ◌∷◌}
use Rattle.tl_dom_spec.specs.HtmlForest.{HtmlForest, comment, doctype, element, has_contents, no_trees, text}
use Rattle.tl_dom_spec.specs.Marks.{Marked}
use Rattle.tl_dom_spec.specs.Tags.{Tag}
use Rattle.tl_html_spec.specs.Doctypes.{Doctype}

-- what a row has of its own
pub data Node : Type 0 where
  -- an element without what stands below it
  an_element : Tag → Node
  -- the contents of a `template`, in which the trees below the template stand
  contents : Node
  a_text : Marked (List ℕ) → Node
  a_comment : Marked (List ℕ) → Node
  a_doctype : Marked Doctype → Node

pub record Row : Type 0 where
  pub node : Node
  -- the number of the row that it stands in
  pub parent : Option ℕ
  -- the number behind the last row below it
  pub end : ℕ

-- how many rows stand between an element and what is below it: that of its contents, or none
abbrev pub contents_count : Bool → ℕ
contents_count true = 1
contents_count false = 0

abbrev pub row_count : HtmlForest → ℕ
row_count no_trees = 0
row_count (text bytes more) = 1 + row_count more
row_count (comment bytes more) = 1 + row_count more
row_count (doctype own more) = 1 + row_count more
row_count (element tag below more) =
    1 + contents_count (has_contents tag) + row_count below + row_count more

-- the contents, if there are any, of the element of a number
abbrev pub contents_rows : Bool → ℕ → ℕ → List Row
contents_rows true number end =
    record { node = contents; parent = Some number; end = end } ∷ []
contents_rows false number end = []

-- a row below which there is none
abbrev pub lone_row : ℕ → Option ℕ → Node → Row
lone_row number parent node = record { node = node; parent = parent; end = number + 1 }

-- the rows of trees in a parent, the first of which has a number
abbrev pub rows_from : ℕ → Option ℕ → HtmlForest → List Row
rows_from number parent no_trees = []
rows_from number parent (text own more) =
    lone_row number parent (a_text own) ∷ rows_from (number + 1) parent more
rows_from number parent (comment own more) =
    lone_row number parent (a_comment own) ∷ rows_from (number + 1) parent more
rows_from number parent (doctype own more) =
    lone_row number parent (a_doctype own) ∷ rows_from (number + 1) parent more
rows_from number parent (element tag below more) =
    let inner = number + contents_count (has_contents tag) in
    let end = inner + 1 + row_count below in
    record { node = an_element tag; parent = parent; end = end }
    ∷ (contents_rows (has_contents tag) number end
    ++ (rows_from (inner + 1) (Some inner) below ++ rows_from end parent more))

-- the rows of a page or a fragment
abbrev pub rows_of : HtmlForest → List Row
rows_of trees = rows_from 0 None trees

-- a row stands below another one: in it, or in one that stands below it
pub data IsBelow (rows : List Row) (outer : ℕ) : ℕ → Type 0 where
  stands_in : (i : ℕ) (row : Row) →
      slice_get rows i ≡ Some row → row.parent ≡ Some outer → IsBelow rows outer i
  stands_below : (i p : ℕ) (row : Row) →
      slice_get rows i ≡ Some row → row.parent ≡ Some p → IsBelow rows outer p →
      IsBelow rows outer i

-- a number is in the range of a row: behind the row, and before its end
abbrev pub IsInRange : List Row → ℕ → ℕ → Type 0
IsInRange rows outer i =
    (row : Row) × (slice_get rows outer ≡ Some row) × (outer < i) × (i < row.end)
