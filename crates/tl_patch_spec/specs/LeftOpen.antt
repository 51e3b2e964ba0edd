-- The end tags that are put in where they are left out, so that an edit doesn't come into an
-- element that it isn't meant for: before a start tag, where what stands before it ends there, and
-- where an element ends, if what is in it ends there too.
use Rattle.std.specs.Prelude.{ℕ, zero, suc, Bool, true, false, not, List, [], ◌∷◌, ◌++◌, length, replicate, slice_set, Option, Some, None, if◌then◌else◌}
use Rattle.std.specs.Option.{option_to_list}
use Rattle.tl_html_spec.specs.Pieces.{Piece}
use Rattle.tl_patch_spec.specs.Elements.{Element, OpenElement}
use Rattle.tl_patch_spec.specs.Patches.{Append, Extent, Fill, Implied, Patch, PutAfter, PutBefore, Remove, RenameElement, ReplaceWith, Unclosed, Unwrap, Whole, extent_of, is_page_name}
use Rattle.tl_patch_spec.specs.Tail.{elements_up_to_tail}

-- an element of some pieces each, if there is one
abbrev pub ElementAt : Type 0
ElementAt = List (Option OpenElement)

abbrev pub open_at : ElementAt → ℕ → Option OpenElement
open_at [] n = None
open_at (o ∷ left) zero = o
open_at (o ∷ left) (suc n) = open_at left n

-- the elements that end without their end tag: of each piece, and of the end of the page, the
-- outermost that ends before it; of each start tag the outermost in its element that ends where
-- this one ends; and of each start tag its own element, while it has got no end tag
pub record LeftOpen : Type 0 where
  pub before : ElementAt
  pub inside : ElementAt
  pub own : ElementAt

-- whether an element is left open where it ends; `</body>` and `</html>` end nothing
abbrev pub is_left_open : Extent → List ℕ → Bool
is_left_open (Implied m) name = not (is_page_name name)
is_left_open (Unclosed m) name = true
is_left_open extent name = false

-- with what an element that ends before a piece holds, and with the element where it is left open
abbrev pub with_inside : OpenElement → ℕ → LeftOpen → LeftOpen
with_inside o m left = record left { inside = slice_set left.inside o.1 (open_at left.before m) }

abbrev pub with_open : OpenElement → ℕ → LeftOpen → LeftOpen
with_open o m left = record left {
  before = slice_set left.before m (Some o);
  own = slice_set left.own o.1 (Some o);
}

abbrev pub ended_with : OpenElement → ℕ → Bool → LeftOpen → LeftOpen
ended_with o m is_open left =
    if is_open then with_open o m (with_inside o m left) else with_inside o m left

abbrev pub open_with : OpenElement → Extent → LeftOpen → LeftOpen
open_with o (Whole m) left = ended_with o m (is_left_open (Whole m) o.0) left
open_with o (Implied m) left = ended_with o m (is_left_open (Implied m) o.0) left
open_with o (Unclosed m) left = ended_with o m (is_left_open (Unclosed m) o.0) left
open_with o extent left = left

-- elements come as they end, an inner one before an outer one
abbrev pub open_with_all : List Element → LeftOpen → LeftOpen
open_with_all [] left = left
open_with_all (e ∷ es) left = open_with_all es (open_with (e.name, e.start) (extent_of e) left)

-- of so many pieces, and of the end of the page
abbrev pub no_element : ℕ → ElementAt
no_element n = replicate (suc n) None

abbrev pub none_open : ℕ → LeftOpen
none_open n = record { before = no_element n; inside = no_element n; own = no_element n }

abbrev pub left_open : List Piece → LeftOpen
left_open ps = open_with_all (elements_up_to_tail ps) (none_open (length ps))

-- an element that gets its end tag before a piece
pub record Closing : Type 0 where
  pub place : ℕ
  pub of : OpenElement

abbrev pub closing_at : Option ℕ → Option OpenElement → Option Closing
closing_at None o = None
closing_at (Some m) None = None
closing_at (Some m) (Some o) = Some (record { place = m; of = o })

-- what such a patch puts at a start tag stands before it or in its place
abbrev pub closes_before : Patch → Bool
closes_before (RenameElement new) = true
closes_before Unwrap = true
closes_before (ReplaceWith c) = true
closes_before (PutBefore c) = true
closes_before patch = false

abbrev pub closed_before : Patch → ℕ → LeftOpen → Option Closing
closed_before patch n left =
    if closes_before patch then closing_at (Some n) (open_at left.before n) else None

-- what such a patch changes where an element ends stands behind what is in it, and what is put
-- after an element behind its end tag
abbrev pub last_open : Patch → ℕ → LeftOpen → Option OpenElement
last_open (RenameElement new) n left = open_at left.inside n
last_open Unwrap n left = open_at left.inside n
last_open (Append c) n left = open_at left.inside n
last_open (PutAfter c) n left = open_at left.own n
last_open patch n left = None

-- where what is in an element ends, if its bytes are its own
abbrev pub content_end : Extent → Option ℕ
content_end (Whole m) = Some m
content_end (Implied m) = Some m
content_end extent = None

abbrev pub closed_behind : Patch → ℕ → Extent → LeftOpen → Option Closing
closed_behind patch n extent left = closing_at (content_end extent) (last_open patch n left)

-- the elements whose end tags a patch puts in, if they have got none
abbrev pub closings : Patch → ℕ → Extent → LeftOpen → List Closing
closings patch n extent left = option_to_list (closed_before patch n left)
    ++ option_to_list (closed_behind patch n extent left)

-- the element of a start tag has an end tag, or needs none
abbrev pub closed_at : LeftOpen → ℕ → LeftOpen
closed_at left n = record left { own = slice_set left.own n None }

abbrev pub closed_all : LeftOpen → List Closing → LeftOpen
closed_all left [] = left
closed_all left (c ∷ cs) = closed_all (closed_at left (c.of).1) cs

-- what is left open after a patch of the element that begins at a piece
abbrev pub open_after : Patch → ℕ → Extent → LeftOpen → LeftOpen
open_after patch n extent left = closed_all left (closings patch n extent left)

-- with such a patch an element needs no end tag: it goes, or its tags, or it has one of another
-- name
abbrev pub ends_element : Patch → Bool
ends_element (RenameElement new) = true
ends_element Remove = true
ends_element Unwrap = true
ends_element (ReplaceWith c) = true
ends_element patch = false

abbrev pub without_own : Patch → ℕ → LeftOpen → LeftOpen
without_own patch n left = if ends_element patch then closed_at left n else left

-- and with such a one nor does what is in it, which goes
abbrev pub takes_inside : Patch → Bool
takes_inside Remove = true
takes_inside (ReplaceWith c) = true
takes_inside (Fill c) = true
takes_inside patch = false

abbrev pub closed_if : LeftOpen → Option OpenElement → LeftOpen
closed_if left None = left
closed_if left (Some o) = closed_at left o.1

abbrev pub without_inside : Patch → ℕ → LeftOpen → LeftOpen
without_inside patch n left =
    if takes_inside patch then closed_if left (open_at left.inside n) else left

-- without the elements that patches end, of the start tags of these numbers
abbrev pub without_ended : List (ℕ × Patch) → LeftOpen → LeftOpen
without_ended [] left = left
without_ended (p ∷ patches) left =
    without_ended patches (without_inside p.1 p.0 (without_own p.1 p.0 left))
