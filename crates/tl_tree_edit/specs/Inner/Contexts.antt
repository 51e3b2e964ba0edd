-- Contexts and forms, as the code goes through them.
use Rattle.std.specs.List.{All}
use Rattle.std.specs.Option.{option_map}
use Rattle.std.specs.Prelude.{Bool, List, MatchResult, None, Option, Result, Some, [], slice_get, ℕ, ⊤, ◌≡◌}
use Rattle.tl_dom_spec.specs.HtmlTree.{Context, html_fragment_by, standard}
use Rattle.tl_dom_spec.specs.Tags.{Tag}
use Rattle.tl_tree.specs.Rows.{Row, rows_of}
use Rattle.tl_tree.specs.TreeView.{rows_in}
use Rattle.tl_tree.specs.declared.tree.Tree.{Tree}
use Rattle.tl_tree_edit.specs.Changes.{Edit, Put, Text, Trees}
use Rattle.tl_tree_edit.specs.Operations.{edit_for, forms_end, fragment, holder, is_held_in_form, node_held, put_there, read_by, tag_for}
use Rattle.tl_tree_edit.specs.Unmade.{IsUnreadIn}
use Rattle.tl_tree_edit.specs.declared.error.MadeError.{MadeError}
use Rattle.tl_tree_edit.specs.declared.error.MadeError.TheVariants as error
use Rattle.tl_tree_edit.specs.declared.forms.Forms.{Forms}
use Rattle.tl_tree_edit.specs.declared.fragments.Fragment.{Fragment}
use Rattle.tl_tree_edit.specs.declared.position.Position.{Position}
use Rattle.tl_tree_edit.specs.declared.readings.Reading.{Reading}
use Rattle.tl_tree_edit.specs.declared.readings.Seat.{Seat}

-- why markup isn't read in an element: of want of memory nothing is said
abbrev pub IsUnmadeIn : List ℕ → Context → MadeError → Type 0
IsUnmadeIn markup own error.OutOfMemory = ⊤
IsUnmadeIn markup own (error.Unread why) = IsUnreadIn markup own why

-- an element in which markup is read
abbrev pub context_by : Tag → Bool → Bool → Context
context_by tag is_in_form is_quirks = record {
  tag = tag;
  is_in_form = is_in_form;
  is_quirks = is_quirks;
}

-- it is read in an element, or why it isn't
abbrev pub IsReadIn : List ℕ → Context → Result Tree MadeError → Type 0
IsReadIn markup own r =
    MatchResult r
    (λ tree. rows_in tree ≡ rows_of (html_fragment_by standard own markup))
    (IsUnmadeIn markup own)

-- how far forms reach
abbrev pub AreFormsOf : List Row → Forms → Type 0
AreFormsOf rows forms = forms.end ≡ forms_end rows forms.next

-- where markup comes to stand that is put, seen from an element
abbrev pub seat_at : List Row → Position → ℕ → Seat
seat_at rows position n = record {
  holder = holder rows position n;
  is_in_form = is_held_in_form rows (holder rows position n);
}

-- the element in which it is read there
abbrev pub seat_tag : List Row → Bool → Seat → Tag
seat_tag rows is_adjacent seat = tag_for (read_by is_adjacent (node_held rows seat.holder))

abbrev pub seat_context : List Row → Bool → Bool → Seat → Context
seat_context rows is_quirks is_adjacent seat =
    context_by (seat_tag rows is_adjacent seat) seat.is_in_form is_quirks

-- it as it is read there
abbrev pub read_at_seat : List Row → Bool → Bool → List ℕ → Seat → List Row
read_at_seat rows is_quirks is_adjacent markup seat =
    rows_of (html_fragment_by standard (seat_context rows is_quirks is_adjacent seat) markup)

-- it was read so where it stands
abbrev pub IsRead : List Row → Bool → Bool → List ℕ → Reading → Type 0
IsRead rows is_quirks is_adjacent markup own =
    rows_in own.trees ≡ read_at_seat rows is_quirks is_adjacent markup own.seat

abbrev pub AreRead : List Row → Bool → Bool → List ℕ → List Reading → Type 0
AreRead rows is_quirks is_adjacent markup readings =
    All (IsRead rows is_quirks is_adjacent markup) readings

-- what stands in a list stands there still
abbrev pub Keeps : List Reading → List Reading → Type 0
Keeps old new =
    (k : ℕ) (own : Reading) → slice_get old k ≡ Some own → slice_get new k ≡ Some own

-- a reading where markup is read as at another place
pub record IsReadAlike (rows : List Row) (is_adjacent : Bool) (readings : List Reading)
    (seat : Seat) (k : ℕ) : Type 0 where
  pub own : Reading
  pub stands : slice_get readings k ≡ Some own
  pub tag : seat_tag rows is_adjacent own.seat ≡ seat_tag rows is_adjacent seat
  pub is_in_form : (own.seat).is_in_form ≡ seat.is_in_form

abbrev pub rows_read : List Reading → ℕ → Option (List Row)
rows_read readings k = option_map (λ (own : Reading). rows_in own.trees) (slice_get readings k)

-- what is put, and the number of the element that it is seen from
abbrev pub read_for : List Reading → Fragment → ℕ × Option (List Row)
read_for readings own = (own.number, rows_read readings own.reading)

abbrev pub should_read : List Row → Bool → Position → List ℕ → ℕ → ℕ × Option (List Row)
should_read rows is_quirks position markup n =
    (n, Some (fragment rows is_quirks position markup n))

-- a reading that isn't there is put as nothing
abbrev pub put_read : Option (List Row) → Put
put_read None = Text []
put_read (Some trees) = Trees trees

-- the edit by which it is put
abbrev pub put_by : List Row → Position → ℕ × Option (List Row) → Edit
put_by rows position own = edit_for rows (put_there position (put_read own.1)) own.0
