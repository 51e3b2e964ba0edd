-- Changes of a tree: what it says once they are made. Where markup comes to stand is named as the
-- DOM standard names it: before an element begins (`before`), behind where it begins (`front`),
-- before its end (`back`), behind its end (`behind`).
use Rattle.std.specs.List.{list_any}
use Rattle.std.specs.Prelude.{Bool, List, None, Option, Some, [], false, filter, if◌then◌else◌, map, nat_lt, not, suc, true, ℕ, ◌&&◌, ◌++◌, ◌==◌, ◌∷◌}
use Rattle.std.specs.Str.{bytes_eq}
use Rattle.tl_dom_spec.specs.Tags.{Attribute, no_space}
use Rattle.tl_tree.specs.Asked.{has_no_space}
use Rattle.tl_tree.specs.Rows.{Node, Row, an_element}
use Rattle.tl_tree_edit.specs.Bare.{bare}
use Rattle.tl_tree_edit.specs.Events.{Event, Step, begins, ends, events, has_end, kept, said, says}

-- What is put in: trees, by their rows, or a text
pub data Put : Type 0 where
  Trees : List Row → Put
  Text : List ℕ → Put

-- What is done to an element
pub data Change : Type 0 where
  -- a key has a value, in the place of the one that stood there, or else in front
  Set : List ℕ → List ℕ → Change
  -- the element has another name
  Rename : List ℕ → Change
  -- a key goes
  Unset : List ℕ → Change
  -- the element goes, with all that stands in it
  Remove : Change
  -- it goes, and what stands in it stays
  Unwrap : Change
  Replace : Put → Change
  Fill : Put → Change
  Before : Put → Change
  Prepend : Put → Change
  Append : Put → Change
  After : Put → Change

pub record Edit : Type 0 where
  -- the element, or the contents of a template
  pub number : ℕ
  pub change : Change

-- One element

-- an attribute has this key, and no namespace
abbrev pub has_key : List ℕ → Attribute → Bool
has_key key a = has_no_space a.space && bytes_eq a.key key

abbrev pub plain : List ℕ → List ℕ → Attribute
plain key value = record { space = no_space; key = key; value = value }

-- with another value at the first of a key
abbrev pub with_first : List ℕ → List ℕ → List Attribute → List Attribute
with_first key value [] = []
with_first key value (a ∷ attributes) =
    if has_key key a then plain key value ∷ attributes
    else a ∷ with_first key value attributes

-- with a value at a key: in the place of the first one, or in front
abbrev pub with_value : List ℕ → List ℕ → List Attribute → List Attribute
with_value key value attributes =
    if list_any (has_key key) attributes then with_first key value attributes
    else plain key value ∷ attributes

abbrev pub without_key : List ℕ → List Attribute → List Attribute
without_key key attributes = filter (λ (a : Attribute). not (has_key key a)) attributes

-- an element with other attributes, and no other node
abbrev pub with_attributes : (List Attribute → List Attribute) → Node → Node
with_attributes change (an_element tag) =
    an_element
    (record {
      space = tag.space;
      name = tag.name;
      attributes = change tag.attributes;
      source = tag.source;
    })
with_attributes change node = node

-- an element of another name, and no other node
abbrev pub with_name : List ℕ → Node → Node
with_name name (an_element tag) =
    an_element
    (record {
      space = tag.space;
      name = name;
      attributes = tag.attributes;
      source = tag.source;
    })
with_name name node = node

abbrev pub changed_node : Change → Node → Node
changed_node (Set key value) node = with_attributes (with_value key value) node
changed_node (Rename name) node = with_name name node
changed_node (Unset key) node = with_attributes (without_key key) node
changed_node _ node = node

-- What is put in, and what stays

abbrev pub before : Change → Option Put
before (Before own) = Some own
before (Replace own) = Some own
before _ = None

abbrev pub front : Change → Option Put
front (Prepend own) = Some own
front (Fill own) = Some own
front _ = None

abbrev pub back : Change → Option Put
back (Append own) = Some own
back _ = None

abbrev pub behind : Change → Option Put
behind (After own) = Some own
behind _ = None

-- whether the element itself stays
abbrev pub stays : Change → Bool
stays Remove = false
stays Unwrap = false
stays (Replace own) = false
stays _ = true

-- whether what stood in it goes
abbrev pub is_emptied : Change → Bool
is_emptied Remove = true
is_emptied (Replace own) = true
is_emptied (Fill own) = true
is_emptied _ = false

-- what is said of what is put in
abbrev pub told : Put → List Event
told (Trees rows) = events rows
told (Text bytes) = map says bytes

abbrev pub all_told : Option Put → List Event
all_told None = []
all_told (Some own) = told own

abbrev pub where_it_stays : Change → List Event → List Event
where_it_stays change own = if stays change then own else []

-- where it begins, and where it ends
abbrev pub first_of : Change → Node → List Event
first_of change node =
    all_told (before change)
    ++ (where_it_stays change (begins (bare (changed_node change node)) ∷ [])
    ++ all_told (front change))

abbrev pub last_of : Change → List Event
last_of change =
    all_told (back change)
    ++ (where_it_stays change (ends ∷ []) ++ all_told (behind change))

abbrev pub changed : Change → Row → Step
changed change row = record {
  first = first_of change row.node;
  last = Some (last_of change);
  is_over = is_emptied change;
  end = row.end;
}

-- All rows

-- the edits that are left once those of the numbers before this one are passed
abbrev pub due : ℕ → List Edit → List Edit
due n [] = []
due n (e ∷ edits) = if nat_lt e.number n then due n edits else e ∷ edits

-- what is said of a row, by the first of these edits if that is of its number
abbrev pub step_at : ℕ → List Edit → Row → Step
step_at n [] row = kept row
step_at n (e ∷ edits) row =
    if e.number == n && has_end row.node then changed e.change row else kept row

abbrev pub steps_from : List Edit → ℕ → List Row → List Step
steps_from edits n [] = []
steps_from edits n (row ∷ rows) =
    step_at n (due n edits) row ∷ steps_from edits (suc n) rows

-- what a tree says once these edits are made, which are in the order of their numbers
abbrev pub edited : List Edit → List Row → List Event
edited edits rows = said [] 0 0 (steps_from edits 0 rows)
