-- The stack of open elements (13.2.4.2) as a path of frames, the innermost first and the document
-- last. Nothing is taken out of the tree: an element goes to its place once its end is settled,
-- with all that is in it, and what the standard moves is moved by taking frames of the path apart.
use Rattle.std.specs.Prelude.{Bool, List, [], codes, false, filter, if◌then◌else◌, map, not, true, ℕ, ◌&&◌, ◌++◌, ◌==◌, ◌||◌, ◌∷◌}
use Rattle.tl_dom_spec.specs.Marks.{Marked}
use Rattle.tl_dom_spec.specs.Tags.{Tag, bare_tag, is_any, is_foster_target, is_implied, is_table, is_template}
use Rattle.tl_html_spec.specs.Doctypes.{Doctype}

-- nodes in a row, the last one outside
pub data Nodes : Type 0 where
  no_nodes : Nodes
  and_text : Nodes → Marked (List ℕ) → Nodes
  and_comment : Nodes → Marked (List ℕ) → Nodes
  and_doctype : Nodes → Marked Doctype → Nodes
  and_element : Nodes → Tag → Nodes → Nodes

-- where a node goes
pub data Place : Type 0 where
  -- to the end of what is next on the path
  here : Place
  -- to the end of the frame of a number
  into : ℕ → Place
  -- behind the child of that frame that is still open
  behind : ℕ → Place
  -- to the end of the head, which was left
  into_head : Place

-- an element whose end is not settled
pub record Frame : Type 0 where
  -- its number tells it from others that look alike
  pub number : ℕ
  pub tag : Tag
  -- its children so far
  pub children : Nodes
  -- what goes behind its child that is still open
  pub waiting : Nodes
  -- where it goes when it is settled
  pub place : Place
  -- whether it is in the stack of open elements. One that left it from between others stays on the
  -- path until it is on top
  pub is_open : Bool

abbrev pub Path : Type 0
Path = List Frame

-- the document has the number 0, the `html` element 1, as it is the first one
abbrev pub new_frame : ℕ → Tag → Place → Frame
new_frame number tag place = record {
  number = number;
  tag = tag;
  children = no_nodes;
  waiting = no_nodes;
  place = place;
  is_open = true;
}

abbrev pub document : Frame
document = record (new_frame 0 (bare_tag []) here) { is_open = false }

-- Nodes

-- a text beside another one is part of it, and stands where that one begins
abbrev pub with_text : Nodes → Marked (List ℕ) → Nodes
with_text (and_text nodes own) more =
    and_text nodes (record own { said = own.said ++ more.said })
with_text nodes more = and_text nodes more

abbrev pub joined : Nodes → Nodes → Nodes
joined nodes no_nodes = nodes
joined nodes (and_text more own) = with_text (joined nodes more) own
joined nodes (and_comment more own) = and_comment (joined nodes more) own
joined nodes (and_doctype more own) = and_doctype (joined nodes more) own
joined nodes (and_element more tag children) = and_element (joined nodes more) tag children

-- at the end of the `head` among these
abbrev pub at_head : Nodes → Nodes → Nodes
at_head no_nodes new = no_nodes
at_head (and_text nodes own) new = and_text (at_head nodes new) own
at_head (and_comment nodes own) new = and_comment (at_head nodes new) own
at_head (and_doctype nodes own) new = and_doctype (at_head nodes new) own
at_head (and_element nodes tag children) new =
    if is_any (codes "head") tag then and_element nodes tag (joined children new)
    else and_element (at_head nodes new) tag children

-- Places

-- what waited stands behind the children
abbrev pub caught_up : Frame → Frame
caught_up f = record f { children = joined f.children f.waiting; waiting = no_nodes }

abbrev pub with_nodes : Nodes → Frame → Frame
with_nodes nodes f = record f { children = joined f.children nodes }

abbrev pub with_waiting : Nodes → Frame → Frame
with_waiting nodes f = record f { waiting = joined f.waiting nodes }

abbrev pub on_top : (Frame → Frame) → Path → Path
on_top change [] = []
on_top change (f ∷ path) = change f ∷ path

abbrev pub at_number : ℕ → (Frame → Frame) → Path → Path
at_number k change path = map (λ (f : Frame). if f.number == k then change f else f) path

-- nodes are put at a place
abbrev pub put : Place → Nodes → Path → Path
put here nodes path = on_top (λ (f : Frame). with_nodes nodes (caught_up f)) path
put (into k) nodes path = at_number k (with_nodes nodes) path
put (behind k) nodes path = at_number k (with_waiting nodes) path
put into_head nodes path =
    on_top (λ (f : Frame). record f { children = at_head f.children nodes }) path

-- an element that is settled goes to its place, and what waited behind it follows
abbrev pub settled_at : Place → Nodes → Path → Path
settled_at here nodes path = on_top (λ (f : Frame). caught_up (with_nodes nodes f)) path
settled_at place nodes path = put place nodes path

abbrev pub node_of : Frame → Nodes
node_of f = and_element no_nodes f.tag (joined f.children f.waiting)

-- the innermost frame is settled; the document stays
abbrev pub top_settled : Path → Path
top_settled [] = []
top_settled (f ∷ []) = f ∷ []
top_settled (f ∷ outer ∷ path) = settled_at f.place (node_of f) (outer ∷ path)

-- frames are settled while they pass a test, and those that are not open: at most as many as a list
-- is long
abbrev pub settled_while : (Frame → Bool) → Path → Path → Path
settled_while test [] path = path
settled_while test (f ∷ count) [] = []
settled_while test (f ∷ count) (top ∷ path) =
    elim (not top.is_open || test top) as (λ _. Path) [
      | true ↦ settled_while test count (top_settled (top ∷ path))
      | false ↦ top ∷ path
    ]

-- The stack

abbrev pub no_frame : Frame → Bool
no_frame f = false

-- elements are popped while they pass a test
abbrev pub popped_while : (Frame → Bool) → Path → Path
popped_while test path = settled_while test path path

-- frames that are not open any more, and on top, are settled
abbrev pub settled : Path → Path
settled path = popped_while no_frame path

-- the current node is popped
abbrev pub popped : Path → Path
popped path = settled (top_settled path)

-- elements are popped until the current node passes a test
abbrev pub popped_to : (Frame → Bool) → Path → Path
popped_to test path = popped_while (λ (f : Frame). not (test f)) path

-- and that one too
abbrev pub popped_through : (Frame → Bool) → Path → Path
popped_through test path = popped (popped_to test path)

abbrev pub has_tag : (Tag → Bool) → Frame → Bool
has_tag test f = test f.tag

abbrev pub has_number : ℕ → Frame → Bool
has_number k f = f.number == k

-- implied end tags are generated (13.2.6.3), but for elements that pass a test
abbrev pub implied_closed : (Tag → Bool) → Path → Path
implied_closed but path =
    popped_while (λ (f : Frame). is_implied f.tag && not (but f.tag)) path

-- an element leaves the stack, from between others too
abbrev pub taken_out : ℕ → Path → Path
taken_out k path = settled (at_number k (λ (f : Frame). record f { is_open = false }) path)

-- the elements of the stack
abbrev pub elements : Path → List Frame
elements path = filter (λ (f : Frame). f.is_open) path

-- the frame on top, which is the current node, but for a document without one
abbrev pub top : Path → Frame
top [] = document
top (f ∷ path) = f

-- one of these passes the test, and none between stops the search
abbrev pub within : (Frame → Bool) → (Frame → Bool) → List Frame → Bool
within test stops [] = false
within test stops (f ∷ fs) = test f || (not (stops f) && within test stops fs)

-- an element that passes a test is open in a scope, which these bound
abbrev pub has_within : (Tag → Bool) → (Tag → Bool) → Path → Bool
has_within test bounds path = within (has_tag test) (has_tag bounds) (elements path)

abbrev pub has_open : (Tag → Bool) → Path → Bool
has_open test path = within (has_tag test) no_frame (elements path)

abbrev pub is_open_number : ℕ → Path → Bool
is_open_number k path = within (has_number k) no_frame (elements path)

-- The appropriate place for inserting a node (13.2.6.1)

-- the place of an element, with what is around it
abbrev pub place_of : Place → Path → Place
place_of here path = into (top path).number
place_of place path = place

-- where a node is foster parented: in a template, before a table, or in the `html` element
abbrev pub foster_place : Path → Place
foster_place [] = behind 1
foster_place (f ∷ path) =
    if f.is_open && is_template f.tag then behind f.number
    else if f.is_open && is_table f.tag then place_of f.place path
    else foster_place path

-- where the innermost frame is the target, and foster parenting is enabled or not
abbrev pub place_in : Bool → Path → Place
place_in is_fostering path =
    if is_fostering && is_foster_target (top path).tag then foster_place path else here
