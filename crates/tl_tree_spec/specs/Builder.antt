-- What the tree builder holds (13.2.4), and what is done to it: the stack of open elements, the
-- list of active formatting elements, the insertion mode.
use Rattle.std.specs.Prelude.{ℕ, suc, Bool, true, false, not, ◌||◌, ◌&&◌, ◌==◌, nat_lt, List, [], ◌∷◌, ◌++◌, length, map, Option, Some, None, if◌then◌else◌}
use Rattle.std.specs.List.{list_all, list_any}
use Rattle.std.specs.Str.{bytes_eq}
use Rattle.tl_html_spec.specs.HtmlTokenizer.{HtmlAttribute}
use Rattle.tl_tree_spec.specs.HtmlForest.{HtmlTag}
use Rattle.tl_tree_spec.specs.Groups.{Group, a_caption, a_cell, a_column_group, a_row, a_table, a_table_body, group, is_implied}

-- an element as the builder knows it: its number tells it from others that look alike
pub record Element : Type 0 where
  pub number : ℕ
  pub own : HtmlTag

-- nodes in a row, the last one outside: a text after these, an element with its children after
-- these
pub data Nodes : Type 0 where
  no_nodes : Nodes
  and_text : Nodes → List ℕ → Nodes
  and_element : Nodes → HtmlTag → Nodes → Nodes

-- an open element, with the children that it has so far
pub record Frame : Type 0 where
  pub element : Element
  pub children : Nodes

-- the insertion modes (13.2.4.1) that are written down here
pub data Mode : Type 0 where
  in_body : Mode
  in_table : Mode
  in_caption : Mode
  in_column_group : Mode
  in_table_body : Mode
  in_row : Mode
  in_cell : Mode

-- the stack of open elements (13.2.4.2): the current node, and those around it, the innermost
-- first; the last of all is the `html` element
pub record Stack : Type 0 where
  pub current : Frame
  pub others : List Frame

-- an entry of the list of active formatting elements (13.2.4.3), of which the latest comes first
pub data Entry : Type 0 where
  marker : Entry
  formatting : Element → Entry

-- what is set before tokens are read, and stays so
pub record Reading : Type 0 where
  -- whether `search` is a special element: it is one by the standard (13.2.4.2), and not in all
  -- browsers
  pub counts_search : Bool
  -- whether the document is in quirks mode
  pub is_quirks : Bool

pub record Builder : Type 0 where
  pub stack : Stack
  pub active : List Entry
  -- the number of the next element
  pub next : ℕ
  -- whether a line feed is ignored that comes next
  pub skips : Bool
  pub mode : Mode
  pub reading : Reading

-- one of these passes the test, and none between stops the search
abbrev pub within : {A : Type 0} → (A → Bool) → (A → Bool) → List A → Bool
within test stops [] = false
within test stops (x ∷ xs) = test x || (not (stops x) && within test stops xs)

-- Modes (13.2.4.1)

-- the mode inside an element of a group, in this mode around it
abbrev pub mode_by : Group → Mode → Mode
mode_by a_table m = in_table
mode_by a_caption m = in_caption
mode_by a_column_group m = in_column_group
mode_by a_table_body m = in_table_body
mode_by a_row m = in_row
mode_by a_cell m = in_cell
mode_by _ m = m

-- the mode where elements of these names are open, the innermost first: that to which it is reset
-- appropriately (13.2.4.1)
abbrev pub mode_of : List (List ℕ) → Mode
mode_of [] = in_body
mode_of (n ∷ names) = mode_by (group n) (mode_of names)

-- the modes whose rules are those of "in body" but for tags of tables
abbrev pub is_flow : Mode → Bool
is_flow in_body = true
is_flow in_cell = true
is_flow in_caption = true
is_flow _ = false

-- Open elements (13.2.4.2)

-- an element that is not open any more stands at the end of the one around it
abbrev pub closed_into : Frame → Frame → Frame
closed_into outer f =
    record outer { children = and_element outer.children f.element.own f.children }

abbrev pub elements : Stack → List Element
elements s = s.current.element ∷ map (λ (f : Frame). f.element) s.others

abbrev pub names : Stack → List (List ℕ)
names s = map (λ (e : Element). e.own.name) (elements s)

-- the current node is popped; the `html` element stays
abbrev pub popped : Frame → List Frame → Stack
popped f [] = record { current = f; others = [] }
popped f (outer ∷ others) = record { current = closed_into outer f; others = others }

-- elements are popped until one is that passes the test
abbrev pub popped_through : (Element → Bool) → Frame → List Frame → Stack
popped_through test f [] = record { current = f; others = [] }
popped_through test f (outer ∷ others) =
    if test f.element then record { current = closed_into outer f; others = others }
    else popped_through test (closed_into outer f) others

-- implied end tags are generated (13.2.6.3), but for names that pass the test
abbrev pub implied_closed : (List ℕ → Bool) → Frame → List Frame → Stack
implied_closed but f [] = record { current = f; others = [] }
implied_closed but f (outer ∷ others) =
    if is_implied f.element.own.name && not (but f.element.own.name)
    then implied_closed but (closed_into outer f) others
    else record { current = f; others = outer ∷ others }

abbrev pub has_name : (List ℕ → Bool) → Element → Bool
has_name test e = test e.own.name

abbrev pub has_number : ℕ → Element → Bool
has_number k e = e.number == k

-- implied end tags but for names, and then pops until an element of a name was popped
abbrev pub closed_through : (List ℕ → Bool) → (List ℕ → Bool) → Stack → Stack
closed_through but test s =
    let implied = implied_closed but s.current s.others in
    popped_through (has_name test) implied.current implied.others

abbrev pub no_name : List ℕ → Bool
no_name n = false

-- Active formatting elements (13.2.4.3)

abbrev pub is_listed : ℕ → List Entry → Bool
is_listed k [] = false
is_listed k (marker ∷ entries) = is_listed k entries
is_listed k (formatting e ∷ entries) = (e.number == k) || is_listed k entries

-- the latest of a name after the last marker
abbrev pub listed : List ℕ → List Entry → Option Element
listed n [] = None
listed n (marker ∷ entries) = None
listed n (formatting e ∷ entries) = if bytes_eq n e.own.name then Some e else listed n entries

abbrev pub unlisted : ℕ → List Entry → List Entry
unlisted k [] = []
unlisted k (marker ∷ entries) = marker ∷ unlisted k entries
unlisted k (formatting e ∷ entries) =
    if e.number == k then entries else formatting e ∷ unlisted k entries

-- up to the last marker, which goes too
abbrev pub without_last_marker : List Entry → List Entry
without_last_marker [] = []
without_last_marker (marker ∷ entries) = entries
without_last_marker (formatting e ∷ entries) = without_last_marker entries

abbrev pub same_attribute : HtmlAttribute → HtmlAttribute → Bool
same_attribute a b = bytes_eq a.0 b.0 && bytes_eq a.1 b.1

-- the same name, and attributes that can be paired
abbrev pub is_alike : HtmlTag → HtmlTag → Bool
is_alike a b =
    bytes_eq a.name b.name && (length a.attributes == length b.attributes)
    && list_all (λ (x : HtmlAttribute). list_any (same_attribute x) b.attributes) a.attributes

-- how many there are alike after the last marker
abbrev pub alike_count : HtmlTag → List Entry → ℕ
alike_count own [] = 0
alike_count own (marker ∷ entries) = 0
alike_count own (formatting e ∷ entries) =
    if is_alike own e.own then suc (alike_count own entries) else alike_count own entries

-- without the earliest of them
abbrev pub without_earliest : HtmlTag → List Entry → List Entry
without_earliest own [] = []
without_earliest own (marker ∷ entries) = marker ∷ entries
without_earliest own (formatting e ∷ entries) =
    if is_alike own e.own && (alike_count own entries == 0) then entries
    else formatting e ∷ without_earliest own entries

-- the Noah's Ark clause: where there are three alike, the earliest goes
abbrev pub with_room : HtmlTag → List Entry → List Entry
with_room own entries =
    if nat_lt 2 (alike_count own entries) then without_earliest own entries else entries

-- Insertions (13.2.6.1)

abbrev pub with_stack : Builder → Stack → Builder
with_stack b s = record b { stack = s }

abbrev pub new_element : Builder → HtmlTag → Element
new_element b own = record { number = b.next; own = own }

-- an element is inserted, and is the current node then
abbrev pub inserted : Builder → HtmlTag → Builder
inserted b own =
    record b {
      stack = record {
        current = record { element = new_element b own; children = no_nodes };
        others = b.stack.current ∷ b.stack.others;
      };
      next = suc b.next;
    }

-- and popped at once
abbrev pub alone : Builder → HtmlTag → Builder
alone b own =
    record b {
      stack = record b.stack {
        current =
            record b.stack.current { children = and_element b.stack.current.children own no_nodes };
      };
      next = suc b.next;
    }

-- an element is inserted and listed as active
abbrev pub formatted : Builder → HtmlTag → Builder
formatted b own =
    record (inserted b own) { active = formatting (new_element b own) ∷ with_room own b.active }

abbrev pub and_character : Nodes → ℕ → Nodes
and_character no_nodes c = and_text no_nodes (c ∷ [])
and_character (and_text nodes bytes) c = and_text nodes (bytes ++ c ∷ [])
and_character (and_element nodes own children) c =
    and_text (and_element nodes own children) (c ∷ [])

abbrev pub with_character : Builder → ℕ → Builder
with_character b c =
    record b {
      stack = record b.stack {
        current = record b.stack.current { children = and_character b.stack.current.children c };
      };
    }

abbrev pub is_open : ℕ → List Element → Bool
is_open k es = list_any (has_number k) es

abbrev pub reopened : HtmlTag → Builder → Builder
reopened own b = record (inserted b own) { active = formatting (new_element b own) ∷ b.active }

-- the active formatting elements are reconstructed (13.2.4.3): those that are not open, from the
-- earliest after the last marker or open one on, are inserted again
abbrev pub rebuilt : Builder → List Entry → Builder
rebuilt b [] = record b { active = [] }
rebuilt b (marker ∷ entries) = record b { active = marker ∷ entries }
rebuilt b (formatting e ∷ entries) =
    if is_open e.number (elements b.stack) then record b { active = formatting e ∷ entries }
    else reopened e.own (rebuilt b entries)

abbrev pub reconstructed : Builder → Builder
reconstructed b = rebuilt b b.active
