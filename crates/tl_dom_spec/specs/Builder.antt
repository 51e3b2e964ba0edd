-- What the tree builder holds (13.2.4), what is done to it, and its tokens.
use Rattle.std.specs.Prelude.{Bool, List, None, Option, Some, [], codes, false, if◌then◌else◌, suc, true, zero, ℕ, ◌∷◌}
use Rattle.std.specs.Str.{bytes_eq}
use Rattle.tl_html_spec.specs.HtmlTokenizer.{State, after_start, raw, rawtext}
use Rattle.tl_dom_spec.specs.Tags.{Attribute, Tag, bare_tag, is_button_scope, is_list_scope, is_scope, is_table_scope, is_template, no_tag, with_missing}
use Rattle.tl_html_spec.specs.Doctypes.{Doctype}
use Rattle.tl_dom_spec.specs.Groups.{Group}
use Rattle.tl_dom_spec.specs.Marks.{Marked, marked}
use Rattle.tl_dom_spec.specs.Path.{Frame, Path, Place, and_comment, and_element, and_text, at_number, caught_up, elements, has_open, has_tag, has_within, here, implied_closed, new_frame, no_nodes, on_top, place_in, popped, popped_through, popped_to, put, top}

-- the insertion modes (13.2.4.1)
pub data Mode : Type 0 where
  initial : Mode
  before_html : Mode
  before_head : Mode
  in_head : Mode
  in_head_noscript : Mode
  after_head : Mode
  in_body : Mode
  text_mode : Mode
  in_table : Mode
  in_table_text : Mode
  in_caption : Mode
  in_column_group : Mode
  in_table_body : Mode
  in_row : Mode
  in_cell : Mode
  in_template : Mode
  after_body : Mode
  in_frameset : Mode
  after_frameset : Mode
  after_after_body : Mode
  after_after_frameset : Mode

-- tokens as the modes see them
pub data Token : Type 0 where
  a_character : ℕ → Token
  -- with the group of its name, and whether it has the self-closing flag
  a_start : Group → Tag → Bool → Token
  an_end : Group → List ℕ → Token
  a_comment : Marked (List ℕ) → Token
  a_doctype : Marked Doctype → Token
  end_of_file : Token

-- an entry of the list of active formatting elements (13.2.4.3), of which the latest comes first
pub data Entry : Type 0 where
  marker : Entry
  formatting : ℕ → Tag → Entry

-- what is set before a page is read, and stays so
pub record Flags : Type 0 where
  -- the scripting flag (13.2.4.5)
  pub is_scripting : Bool
  -- whether `search` is a special element: it is one by the standard, and not in all browsers
  pub counts_search : Bool

pub record Builder : Type 0 where
  pub path : Path
  pub active : List Entry
  -- the number of the next element
  pub next : ℕ
  pub mode : Mode
  -- the original insertion mode, in "text" and "in table text"
  pub original : Mode
  -- the stack of template insertion modes, the current one first
  pub templates : List Mode
  -- the form element pointer
  pub form : Option ℕ
  -- whether the head element pointer is set
  pub has_head : Bool
  pub is_frameset_ok : Bool
  pub is_fostering : Bool
  pub is_quirks : Bool
  -- whether a line feed is ignored that comes next
  pub skips : Bool
  -- the pending table character tokens
  pub pending : List ℕ
  -- the context element, in a fragment (13.4)
  pub context : Option Tag
  -- the state that the tokenizer goes on in after the token
  pub reads : State
  -- how many tokens were taken
  pub tokens : ℕ
  -- how many elements were put in, or opened again, that no start tag stands for
  pub added : ℕ
  -- by how many these were more than four for each token, where that was most
  pub excess : ℕ
  -- how many marks were taken: the number of the next one
  pub marks : ℕ
  pub flags : Flags

-- a token is done with, or is reprocessed
pub data Outcome : Type 0 where
  Done : Builder → Outcome
  Again : Builder → Outcome

-- steps as long as they ask for another one, and at most so many
abbrev pub repeated : ℕ → (Builder → Outcome) → Outcome → Builder
repeated n step (Done b) = b
repeated zero step (Again b) = b
repeated (suc n) step (Again b) = repeated n step (step b)

abbrev pub outcome_map : (Builder → Builder) → Outcome → Outcome
outcome_map f (Done b) = Done (f b)
outcome_map f (Again b) = Again (f b)

-- What is set

abbrev pub switch_to : Mode → Builder → Builder
switch_to m b = record b { mode = m }

abbrev pub with_path : Builder → Path → Builder
with_path b path = record b { path = path }

abbrev pub frameset_not_ok : Builder → Builder
frameset_not_ok b = record b { is_frameset_ok = false }

abbrev pub fostering : Bool → Builder → Builder
fostering is_on b = record b { is_fostering = is_on }

abbrev pub insert_marker : Builder → Builder
insert_marker b = record b { active = marker ∷ b.active }

abbrev pub without_last_marker : List Entry → List Entry
without_last_marker [] = []
without_last_marker (marker ∷ entries) = entries
without_last_marker (formatting k tag ∷ entries) = without_last_marker entries

-- the list of active formatting elements is cleared up to the last marker
abbrev pub clear_to_last_marker : Builder → Builder
clear_to_last_marker b = record b { active = without_last_marker b.active }

-- What is asked

abbrev pub current_node : Builder → Frame
current_node b = top b.path

abbrev pub current_tag : Builder → Tag
current_tag b = (top b.path).tag

abbrev pub is_only : List Frame → Bool
is_only (f ∷ []) = true
is_only _ = false

abbrev pub adjusted_tag : Option Tag → Path → Tag
adjusted_tag None path = (top path).tag
adjusted_tag (Some tag) path = if is_only (elements path) then tag else (top path).tag

-- the adjusted current node (13.2.4.2)
abbrev pub adjusted_current_node : Builder → Tag
adjusted_current_node b = adjusted_tag b.context b.path

abbrev pub has_in_scope : (Tag → Bool) → Builder → Bool
has_in_scope test b = has_within test is_scope b.path

abbrev pub has_in_button_scope : (Tag → Bool) → Builder → Bool
has_in_button_scope test b = has_within test is_button_scope b.path

abbrev pub has_in_list_item_scope : (Tag → Bool) → Builder → Bool
has_in_list_item_scope test b = has_within test is_list_scope b.path

abbrev pub has_in_table_scope : (Tag → Bool) → Builder → Bool
has_in_table_scope test b = has_within test is_table_scope b.path

abbrev pub has_template : Builder → Bool
has_template b = has_open is_template b.path

abbrev pub is_context : (Tag → Bool) → Option Tag → Bool
is_context test None = false
is_context test (Some tag) = test tag

abbrev pub is_fragment : Builder → Bool
is_fragment b = is_context (λ (t : Tag). true) b.context

-- What is popped

abbrev pub pop_current_node : Builder → Builder
pop_current_node b = with_path b (popped b.path)

-- elements are popped until one that passes a test was popped
abbrev pub pop_until : (Tag → Bool) → Builder → Builder
pop_until test b = with_path b (popped_through (has_tag test) b.path)

-- implied end tags are generated, but for elements that pass a test
abbrev pub generate_implied_end_tags_except_for : (Tag → Bool) → Builder → Builder
generate_implied_end_tags_except_for but b = with_path b (implied_closed but b.path)

-- the same without an exception
abbrev pub generate_implied_end_tags : Builder → Builder
generate_implied_end_tags b = generate_implied_end_tags_except_for no_tag b

-- implied end tags but for elements, and then pops until one that passes a test was popped
abbrev pub close_except_for : (Tag → Bool) → (Tag → Bool) → Builder → Builder
close_except_for but test b = pop_until test (generate_implied_end_tags_except_for but b)

-- elements are popped until the current node passes a test
abbrev pub clear_stack_back_to : (Tag → Bool) → Builder → Builder
clear_stack_back_to test b = with_path b (popped_to (has_tag test) b.path)

-- Insertions (13.2.6.1)

abbrev pub pushed_at : Place → Frame → Path → Path
pushed_at here f path = f ∷ on_top caught_up path
pushed_at place f path = f ∷ path

-- an element is inserted at a place, and is the current node then
abbrev pub insert_element_at : Place → Tag → Builder → Builder
insert_element_at place tag b = record b {
  path = pushed_at place (new_frame b.next tag place) b.path;
  next = suc b.next;
}

-- the appropriate place
abbrev pub appropriate_place : Builder → Place
appropriate_place b = place_in b.is_fostering b.path

abbrev pub insert_element : Tag → Builder → Builder
insert_element tag b = insert_element_at (appropriate_place b) tag b

-- and popped at once
abbrev pub insert_and_pop_at : Place → Tag → Builder → Builder
insert_and_pop_at place tag b =
    record b { path = put place (and_element no_nodes tag no_nodes) b.path; next = suc b.next }

abbrev pub insert_and_pop : Tag → Builder → Builder
insert_and_pop tag b = insert_and_pop_at (appropriate_place b) tag b

-- an element that no start tag stands for is counted
abbrev pub add_one : Builder → Builder
add_one b = record b { added = suc b.added }

-- an element without attributes, whose start tag is missing
abbrev pub insert_implied : List ℕ → Builder → Builder
insert_implied name b = add_one (insert_element (bare_tag name) b)

-- bytes are inserted, which stand behind the marks so far; a document takes no text
abbrev pub insert_bytes : List ℕ → Builder → Builder
insert_bytes bytes b =
    with_path b (put (appropriate_place b) (and_text no_nodes (marked b.marks bytes)) b.path)

abbrev pub insert_character : ℕ → Builder → Builder
insert_character c b = insert_bytes (c ∷ []) b

abbrev pub insert_comment_at : Place → Marked (List ℕ) → Builder → Builder
insert_comment_at place own b = with_path b (put place (and_comment no_nodes own) b.path)

abbrev pub insert_comment : Marked (List ℕ) → Builder → Builder
insert_comment own b = insert_comment_at (appropriate_place b) own b

-- attributes that an open element has not yet are added to it
abbrev pub with_more : List Attribute → Tag → Tag
with_more attributes t = record t { attributes = with_missing t.attributes attributes }

abbrev pub add_attributes : ℕ → List Attribute → Builder → Builder
add_attributes k attributes b =
    with_path b
    (at_number k (λ (f : Frame). record f { tag = with_more attributes f.tag }) b.path)

-- the generic raw text and RCDATA element parsing algorithms (13.2.6.2): the tokenizer goes on in
-- the state of the name. `noscript` comes here with scripting alone
abbrev pub state_inside : List ℕ → State
state_inside name =
    if bytes_eq (codes "noscript") name then raw (rawtext name) else after_start name

abbrev pub parse_raw_text_at : Place → Tag → Builder → Builder
parse_raw_text_at place tag b =
    record (insert_element_at place tag b) {
      reads = state_inside tag.name;
      original = b.mode;
      mode = text_mode;
    }

abbrev pub parse_raw_text : Tag → Builder → Builder
parse_raw_text tag b = parse_raw_text_at (appropriate_place b) tag b
