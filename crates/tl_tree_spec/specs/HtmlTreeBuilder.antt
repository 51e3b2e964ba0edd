-- The tree builder of the HTML standard (13.2.6): its insertion modes "in body" (13.2.6.4.7) and
-- those of tables (13.2.6.4.9 to .15), with scripting off.
--
-- What is not written down has no outcome (`None`), so a law that names an outcome says as well
-- that the builder meets none of it:
-- - what leaves these modes, or stands in the head: `template`, `frameset`, `svg`, `math`, `html`,
--   `body`, the elements of the head, those whose content is no markup, and `noscript`;
-- - what is foster parented: in a table, tags and characters that are none of tables;
-- - `form`, `input`, `select`, `option` and `optgroup`, with the rules for the form that is open;
-- - comments and doctypes;
-- - in the adoption agency algorithm what follows from its step on a furthest block; and that an
--   `a` leaves the open elements from between others.
--
-- Two things are written down both ways (`Reading`): whether `search` is a special element
-- (13.2.4.2), as the standard says, or not, as in Chromium 156; and whether the document is in
-- quirks mode, where a `table` closes no `p`.
--
-- Left out, since it shows in no tree that is made here: parse errors, the frameset-ok flag, the
-- self-closing flag, and namespaces, as no element here is of another one than HTML's.
use Rattle.std.specs.Prelude.{ℕ, Bool, true, false, not, ◌||◌, ◌&&◌, ◌==◌, List, [], ◌∷◌, Option, Some, None, option_map, codes, if◌then◌else◌}
use Rattle.std.specs.Char.{is_ascii_whitespace}
use Rattle.std.specs.Str.{bytes_eq}
use Rattle.tl_spec.specs.Tree.Forest.{none, tag, text}
use Rattle.tl_html_spec.specs.HtmlTokenizer.{Character, CommentToken, DoctypeToken, EndTag, HtmlToken, StartTag}
use Rattle.tl_html_spec.specs.Balanced.{is_button_scope, is_item_bound, is_list_scope, is_one_of, is_scope, is_special}
use Rattle.tl_tree_spec.specs.HtmlForest.{HtmlForest, HtmlTag}
use Rattle.tl_tree_spec.specs.Groups.{Group, a_block, a_break, a_button, a_caption, a_cell, a_column, a_column_group, a_description, a_detail, a_format, a_heading, a_mark, a_nobr, a_paragraph, a_preformatted, a_row, a_ruby_base, a_ruby_text, a_rule, a_table, a_table_body, a_void, an_anchor, an_image, an_item, an_option, any_other, elsewhere, group, is_body_context, is_caption, is_cell, is_column_group, is_description, is_heading, is_item, is_paragraph, is_part, is_row, is_row_context, is_table, is_table_body, is_table_context, is_table_scope}
use Rattle.tl_tree_spec.specs.Builder.{Builder, Element, Frame, Mode, Nodes, Reading, Stack, alone, and_element, and_text, closed_into, closed_through, elements, formatted, has_name, has_number, implied_closed, in_body, in_caption, in_cell, in_column_group, in_row, in_table, in_table_body, inserted, is_flow, is_listed, is_open, listed, marker, mode_of, names, no_name, no_nodes, popped, popped_through, reconstructed, unlisted, with_character, with_stack, within, without_last_marker}

-- Special elements (13.2.4.2)

-- whether a name is that of one
abbrev pub is_special_in : Builder → List ℕ → Bool
is_special_in b n =
    is_special n && (b.reading.counts_search || not (is_one_of (codes "search") n))

-- a special element but `address`, `div` and `p`
abbrev pub is_item_bound_in : Builder → List ℕ → Bool
is_item_bound_in b n =
    is_item_bound n && (b.reading.counts_search || not (is_one_of (codes "search") n))

-- "in body" (13.2.6.4.7)

-- where an element that passes the test is open in a scope, which these bound: implied end tags are
-- generated, but for some names, and elements popped until it was popped
abbrev pub closed_in : (List ℕ → Bool) → (List ℕ → Bool) → (List ℕ → Bool) → Builder → Builder
closed_in bounds but test b =
    if within test bounds (names b.stack) then with_stack b (closed_through but test b.stack) else b

-- a `p` element is closed, if one is in button scope
abbrev pub p_closed : Builder → Builder
p_closed b = closed_in is_button_scope is_paragraph is_paragraph b

-- before a table, but in quirks mode
abbrev pub ready_for_table : Builder → Builder
ready_for_table b = if b.reading.is_quirks then b else p_closed b

-- a heading that is the current node is popped
abbrev pub heading_closed : Builder → Builder
heading_closed b =
    if is_heading b.stack.current.element.own.name
    then with_stack b (popped b.stack.current b.stack.others)
    else b

-- an earlier item is closed, up to a special element but `address`, `div` and `p`; so is an earlier
-- description
abbrev pub item_closed : Builder → Builder
item_closed b = closed_in (is_item_bound_in b) is_item is_item b

-- the innermost name that passes a test
abbrev pub found : (List ℕ → Bool) → List (List ℕ) → List ℕ
found test [] = []
found test (n ∷ ns) = if test n then n else found test ns

abbrev pub description_closed : Builder → Builder
description_closed b =
    let is_found = bytes_eq (found is_description (names b.stack)) in
    if within is_description (is_item_bound_in b) (names b.stack) then with_stack b
    (closed_through is_found is_found b.stack) else b

-- a button that is in scope is closed
abbrev pub button_closed : Builder → List ℕ → Builder
button_closed b n = closed_in is_scope no_name (bytes_eq n) b

-- in a ruby, implied end tags are generated, but for some names
abbrev pub ruby_closed : (List ℕ → Bool) → Builder → Builder
ruby_closed but b =
    if within (is_one_of (codes "ruby")) is_scope (names b.stack)
    then with_stack b (implied_closed but b.stack.current b.stack.others)
    else b

-- any other end tag
abbrev pub other_ended : Builder → List ℕ → Builder
other_ended b n = closed_in (is_special_in b) (bytes_eq n) (bytes_eq n) b

-- a special element stands further in than this one
abbrev pub has_furthest_block : (List ℕ → Bool) → ℕ → List Element → Bool
has_furthest_block special k [] = false
has_furthest_block special k (e ∷ es) =
    if e.number == k then false else special e.own.name || has_furthest_block special k es

-- the adoption agency algorithm, from its step on the formatting element on
abbrev pub adopted : Builder → List ℕ → Option Element → Option Builder
adopted b n None = Some (other_ended b n)
adopted b n (Some e) =
    if not (is_open e.number (elements b.stack))
    then Some (record b { active = unlisted e.number b.active })
    else if not (within (has_number e.number) (has_name is_scope) (elements b.stack)) then Some b
    else if has_furthest_block (is_special_in b) e.number (elements b.stack) then None
    else Some (record b {
      stack = popped_through (has_number e.number) b.stack.current b.stack.others;
      active = unlisted e.number b.active;
    })

-- the adoption agency algorithm, for an end tag, and for a start tag of `a` or `nobr`
abbrev pub adoption : Builder → List ℕ → Option Builder
adoption b n =
    if bytes_eq n b.stack.current.element.own.name
    && not (is_listed b.stack.current.element.number b.active)
    then Some (with_stack b (popped b.stack.current b.stack.others))
    else adopted b n (listed n b.active)

-- an `a` that is still open or listed would be taken out from between others
abbrev pub anchor_gone : Element → Option Builder → Option Builder
anchor_gone e None = None
anchor_gone e (Some b) =
    if is_listed e.number b.active || is_open e.number (elements b.stack) then None else Some b

-- the `a` that is listed is ended
abbrev pub anchor_ended : Builder → List ℕ → Option Element → Option Builder
anchor_ended b n None = Some b
anchor_ended b n (Some e) = anchor_gone e (adoption b n)

abbrev pub is_rtc : List ℕ → Bool
is_rtc n = is_one_of (codes "rtc") n

abbrev pub to_mode : Mode → Builder → Builder
to_mode m b = record b { mode = m }

-- a start tag, by the group of its name
abbrev pub body_start : Builder → Group → HtmlTag → Option Builder
body_start b a_paragraph own = Some (inserted (p_closed b) own)
body_start b a_block own = Some (inserted (p_closed b) own)
body_start b a_heading own = Some (inserted (heading_closed (p_closed b)) own)
body_start b a_preformatted own = Some (record (inserted (p_closed b) own) { skips = true })
body_start b an_item own = Some (inserted (p_closed (item_closed b)) own)
body_start b a_description own = Some (inserted (p_closed (description_closed b)) own)
body_start b a_button own = Some (inserted (reconstructed (button_closed b own.name)) own)
body_start b an_anchor own =
    option_map (λ (c : Builder). formatted (reconstructed c) own)
    (anchor_ended b own.name (listed own.name b.active))
body_start b a_format own = Some (formatted (reconstructed b) own)
body_start b a_nobr own =
    if within (bytes_eq own.name) is_scope (names (reconstructed b).stack)
    then option_map (λ (c : Builder). formatted (reconstructed c) own)
    (adoption (reconstructed b) own.name)
    else Some (formatted (reconstructed b) own)
body_start b a_mark own =
    let opened = inserted (reconstructed b) own in
    Some (record opened { active = marker ∷ opened.active })
body_start b a_break own = Some (alone (reconstructed b) own)
body_start b a_void own = Some (alone (reconstructed b) own)
body_start b an_image own = Some (alone (reconstructed b) (record own { name = codes "img" }))
body_start b a_detail own = Some (alone b own)
body_start b a_rule own = Some (alone (p_closed b) own)
body_start b a_ruby_base own = Some (inserted (ruby_closed no_name b) own)
body_start b a_ruby_text own = Some (inserted (ruby_closed is_rtc b) own)
body_start b a_table own = Some (to_mode in_table (inserted (ready_for_table b) own))
body_start b an_option own = None
body_start b elsewhere own = None
body_start b any_other own = Some (inserted (reconstructed b) own)
body_start b _ own = Some b

-- an end tag of a block, where an element of its name is in scope
abbrev pub block_ended : Builder → List ℕ → Builder
block_ended b n = closed_in is_scope no_name (bytes_eq n) b

abbrev pub heading_ended : Builder → Builder
heading_ended b = closed_in is_scope no_name is_heading b

abbrev pub item_ended : Builder → Builder
item_ended b = closed_in is_list_scope is_item is_item b

abbrev pub description_ended : Builder → List ℕ → Builder
description_ended b n = closed_in is_scope (bytes_eq n) (bytes_eq n) b

-- where none is in button scope, an empty one is inserted first
abbrev pub p_ended : Builder → List ℕ → Builder
p_ended b n =
    if within is_paragraph is_button_scope (names b.stack)
    then with_stack b (closed_through is_paragraph is_paragraph b.stack)
    else alone b (record { name = n; attributes = [] })

-- an `applet`, `marquee` or `object`, with what it marked
abbrev pub mark_ended : Builder → List ℕ → Builder
mark_ended b n =
    if within (bytes_eq n) is_scope (names b.stack)
    then record b {
      stack = closed_through no_name (bytes_eq n) b.stack;
      active = without_last_marker b.active;
    }
    else b

-- an end tag, by the group of its name
abbrev pub body_end : Builder → Group → List ℕ → Option Builder
body_end b a_paragraph n = Some (p_ended b n)
body_end b a_block n = Some (block_ended b n)
body_end b a_heading n = Some (heading_ended b)
body_end b a_preformatted n = Some (block_ended b n)
body_end b an_item n = Some (item_ended b)
body_end b a_description n = Some (description_ended b n)
body_end b a_button n = Some (block_ended b n)
body_end b an_anchor n = adoption b n
body_end b a_format n = adoption b n
body_end b a_nobr n = adoption b n
body_end b a_mark n = Some (mark_ended b n)
body_end b a_break n = Some (alone (reconstructed b) (record { name = n; attributes = [] }))
body_end b elsewhere n = None
body_end b _ n = Some (other_ended b n)

-- Tables (13.2.6.4.9 to .15)

-- the stack is cleared back to an element of these
abbrev pub popped_back : (List ℕ → Bool) → Frame → List Frame → Stack
popped_back test f [] = record { current = f; others = [] }
popped_back test f (outer ∷ others) =
    if test f.element.own.name then record { current = f; others = outer ∷ others }
    else popped_back test (closed_into outer f) others

abbrev pub cleared : (List ℕ → Bool) → Builder → Builder
cleared test b = with_stack b (popped_back test b.stack.current b.stack.others)

abbrev pub current_popped : Builder → Builder
current_popped b = with_stack b (popped b.stack.current b.stack.others)

abbrev pub with_marker : Builder → Builder
with_marker b = record b { active = marker ∷ b.active }

-- an element whose start tag is missing
abbrev pub implied_tag : List ℕ → HtmlTag
implied_tag n = record { name = n; attributes = [] }

abbrev pub has_in_table_scope : (List ℕ → Bool) → Builder → Bool
has_in_table_scope test b = within test is_table_scope (names b.stack)

abbrev pub body_opened : Builder → HtmlTag → Builder
body_opened b own = to_mode in_table_body (inserted (cleared is_table_context b) own)

abbrev pub row_opened : Builder → HtmlTag → Builder
row_opened b own = to_mode in_row (inserted (cleared is_body_context b) own)

abbrev pub cell_opened : Builder → HtmlTag → Builder
cell_opened b own = to_mode in_cell (with_marker (inserted (cleared is_row_context b) own))

-- a table is closed, and the mode reset
abbrev pub table_closed : Builder → Builder
table_closed b =
    let stack = popped_through (has_name is_table) b.stack.current b.stack.others in
    record b { stack = stack; mode = mode_of (names stack) }

abbrev pub body_closed : Builder → Builder
body_closed b = to_mode in_table (current_popped (cleared is_body_context b))

abbrev pub row_closed : Builder → Builder
row_closed b = to_mode in_table_body (current_popped (cleared is_row_context b))

-- a cell or a caption is closed, with what it marked
abbrev pub marked_closed : (List ℕ → Bool) → Mode → Builder → Builder
marked_closed test m b =
    record b {
      stack = closed_through no_name test b.stack;
      active = without_last_marker b.active;
      mode = m;
    }

-- "in table" (13.2.6.4.9)
abbrev pub table_start : Builder → Group → HtmlTag → Option Builder
table_start b a_caption own =
    Some (to_mode in_caption (inserted (with_marker (cleared is_table_context b)) own))
table_start b a_column_group own =
    Some (to_mode in_column_group (inserted (cleared is_table_context b) own))
table_start b a_column own =
    Some (alone (to_mode in_column_group
    (inserted (cleared is_table_context b) (implied_tag (codes "colgroup")))) own)
table_start b a_table_body own = Some (body_opened b own)
table_start b a_row own = Some (row_opened (body_opened b (implied_tag (codes "tbody"))) own)
table_start b a_cell own =
    Some (cell_opened (row_opened (body_opened b (implied_tag (codes "tbody")))
    (implied_tag (codes "tr"))) own)
table_start b a_table own =
    if not (has_in_table_scope is_table b) then Some b
    else if is_flow (table_closed b).mode then body_start (table_closed b) a_table own
    else None
table_start b _ own = None

abbrev pub table_end : Builder → Group → List ℕ → Option Builder
table_end b a_table n = Some (if has_in_table_scope is_table b then table_closed b else b)
table_end b g n = if is_part g then Some b else None

-- "in caption" (13.2.6.4.11)
abbrev pub caption_closed : Builder → Builder
caption_closed b = marked_closed is_caption in_table b

abbrev pub caption_part_start : Builder → Group → HtmlTag → Option Builder
caption_part_start b g own =
    if has_in_table_scope is_caption b then table_start (caption_closed b) g own else Some b

abbrev pub caption_start : Builder → Group → HtmlTag → Option Builder
caption_start b g own = if is_part g then caption_part_start b g own else body_start b g own

abbrev pub caption_end : Builder → Group → List ℕ → Option Builder
caption_end b a_caption n = Some (if has_in_table_scope is_caption b then caption_closed b else b)
caption_end b a_table n =
    if has_in_table_scope is_caption b then table_end (caption_closed b) a_table n else Some b
caption_end b g n = if is_part g then Some b else body_end b g n

-- "in column group" (13.2.6.4.12)
abbrev pub is_in_column_group : Builder → Bool
is_in_column_group b = is_column_group b.stack.current.element.own.name

abbrev pub column_group_closed : Builder → Builder
column_group_closed b = to_mode in_table (current_popped b)

abbrev pub column_start : Builder → Group → HtmlTag → Option Builder
column_start b a_column own = Some (alone b own)
column_start b elsewhere own = None
column_start b g own =
    if is_in_column_group b then table_start (column_group_closed b) g own else Some b

abbrev pub column_end : Builder → Group → List ℕ → Option Builder
column_end b a_column_group n = Some (if is_in_column_group b then column_group_closed b else b)
column_end b a_column n = Some b
column_end b elsewhere n = None
column_end b g n = if is_in_column_group b then table_end (column_group_closed b) g n else Some b

-- "in table body" (13.2.6.4.13)
abbrev pub body_part_start : Builder → Group → HtmlTag → Option Builder
body_part_start b g own =
    if has_in_table_scope is_table_body b then table_start (body_closed b) g own else Some b

abbrev pub table_body_start : Builder → Group → HtmlTag → Option Builder
table_body_start b a_row own = Some (row_opened b own)
table_body_start b a_cell own = Some (cell_opened (row_opened b (implied_tag (codes "tr"))) own)
table_body_start b g own = if is_part g then body_part_start b g own else table_start b g own

abbrev pub table_body_end : Builder → Group → List ℕ → Option Builder
table_body_end b a_table_body n =
    Some (if has_in_table_scope (bytes_eq n) b then body_closed b else b)
table_body_end b a_table n =
    if has_in_table_scope is_table_body b then table_end (body_closed b) a_table n else Some b
table_body_end b g n = table_end b g n

-- "in row" (13.2.6.4.14)
abbrev pub row_part_start : Builder → Group → HtmlTag → Option Builder
row_part_start b g own =
    if has_in_table_scope is_row b then table_body_start (row_closed b) g own else Some b

abbrev pub row_start : Builder → Group → HtmlTag → Option Builder
row_start b a_cell own = Some (cell_opened b own)
row_start b g own = if is_part g then row_part_start b g own else table_start b g own

abbrev pub row_end : Builder → Group → List ℕ → Option Builder
row_end b a_row n = Some (if has_in_table_scope is_row b then row_closed b else b)
row_end b a_table n =
    if has_in_table_scope is_row b then table_body_end (row_closed b) a_table n else Some b
row_end b a_table_body n =
    if has_in_table_scope (bytes_eq n) b
    && has_in_table_scope is_row b then table_body_end (row_closed b) a_table_body n
    else Some b
row_end b g n = table_end b g n

-- "in cell" (13.2.6.4.15); a cell is open there
abbrev pub cell_closed : Builder → Builder
cell_closed b = marked_closed is_cell in_row b

abbrev pub cell_start : Builder → Group → HtmlTag → Option Builder
cell_start b g own = if is_part g then row_start (cell_closed b) g own else body_start b g own

abbrev pub cell_outer_end : Builder → Group → List ℕ → Option Builder
cell_outer_end b g n =
    if has_in_table_scope (bytes_eq n) b then row_end (cell_closed b) g n else Some b

abbrev pub cell_end : Builder → Group → List ℕ → Option Builder
cell_end b a_cell n =
    Some (if has_in_table_scope (bytes_eq n) b then marked_closed (bytes_eq n) in_row b else b)
cell_end b a_caption n = Some b
cell_end b a_column_group n = Some b
cell_end b a_column n = Some b
cell_end b a_table n = cell_outer_end b a_table n
cell_end b a_table_body n = cell_outer_end b a_table_body n
cell_end b a_row n = cell_outer_end b a_row n
cell_end b g n = body_end b g n

-- tags by the mode
abbrev pub start_tag : Mode → Builder → Group → HtmlTag → Option Builder
start_tag in_body b g own = body_start b g own
start_tag in_table b g own = table_start b g own
start_tag in_caption b g own = caption_start b g own
start_tag in_column_group b g own = column_start b g own
start_tag in_table_body b g own = table_body_start b g own
start_tag in_row b g own = row_start b g own
start_tag in_cell b g own = cell_start b g own

abbrev pub end_tag : Mode → Builder → Group → List ℕ → Option Builder
end_tag in_body b g n = body_end b g n
end_tag in_table b g n = table_end b g n
end_tag in_caption b g n = caption_end b g n
end_tag in_column_group b g n = column_end b g n
end_tag in_table_body b g n = table_body_end b g n
end_tag in_row b g n = row_end b g n
end_tag in_cell b g n = cell_end b g n

-- characters, by whether the rules are those of "in body": between the parts of a table white space
-- is inserted (13.2.6.4.10), and all else foster parented
abbrev pub a_character : Bool → Builder → ℕ → Option Builder
a_character true b c = Some (if c == 0 then b else with_character (reconstructed b) c)
a_character false b c = if is_ascii_whitespace c then Some (with_character b c) else None

abbrev pub of_token : Builder → HtmlToken → Option Builder
of_token b (Character c) = a_character (is_flow b.mode) b c
of_token b (StartTag n attributes closes) =
    start_tag b.mode b (group n) (record { name = n; attributes = attributes })
of_token b (EndTag n) = end_tag b.mode b (group n) n
of_token b (CommentToken bytes) = None
of_token b DoctypeToken = None

abbrev pub is_line_feed : HtmlToken → Bool
is_line_feed (Character c) = c == 10
is_line_feed _ = false

-- no line feed is ignored any more
abbrev pub calm : Builder → Builder
calm b = record b { skips = false }

abbrev pub step : Builder → HtmlToken → Option Builder
step b token = if b.skips && is_line_feed token then Some (calm b) else of_token (calm b) token

abbrev pub run : Option Builder → List HtmlToken → Option Builder
run None tokens = None
run (Some b) [] = Some b
run (Some b) (token ∷ tokens) = run (step b token) tokens

-- Trees

-- these nodes, and then those trees
abbrev pub before : Nodes → HtmlForest → HtmlForest
before no_nodes later = later
before (and_text nodes bytes) later = before nodes (text bytes later)
before (and_element nodes own children) later = before nodes (tag own (before children none) later)

-- all that is open is popped: the children of the `html` element
abbrev pub whole : Frame → List Frame → Nodes
whole f [] = f.children
whole f (outer ∷ others) = whole (closed_into outer f) others

-- the fragment algorithm (13.4), whose context is an element that the mode "in body" is for
abbrev pub fragment : Reading → Builder
fragment reading = record {
  stack = record {
    current = record {
      element = record { number = 0; own = record { name = codes "html"; attributes = [] } };
      children = no_nodes;
    };
    others = [];
  };
  active = [];
  next = 1;
  skips = false;
  mode = in_body;
  reading = reading;
}

abbrev pub trees_of : Builder → HtmlForest
trees_of b = before (whole b.stack.current b.stack.others) none

-- as the standard says, in a document that isn't in quirks mode
abbrev pub standard : Reading
standard = record { counts_search = true; is_quirks = false }

-- the trees that tokens make
abbrev pub html_trees_where : Reading → List HtmlToken → Option HtmlForest
html_trees_where reading tokens = option_map trees_of (run (Some (fragment reading)) tokens)

-- by the standard, in a document that isn't in quirks mode
abbrev pub html_trees : List HtmlToken → Option HtmlForest
html_trees tokens = html_trees_where standard tokens

-- the same where `search` is no special element
abbrev pub html_trees_without_search : List HtmlToken → Option HtmlForest
html_trees_without_search tokens =
    html_trees_where (record standard { counts_search = false }) tokens

-- by the standard, in a document in quirks mode
abbrev pub html_trees_in_quirks : List HtmlToken → Option HtmlForest
html_trees_in_quirks tokens = html_trees_where (record standard { is_quirks = true }) tokens
