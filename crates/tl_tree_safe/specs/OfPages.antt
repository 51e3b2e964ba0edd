-- Places in a page that is being read, where a print may be put, whatever the page has before them:
-- what the tree builder of the standard holds there (13.2.4).
use Rattle.std.specs.List.{list_all}
use Rattle.std.specs.Prelude.{Bool, List, [], codes, false, map, nat_lt, not, true, ℕ, ◌&&◌, ◌++◌, ◌==◌, ◌∷◌, ◌≡◌, if◌then◌else◌}
use Rattle.tl_html_spec.specs.HtmlTokenizer.{HtmlToken}
use Rattle.tl_dom_spec.specs.Builder.{Builder, Entry, Flags, Mode, formatting, has_in_button_scope, has_in_scope, in_body, in_caption, in_cell, is_fragment, marker}
use Rattle.tl_dom_spec.specs.Dispatcher.{tokens_done}
use Rattle.tl_html_spec.specs.Driven.{GoesByName, plain}
use Rattle.tl_dom_spec.specs.Driver.{builder, token_of}
use Rattle.tl_dom_spec.specs.HtmlForest.{HtmlForest, before, no_trees}
use Rattle.tl_dom_spec.specs.HtmlTree.{after_tokens, document_of, page_start, tree_of_tokens}
use Rattle.tl_dom_spec.specs.Marks.{marked}
use Rattle.tl_dom_spec.specs.Partial.{without_numbers}
use Rattle.tl_dom_spec.specs.Path.{Frame, Nodes, and_comment, and_doctype, and_element, and_text, elements, has_tag, here, joined, no_nodes, put, top, with_text, within}
use Rattle.tl_dom_spec.specs.Reset.{mode_of}
use Rattle.tl_dom_spec.specs.Tags.{Tag, is_any, is_heading, is_html, is_item_bound, is_paragraph, is_select}

-- The place

-- a mode in which the rules are those of "in body" but for tags of tables, twice the same
abbrev pub are_flow : Mode → Mode → Bool
are_flow in_body in_body = true
are_flow in_cell in_cell = true
are_flow in_caption in_caption = true
are_flow _ _ = false

-- no formatting element is active since the last marker (13.2.4.3), so none is opened again
abbrev pub has_no_active : List Entry → Bool
has_no_active [] = true
has_no_active (marker ∷ entries) = true
has_no_active (formatting k tag ∷ entries) = false

-- the numbers of entries are such as were given to elements before this one
abbrev pub is_given : ℕ → Entry → Bool
is_given n marker = true
is_given n (formatting k tag) = nat_lt k n

abbrev pub are_given : ℕ → List Entry → Bool
are_given n entries = list_all (is_given n) entries

abbrev pub is_none : Nodes → Bool
is_none no_nodes = true
is_none _ = false

-- a page is read, and no fragment; no line feed is ignored that comes next; nothing is foster
-- parented
abbrev pub is_at_rest : Builder → Bool
is_at_rest b = (not (is_fragment b) && not b.skips) && not b.is_fostering

-- the current node is an element of HTML and no heading, and nothing waits to be put behind what is
-- in it
abbrev pub is_node_for : Frame → Bool
is_node_for f = (f.is_open && is_html f.tag) && (not (is_heading f.tag) && is_none f.waiting)

-- an item is open that a start tag would end
abbrev pub has_earlier : (Tag → Bool) → Builder → Bool
has_earlier test b =
    within (has_tag test) (has_tag (is_item_bound b.flags.counts_search)) (elements b.path)

-- no element is open that a start tag would end: a `p` that a block ends, an item or a description,
-- a `button`, a `nobr`; and none is a ruby or a `select`, in which end tags are implied
abbrev pub ends_none_in : Builder → Bool
ends_none_in b =
    ((not (has_in_button_scope is_paragraph b) && not (has_earlier (is_any (codes "li")) b))
    && (not (has_earlier (is_any (codes "dd dt")) b)
    && not (has_in_scope (is_any (codes "button")) b)))
    && (not (has_in_scope (is_any (codes "nobr")) b)
    && (not (has_in_scope (is_any (codes "ruby")) b) && not (has_in_scope is_select b)))

-- an open place: the insertion mode is "in body", "in cell" or "in caption", as it would be reset to
-- (13.2.4.1), no formatting element is active since the last marker, and no start tag ends what is
-- open
abbrev pub is_open_here : Builder → Bool
is_open_here b =
    (is_at_rest b && are_flow b.mode (mode_of b (elements b.path)))
    && ((has_no_active b.active && are_given b.next b.active)
    && (is_node_for (top b.path) && ends_none_in b))

-- What tokens do there

-- as this builder, but with the counters, the frameset-ok flag and the tokenizer's state of another
-- one; and with what that one keeps of "in table text" mode, which no rule reads outside of it
abbrev pub counted_as : Builder → Builder → Builder
counted_as other b = record b {
  next = other.next;
  original = other.original;
  pending = other.pending;
  is_frameset_ok = other.is_frameset_ok;
  reads = other.reads;
  tokens = other.tokens;
  added = other.added;
  excess = other.excess;
  marks = other.marks;
}

abbrev pub put_in : Builder → List HtmlToken → Builder
put_in b print = tokens_done b (map token_of print)

-- these tokens put these trees at the end of the current node, and leave all else as it was: what
-- was there, the elements that are open, the active formatting elements, the modes, the pointers
pub record PutsInto (b : Builder) (print : List HtmlToken) (trees : HtmlForest) : Type 0 where
  pub nodes : Nodes
  pub are : without_numbers (before nodes no_trees) ≡ without_numbers trees
  pub builds : put_in b print
      ≡ counted_as (put_in b print) (record b { path = put here nodes b.path })
  pub frameset : b.is_frameset_ok ≡ false → (put_in b print).is_frameset_ok ≡ false
  -- after each of them the tokenizer goes on in the state that names set, and in HTML content: it
  -- reads a print as the tokenizer that goes by names does
  pub driven : GoesByName builder b (map plain print)

-- what the builder holds after the first tokens of a page
abbrev pub begun : Flags → List HtmlToken → Builder
begun flags front = put_in (page_start flags) front

-- the tree of a page with a print in it is what the tokens behind that make of what the builder
-- held before it, with these trees at the end of the current node
pub record IsPutIntoPage (flags : Flags) (front print back : List HtmlToken)
    (trees : HtmlForest) : Type 0 where
  pub nodes : Nodes
  pub are : without_numbers (before nodes no_trees) ≡ without_numbers trees
  pub page : tree_of_tokens flags (front ++ (print ++ back))
      ≡ document_of (after_tokens (counted_as (begun flags (front ++ print))
      (record (begun flags front) { path = put here nodes (begun flags front).path })) back)

-- A place that a comment marks

-- nodes with others in the place of the comment of a number, texts that meet joined
abbrev pub filled : ℕ → Nodes → Nodes → Nodes
filled mark new no_nodes = no_nodes
filled mark new (and_text nodes own) = with_text (filled mark new nodes) own
filled mark new (and_comment nodes own) =
    if own.source == mark then joined (filled mark new nodes) new
    else and_comment (filled mark new nodes) own
filled mark new (and_doctype nodes own) = and_doctype (filled mark new nodes) own
filled mark new (and_element nodes tag below) =
    and_element (filled mark new nodes) tag (filled mark new below)

abbrev pub is_text : Nodes → Bool
is_text (and_text nodes own) = true
is_text _ = false

-- no comment has this number; and no text stands right beside another one, as in all pages
abbrev pub is_new : ℕ → Nodes → Bool
is_new mark no_nodes = true
is_new mark (and_text nodes own) = not (is_text nodes) && is_new mark nodes
is_new mark (and_comment nodes own) = not (own.source == mark) && is_new mark nodes
is_new mark (and_doctype nodes own) = is_new mark nodes
is_new mark (and_element nodes tag below) = is_new mark nodes && is_new mark below

abbrev pub is_new_in : ℕ → Builder → Bool
is_new_in mark b =
    list_all (λ (f : Frame). is_new mark f.children && is_new mark f.waiting) b.path

-- the number of a mark before a place that no comment there has
abbrev pub is_free_in : ℕ → Builder → Bool
is_free_in mark b = nat_lt mark b.marks && is_new_in mark b

-- a comment of this number
abbrev pub comment_of : ℕ → Nodes
comment_of mark = and_comment no_nodes (marked mark [])

-- the tree of a page with a print in it is that of the page with a comment there, where the nodes
-- of the print take the place of the comment: the tokens behind both find the same builder but for
-- that
pub record IsFilledIn (flags : Flags) (front print back : List HtmlToken) (trees : HtmlForest)
    (mark : ℕ) : Type 0 where
  -- of the print, and of the page with the comment
  pub nodes : Nodes
  pub page : Nodes
  pub are : without_numbers (before nodes no_trees) ≡ without_numbers trees
  pub with_comment : (document_of (after_tokens (counted_as (begun flags (front ++ print))
      (record (begun flags front) { path = put here (comment_of mark) (begun flags front).path }))
      back)).trees ≡ before page no_trees
  pub with_print : (tree_of_tokens flags (front ++ (print ++ back))).trees
      ≡ before (filled mark nodes page) no_trees
