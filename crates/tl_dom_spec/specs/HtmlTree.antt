-- The trees of pages and of fragments (13.2.6, 13.4): what other definitions and contracts cite.
use Rattle.std.specs.Prelude.{Bool, List, None, Option, Some, [], codes, false, if◌then◌else◌, map, nat_lt, not, true, ℕ, ◌&&◌, ◌||◌, ◌∷◌}
use Rattle.tl_html_spec.specs.Balanced.{is_one_of}
use Rattle.tl_html_spec.specs.HtmlTokenizer.{HtmlToken, State, data_state, plaintext, raw, rcdata, with_feeds, without_mark}
use Rattle.tl_names.specs.Elements.{is_among, rawtext_names, rcdata_names}
use Rattle.tl_dom_spec.specs.Tags.{Tag, bare_tag, is_html, is_named, is_template}
use Rattle.tl_dom_spec.specs.Path.{Frame, document, has_number, here, joined, new_frame, popped_to, settled_while, top}
use Rattle.tl_dom_spec.specs.Builder.{Builder, Flags, end_of_file, in_template, initial}
use Rattle.tl_dom_spec.specs.Reset.{reset_insertion_mode}
use Rattle.tl_dom_spec.specs.Dispatcher.{token_done, tokens_done}
use Rattle.tl_html_spec.specs.Driven.{in_state}
use Rattle.tl_dom_spec.specs.Driver.{read_from, token_of}
use Rattle.tl_dom_spec.specs.HtmlForest.{HtmlForest, before, no_trees}

-- what a page is: whether its document is in quirks mode, and the trees in it, of which one is the
-- `html` element; beside it stand a doctype and comments
pub record Document : Type 0 where
  pub is_quirks : Bool
  pub trees : HtmlForest

-- by the standard, with scripting off
abbrev pub standard : Flags
standard = record { is_scripting = false; counts_search = true }

abbrev pub with_scripting : Flags
with_scripting = record standard { is_scripting = true }

-- where `search` is no special element
abbrev pub without_search : Flags
without_search = record standard { counts_search = false }

-- Pages

-- before the first token
abbrev pub page_start : Flags → Builder
page_start flags = record {
  path = document ∷ [];
  active = [];
  next = 1;
  mode = initial;
  original = initial;
  templates = [];
  form = None;
  has_head = false;
  is_frameset_ok = true;
  is_fostering = false;
  is_quirks = false;
  skips = false;
  pending = [];
  context = None;
  reads = data_state;
  tokens = 0;
  added = 0;
  excess = 0;
  marks = 0;
  flags = flags;
}

-- all is settled: what is in the outermost frame
abbrev pub any_frame : Frame → Bool
any_frame f = true

abbrev pub trees_in : Frame → HtmlForest
trees_in f = before (joined f.children f.waiting) no_trees

abbrev pub document_of : Builder → Document
document_of b = record {
  is_quirks = b.is_quirks;
  trees = trees_in (top (settled_while any_frame b.path b.path));
}

-- what the builder holds at the end of a page
abbrev pub page_read : Flags → List ℕ → Builder
page_read flags page =
    read_from (page_start flags) (in_state data_state) (with_feeds (without_mark page))

-- the document of a page
abbrev pub html_tree_by : Flags → List ℕ → Document
html_tree_by flags page = document_of (page_read flags page)

abbrev pub html_tree : List ℕ → Document
html_tree page = html_tree_by standard page

-- Fragments (13.4)

-- an element in which a text is read
pub record Context : Type 0 where
  pub tag : Tag
  -- whether it is a `form`, or stands in one
  pub is_in_form : Bool
  -- whether its document is in quirks mode
  pub is_quirks : Bool

-- an element of its own
abbrev pub context_of : Tag → Context
context_of tag = record {
  tag = tag;
  is_in_form = is_named (codes "form") tag;
  is_quirks = false;
}

-- the state in which the text of a context element begins: as no start tag was read before, no end
-- tag ends it there
abbrev pub is_raw_in : Flags → Tag → Bool
is_raw_in flags t =
    is_among rawtext_names t.name || is_one_of (codes "script plaintext") t.name
    || (flags.is_scripting && is_one_of (codes "noscript") t.name)

abbrev pub context_state : Flags → Tag → State
context_state flags t =
    if is_html t && is_among rcdata_names t.name then raw (rcdata [])
    else if is_html t && is_raw_in flags t then plaintext
    else data_state

-- the form element pointer names an element that is nowhere open
abbrev pub context_form : Context → Option ℕ
context_form context = if context.is_in_form then Some 0 else None

-- before the first token: the children of the context element are those of an `html` element
abbrev pub fragment_start : Flags → Context → Builder
fragment_start flags context =
    reset_insertion_mode (record (page_start flags) {
      path = new_frame 1 (bare_tag (codes "html")) here ∷ document ∷ [];
      next = 2;
      templates = if is_template context.tag then in_template ∷ [] else [];
      form = context_form context;
      is_quirks = context.is_quirks;
      context = Some context.tag;
    })

abbrev pub fragment_read : Flags → Context → List ℕ → Builder
fragment_read flags context bytes =
    read_from (fragment_start flags context) (in_state (context_state flags context.tag))
    (with_feeds bytes)

abbrev pub children_of : Builder → HtmlForest
children_of b = trees_in (top (popped_to (has_number 1) b.path))

-- the trees of a text in a context element
abbrev pub html_fragment_by : Flags → Context → List ℕ → HtmlForest
html_fragment_by flags context bytes = children_of (fragment_read flags context bytes)

abbrev pub html_fragment : Tag → List ℕ → HtmlForest
html_fragment tag bytes = html_fragment_by standard (context_of tag) bytes

-- Tokens, where the tokenizer went by names alone

abbrev pub after_tokens : Builder → List HtmlToken → Builder
after_tokens b tokens = token_done (tokens_done b (map token_of tokens)) end_of_file

abbrev pub tree_of_tokens : Flags → List HtmlToken → Document
tree_of_tokens flags tokens = document_of (after_tokens (page_start flags) tokens)

abbrev pub fragment_of_tokens : Flags → Context → List HtmlToken → HtmlForest
fragment_of_tokens flags context tokens =
    children_of (after_tokens (fragment_start flags context) tokens)

-- Proportion

-- The elements of the list of active formatting elements may be opened again in each paragraph, so
-- the tree of a page of n bytes may have a number of elements that grows as n squared. A tree is in
-- proportion to its page where, after each token, at most four elements for each token so far were
-- put in or opened again, and 65,536 beside: elements that no start tag stands for.
abbrev pub most_beside : ℕ
most_beside = 65536

abbrev pub is_little : ℕ → Bool
is_little excess = not (nat_lt most_beside excess)

abbrev pub is_in_proportion_by : Flags → List ℕ → Bool
is_in_proportion_by flags page = is_little (page_read flags page).excess

abbrev pub is_in_proportion : List ℕ → Bool
is_in_proportion page = is_in_proportion_by standard page

-- the same of a text in a context element
abbrev pub is_fragment_in_proportion_by : Flags → Context → List ℕ → Bool
is_fragment_in_proportion_by flags context bytes =
    is_little (fragment_read flags context bytes).excess
