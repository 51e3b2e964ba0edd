-- What a builder stands for, in words of `tl_dom_spec`.
use Rattle.std.specs.Option.{option_map}
use Rattle.std.specs.Prelude.{List, map, reverse, ℕ}
use Rattle.tl_html_tokens.specs.Modes.{state_of}
use Rattle.tl_html_spec.specs.Doctypes as doctypes
use Rattle.tl_dom_spec.specs.Builder as dom
use Rattle.tl_dom_spec.specs.Marks.{Marked, marked}
use Rattle.tl_dom_spec.specs.Tags.{Tag}
use Rattle.tl_tree.specs.Inner.Active.{active_of}
use Rattle.tl_tree.specs.Inner.Frames.{path_of}
use Rattle.tl_tree.specs.Inner.Modes.{mode_of}
use Rattle.tl_tree.specs.Inner.Store.{bytes_of, doctype_at, tag_at}
use Rattle.tl_tree.specs.declared.builder.Builder.{Builder}
use Rattle.tl_tree.specs.declared.builder.Flags.{Flags}
use Rattle.tl_tree.specs.declared.outcome.Outcome.{Outcome}
use Rattle.tl_tree.specs.declared.outcome.Outcome.TheVariants.{Again, Done}
use Rattle.tl_tree.specs.Inner.GroupNames.{group_view}
use Rattle.tl_tree.specs.declared.token.Token.{Token}
use Rattle.tl_tree.specs.declared.token.Token.TheVariants.{Character, Comment, Doctype, End, EndOfFile, Start}

abbrev pub flags_of : Flags → dom.Flags
flags_of f = record { is_scripting = f.is_scripting; counts_search = f.counts_search }

unfoldable pub builder_of : Builder → dom.Builder
builder_of b = record {
  path = path_of b.path;
  active = active_of b.path.store b.active;
  next = b.path.next;
  mode = mode_of b.mode;
  original = mode_of b.original;
  templates = reverse (map mode_of b.templates.items);
  form = b.form;
  has_head = b.has_head;
  is_frameset_ok = b.is_frameset_ok;
  is_fostering = b.is_fostering;
  is_quirks = b.is_quirks;
  skips = b.skips;
  pending = b.pending.items;
  context = option_map (tag_at b.path.store) b.context;
  reads = state_of b.reads;
  tokens = b.tokens;
  added = b.added;
  excess = b.excess;
  marks = b.marks;
  flags = flags_of b.flags;
}

-- the page, and what the token that is processed says: the tag where it is a start tag, the text
-- where it is a comment, and the doctype where it is one; and the number of marks before these two
pub record Said : Type 0 where
  pub page : List ℕ
  pub tag : Tag
  pub text : List ℕ
  pub doctype : doctypes.Doctype
  pub source : ℕ

unfoldable pub token_of : Builder → Said
token_of b = record {
  page = b.path.store.page.now;
  tag = tag_at b.path.store b.tag;
  text = bytes_of b.path.store b.text;
  doctype = doctype_at b.path.store b.doctype;
  source = b.source;
}

abbrev pub comment_of : Said → Marked (List ℕ)
comment_of said = marked said.source said.text

abbrev pub doctype_of : Said → Marked doctypes.Doctype
doctype_of said = marked said.source said.doctype

-- what becomes of a token, with the builder afterwards
abbrev pub outcome_of : Outcome → dom.Builder → dom.Outcome
outcome_of Done b = dom.Done b
outcome_of Again b = dom.Again b

-- a token as the definition has it
abbrev pub token_view : Token → Said → dom.Token
token_view (Character byte) said = dom.a_character byte
token_view (Start group closes) said = dom.a_start (group_view group) said.tag closes
token_view (End group name) said = dom.an_end (group_view group) name.now
token_view Comment said = dom.a_comment (comment_of said)
token_view Doctype said = dom.a_doctype (doctype_of said)
token_view EndOfFile said = dom.end_of_file
