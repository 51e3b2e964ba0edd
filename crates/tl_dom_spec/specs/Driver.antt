-- The builder drives the tokenizer: from bytes to what the builder holds.
use Rattle.std.specs.Prelude.{List, None, codes, false, not, ℕ}
use Rattle.tl_html_spec.specs.HtmlTokenizer.{Character, CommentToken, DoctypeToken, EndTag, HtmlToken, StartTag}
use Rattle.tl_html_spec.specs.Doctypes.{Doctype}
use Rattle.tl_html_spec.specs.Driven.{DrivenState, Driver, Emission, doctype_of, driven, plain}
use Rattle.tl_dom_spec.specs.Tags.{html_tag, is_html}
use Rattle.tl_dom_spec.specs.Groups.{group}
use Rattle.tl_dom_spec.specs.Marks.{unmarked}
use Rattle.tl_dom_spec.specs.Builder.{Builder, Token, a_character, a_comment, a_doctype, a_start, adjusted_current_node, an_end, end_of_file}
use Rattle.tl_dom_spec.specs.Dispatcher.{token_done}

-- `<!DOCTYPE html>`
abbrev pub html_doctype : Doctype
html_doctype = record {
  name = codes "html";
  public_id = None;
  system_id = None;
  forces_quirks = false;
}

-- a doctype token without parts stands for `<!DOCTYPE html>`
abbrev pub token_of : HtmlToken → Token
token_of (Character c) = a_character c
token_of (StartTag name attributes closes) = a_start (group name) (html_tag name attributes) closes
token_of (EndTag name) = an_end (group name) name
token_of (CommentToken bytes) = a_comment (unmarked bytes)
token_of DoctypeToken = a_doctype (unmarked html_doctype)

abbrev pub emitted_token : Emission → Token
emitted_token (plain token) = token_of token
emitted_token (doctype_of d) = a_doctype (unmarked d)

-- a start tag's rule sets the state, and each other token the data state
abbrev pub builder : Driver Builder
builder = record {
  take = λ b e. token_done b (emitted_token e);
  sets = λ b. b.reads;
  is_foreign = λ b. not (is_html (adjusted_current_node b));
}

abbrev pub read_from : Builder → DrivenState → List ℕ → Builder
read_from b state bytes = token_done (driven builder b state bytes) end_of_file
