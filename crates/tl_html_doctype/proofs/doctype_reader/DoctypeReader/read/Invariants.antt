use Rattle.std.proofs.Common.{◌≡◌, drop}
use Rattle.tl_html_spec.specs.HtmlTokenizer.{with_feeds}
use Rattle.tl_html_tokens.specs.Doctypes.{doctype_from}
use Rattle.tl_html_doctype.specs.Doctyping.{doctyping_of, without_feed}
use Rattle.tl_html_doctype.proofs.doctype_reader.DoctypeReader.read.Given as goal

abbrev pub invariant-loop-byte : goal.invariant-loop-byte
invariant-loop-byte l =
    doctype_from (doctyping_of l.fn.self) (with_feeds l.text) ≡ doctype_from (doctyping_of l.self) (with_feeds (without_feed l.after_return (drop l.byte-index l.text)))
