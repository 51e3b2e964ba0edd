use Rattle.std.proofs.Common.{map, ap, sym, ◌∙◌, Ok, append-nil, rules}
use Rattle.std.specs.Str.Lossy.{utf8_lossy}
use Rattle.tl_spec.specs.Tree.Document.{Raw, Comment}
use Rattle.tl.specs.View.{node_view}
use Rattle.tl.proofs.Printing.{reads-leaf}
use Rattle.tl.proofs.walk.print.Node.outer_html.Goals as goal

pub returns-in-Comment-clause-answers : goal.returns-in-Comment-clause-answers
returns-in-Comment-clause-answers c = search rules

pub returns-in-Raw-clause-identity : goal.returns-in-Raw-clause-identity
returns-in-Raw-clause-identity c =
    let bytes = c.in-Raw.bytes.list in
    rw c.in-Raw.is (reads-leaf (map node_view c.args.parser.now.nodes) (Raw bytes) (utf8_lossy c.as_bytes.result.now) c.lossy_text.result
    (ap Ok (append-nil (utf8_lossy bytes) ∙ ap utf8_lossy (sym c.as_bytes.ensures))) tt c.lossy_text.ensures)

pub returns-in-Comment-clause-identity : goal.returns-in-Comment-clause-identity
returns-in-Comment-clause-identity c =
    let bytes = c.in-Comment.bytes.list in
    rw c.in-Comment.is (reads-leaf (map node_view c.args.parser.now.nodes) (Comment bytes) (utf8_lossy c.as_bytes-in-Comment.result.now) c.lossy_text-in-Comment.result
    (ap Ok (append-nil (utf8_lossy bytes) ∙ ap utf8_lossy (sym c.as_bytes-in-Comment.ensures))) tt c.lossy_text-in-Comment.ensures)
