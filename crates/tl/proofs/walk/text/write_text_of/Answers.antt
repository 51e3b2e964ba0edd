use Rattle.std.proofs.Common.{ap, ◌∙◌, map, string_bytes}
use Rattle.tl.specs.View.{node_view, tag_view}
use Rattle.tl.proofs.Printing.{writes-below}
use Rattle.tl.proofs.walk.text.write_text_of.Goals as goal

pub returns-clause-writes : goal.returns-clause-writes
returns-clause-writes c =
    writes-below (map node_view c.args.parser.now.nodes) (tag_view c.args.tag.now) c.as_slice-below.result.now (string_bytes c.args.out.now) c.write_row_texts.result (string_bytes c.write_row_texts.new.out)
    (c.as_slice-below.ensures ∙ ap (λ v. v.items) c.child_handles.ensures) c.write_row_texts.ensures.writes
