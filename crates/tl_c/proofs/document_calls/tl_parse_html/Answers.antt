use Rattle.tl_c.proofs.Readings.{reads_nothing, reads_some}
use Rattle.tl_c.proofs.document_calls.tl_parse_html.Goals as goal

pub returns-in-Ok-clause-reads : goal.returns-in-Ok-clause-reads
returns-in-Ok-clause-reads c =
    reads_some c.args.page.now c.args.document.now.held c.replace-before.new.self.held c.in-Ok.read.value c.replace-before.ensures.held c.in-Ok.ensures.readable c.in-Ok.ensures.tree

pub returns-in-Err-clause-reads : goal.returns-in-Err-clause-reads
returns-in-Err-clause-reads c =
    reads_nothing c.args.page.now c.args.document.now.held c.in-Err.failure c.in-Err.ensures.unread
