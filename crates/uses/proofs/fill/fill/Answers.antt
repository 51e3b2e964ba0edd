use Rattle.uses.specs.Fields.{fields_of}
use Rattle.std.proofs.Common.{string_bytes}
use Rattle.tl.specs.View.{document_of}
use Rattle.uses.proofs.Pages.{clean_read, print_read, reads_read}
use Rattle.uses.proofs.fill.fill.Goals as goal

pub returns-clause-print : goal.returns-clause-print
returns-clause-print c =
    print_read (fields_of c.args.fields.now) c.args.template.now (document_of c.in_ok-document.document) (document_of c.fill_document.new.document)
    c.in_ok-document.ensures.document c.in_ok-fill_document.ensures (string_bytes c.in_ok-page.page) c.in_ok-page.ensures.answers

pub returns-clause-reads : goal.returns-clause-reads
returns-clause-reads c = λ tame.
    reads_read (fields_of c.args.fields.now) c.args.template.now (document_of c.in_ok-document.document) (document_of c.fill_document.new.document)
    c.in_ok-document.ensures.document c.in_ok-fill_document.ensures (string_bytes c.in_ok-page.page)
    (c.in_ok-page.ensures.identity
    (clean_read (fields_of c.args.fields.now) c.args.template.now (document_of c.in_ok-document.document) (document_of c.fill_document.new.document)
    c.in_ok-document.ensures.document c.in_ok-fill_document.ensures (c.in_ok-document.ensures.clean tame)))
