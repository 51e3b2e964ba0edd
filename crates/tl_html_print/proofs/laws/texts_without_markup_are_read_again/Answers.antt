use Rattle.tl_html_print.proofs.RereadTexts.{empty_read, raw_read, references_read}
use Rattle.tl_html_print.proofs.laws.texts_without_markup_are_read_again.Goals as goal

pub returns-clause-references : goal.returns-clause-references
returns-clause-references c = references_read

pub returns-clause-raw : goal.returns-clause-raw
returns-clause-raw c = raw_read

pub returns-clause-empty : goal.returns-clause-empty
returns-clause-empty c = empty_read
