use Rattle.tl_css_laws.proofs.SharedTexts.{shared_alike, shared_is_read}
use Rattle.tl_css_laws.proofs.laws.shared_texts_are_read_alike.Goals as goal

pub returns-clause-grammar : goal.returns-clause-grammar
returns-clause-grammar c = shared_alike

pub returns-clause-reader : goal.returns-clause-reader
returns-clause-reader c = shared_is_read
