use Rattle.tl_html_print.proofs.PagePlaces.{page_inner, page_outer, page_read}
use Rattle.tl_html_print.proofs.laws.pages_are_read_again.Goals as goal

pub returns-clause-trees : goal.returns-clause-trees
returns-clause-trees c = page_read

pub returns-clause-outer : goal.returns-clause-outer
returns-clause-outer c = page_outer

pub returns-clause-inner : goal.returns-clause-inner
returns-clause-inner c = page_inner
