use Rattle.tl_html_print.proofs.PagePlaces.{fragment_inner, fragment_outer, fragment_read}
use Rattle.tl_html_print.proofs.laws.fragments_are_read_again.Goals as goal

pub returns-clause-trees : goal.returns-clause-trees
returns-clause-trees c = fragment_read

pub returns-clause-outer : goal.returns-clause-outer
returns-clause-outer c = fragment_outer

pub returns-clause-inner : goal.returns-clause-inner
returns-clause-inner c = fragment_inner
