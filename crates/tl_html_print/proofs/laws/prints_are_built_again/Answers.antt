use Rattle.tl_html_print.proofs.BuiltAgain.{fragment_built_again, node_built_again}
use Rattle.tl_html_print.proofs.laws.prints_are_built_again.Goals as goal

pub returns-clause-fragment : goal.returns-clause-fragment
returns-clause-fragment c = fragment_built_again

pub returns-clause-node : goal.returns-clause-node
returns-clause-node c = node_built_again
