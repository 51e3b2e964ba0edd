use Rattle.tl_spec.proofs.Tree.EveryNode.{clean-node, clean-printed, clean-table}
use Rattle.tl_spec.proofs.laws.nodes.clean_nodes.Goals as goal

pub returns-clause-table : goal.returns-clause-table
returns-clause-table c = clean-table

pub returns-clause-printed : goal.returns-clause-printed
returns-clause-printed c = clean-printed

pub returns-clause-node : goal.returns-clause-node
returns-clause-node c = clean-node
