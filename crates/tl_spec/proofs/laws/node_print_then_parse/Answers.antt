use Rattle.tl_spec.proofs.Walk.Walks.{node_identity, node-prints}
use Rattle.tl_spec.proofs.laws.node_print_then_parse.Goals as goal

pub returns-clause-reads : goal.returns-clause-reads
returns-clause-reads c = node_identity

pub returns-clause-prints : goal.returns-clause-prints
returns-clause-prints c = node-prints
