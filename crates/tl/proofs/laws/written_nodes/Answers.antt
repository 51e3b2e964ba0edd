use Rattle.std.proofs.Common.{ap, sym}
use Rattle.tl_spec.specs.Tree.EveryNode.{HoldOfNode, IsCleanAlone}
use Rattle.tl.proofs.Nodes.{set_same}
use Rattle.tl.proofs.Written.{written-all, written-document}
use Rattle.tl.proofs.laws.written_nodes.Goals as goal

pub returns-clause-document : goal.returns-clause-document
returns-clause-document c = written-document

pub returns-clause-clean : goal.returns-clause-clean
returns-clause-clean c = written-all IsCleanAlone

pub returns-clause-hold : goal.returns-clause-hold
returns-clause-hold c = λ d nodes tests. written-all (HoldOfNode tests) d nodes

pub returns-clause-same : goal.returns-clause-same
returns-clause-same c = λ d n node is. ap (λ nodes. record d { nodes = nodes }) (set_same d.nodes n node (sym is))
