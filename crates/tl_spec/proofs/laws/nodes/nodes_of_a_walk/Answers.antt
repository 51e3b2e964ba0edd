use Rattle.std.specs.Prelude.{IsTrue}
use Rattle.tl_spec.specs.Tree.EveryNode.{HoldOfNode}
use Rattle.tl_spec.specs.Walk.{walk}
use Rattle.tl_spec.proofs.Tree.EveryNode.{each-walk, trees-hold}
use Rattle.tl_spec.proofs.laws.nodes.nodes_of_a_walk.Goals as goal

pub returns-clause-nodes : goal.returns-clause-nodes
returns-clause-nodes c = λ test. each-walk (λ n. IsTrue (test n))

pub returns-clause-trees : goal.returns-clause-trees
returns-clause-trees c = λ t enters nodes path hs all. trees-hold t (walk enters nodes path hs) (each-walk (HoldOfNode t) enters nodes path hs all)
