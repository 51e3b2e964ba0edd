use Rattle.tl_spec.proofs.Tree.EveryNode.{norm-hold, read-hold}
use Rattle.tl_spec.proofs.laws.nodes.trees_of_the_normal_form.Goals as goal

pub returns-clause-trees : goal.returns-clause-trees
returns-clause-trees c = norm-hold

pub returns-clause-read : goal.returns-clause-read
returns-clause-read c = read-hold
