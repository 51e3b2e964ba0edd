use Rattle.tl_spec.proofs.Tree.Reached.{document-written}
use Rattle.tl_spec.proofs.laws.machine_writes_document.Goals as goal

pub returns-clause-nodes : goal.returns-clause-nodes
returns-clause-nodes c = λ t. (document-written t).0

pub returns-clause-top : goal.returns-clause-top
returns-clause-top c = λ t. (document-written t).1

pub returns-clause-version : goal.returns-clause-version
returns-clause-version c = λ t. (document-written t).2
