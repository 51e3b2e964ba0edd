use Rattle.tl.proofs.Lookups.{same_id, same_member}
use Rattle.tl.proofs.laws.lookups_answer_alike.Goals as goal

pub returns-clause-id : goal.returns-clause-id
returns-clause-id c = λ d e asked read id nodes a b h k. same_id d e asked read id nodes a b h k

pub returns-clause-class : goal.returns-clause-class
returns-clause-class c = λ d e asked read member nodes a b h k. same_member d e asked read member nodes a b h k
