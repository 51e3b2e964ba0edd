use Rattle.tl_tree.proofs.RowLaws.{parent_holds, parent_innermost}
use Rattle.tl_tree.proofs.laws.parents_are_innermost.Goals as goal

pub returns-clause-holds : goal.returns-clause-holds
returns-clause-holds c = parent_holds

pub returns-clause-innermost : goal.returns-clause-innermost
returns-clause-innermost c = parent_innermost
