use Rattle.tl_tree_edit.proofs.Following.{three}
use Rattle.tl_tree_edit.specs.Inner.Walk.{left}
use Rattle.tl_tree_edit.proofs.walk.Walk.meets_last.Goals as goal

pub returns-in_default-clause-met : goal.returns-in_default-clause-met
returns-in_default-clause-met c = rw c.in_default.is c.meets_end.ensures.met

pub returns-clause-met : goal.returns-clause-met
returns-clause-met c =
    let back = rw (c.if-not-branch.false, c.back.ensures) at c.in_ok-meets_puts.ensures.met in
    let own = rw c.if-not-branch-2.false at c.in_ok-meets_own_end.ensures.met in
    let behind = rw c.behind.ensures at c.meets_puts-2.ensures.met in
    rw c.in-Some.is
    (three c.meets_puts-2.result _ _ _ (left c.args.self.now.rest) (left c.meets_puts.new.self) (left c.meets_own_end.new.self) (left c.meets_puts-2.new.self) back own behind)
