use Rattle.tl_tree_edit.proofs.Following.{three}
use Rattle.tl_tree_edit.specs.Inner.Walk.{left}
use Rattle.tl_tree_edit.proofs.walk.Walk.meets_changed.Goals as goal

pub returns-clause-met : goal.returns-clause-met
returns-clause-met c =
    λ node here.
    let before = rw (c.if-not-branch.false, c.before-2.ensures) at c.in_ok-meets_puts.ensures.met in
    let own = rw c.if-not-branch-2.false at (c.in_ok-meets_own.ensures.met node here) in
    let front = rw c.front.ensures at c.meets_puts-2.ensures.met in
    three c.meets_puts-2.result _ _ _ (left c.args.self.now.rest) (left c.meets_puts.new.self) (left c.meets_own.new.self) (left c.meets_puts-2.new.self) before own front
