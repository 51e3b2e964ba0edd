use Rattle.tl_tree.proofs.Entering.{known-entered, next-new}
use Rattle.tl_tree.specs.Inner.Entered.{entered}
use Rattle.tl_tree.proofs.path.FramePath.enter_all.Goals as goal

pub enter-requires : goal.enter-requires
enter-requires c =
    next-new c.loop-self.self c.len-in-loop-self-2.result c.entered_at-entered.result c.len-in-loop-self-2.ensures c.entered_at-entered.ensures

pub invariant_of-self-clause-known : goal.invariant_of-self-clause-known
invariant_of-self-clause-known c =
    known-entered c.loop-self.self c.enter.result c.len-in-loop-self-2.result c.entered_at-entered.result (entered c.enter.new.self) c.len-in-loop-self-2.ensures c.entered_at-entered.ensures c.enter.ensures.ok c.enter.ensures.err
