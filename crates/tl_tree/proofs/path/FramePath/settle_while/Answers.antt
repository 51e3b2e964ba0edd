use Rattle.tl_tree.proofs.Popped.{settle-shorter}
use Rattle.tl_tree.proofs.path.FramePath.settle_while.Goals as goal

pub loop-self-smaller : goal.loop-self-smaller
loop-self-smaller c =
    settle-shorter c.loop-self.self c.settle_next.new.self (c.is_settled.ensures.some c.loop-self-test.true) c.in_ok-settle_next.ensures.ok
