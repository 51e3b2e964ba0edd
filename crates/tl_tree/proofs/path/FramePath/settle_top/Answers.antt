use Rattle.std.proofs.Common.{arith}
use Rattle.std.proofs.lemmas.Result.{on_ok_weaker}
use Rattle.tl_tree.proofs.Written.{settle-alone, settle-top}
use Rattle.tl_tree.proofs.path.FramePath.settle_top.Goals as goal

pub returns-then-len-lt2-clause-ok : goal.returns-then-len-lt2-clause-ok
returns-then-len-lt2-clause-ok c =
    let p = c.args.self.now in
    let own = p.frames.ok.0 in
    settle-alone p (omega arith)

pub returns-clause-ok : goal.returns-clause-ok
returns-clause-ok c =
    on_ok_weaker c.settle_at.result
    (settle-top c.args.self.now c.take_top-frame.new.self c.element.new.self c.settle_at.new.self c.take_top-frame.result c.in_ok-node.node c.take_top-frame.ensures.path c.take_top-frame.ensures.store c.in_ok-node.ensures.frames c.element.ensures.gaps c.in_ok-node.ensures.stands)
    c.settle_at.ensures.ok
