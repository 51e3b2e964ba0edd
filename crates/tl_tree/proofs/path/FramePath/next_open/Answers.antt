use Rattle.std.proofs.Common.{arith, ◌∙◌}
use Rattle.tl_tree.proofs.Stacked.{opened-first, opened-none, opened-shut}
use Rattle.tl_tree.proofs.path.FramePath.next_open.Goals as goal

pub returns-then-index-clause-some : goal.returns-then-index-clause-some
returns-then-index-clause-some c =
    let p = c.args.self.now in
    let own = p.frames.ok.0 in
    c.loop-index.invariant ∙ opened-first p c.loop-index.index c.index.result.now c.index.ensures (omega arith) c.if-index.true

pub loop-index-preserved : goal.loop-index-preserved
loop-index-preserved c =
    let p = c.args.self.now in
    let own = p.frames.ok.0 in
    c.loop-index.invariant ∙ opened-shut p c.loop-index.index c.index.result.now c.index.ensures (omega arith) c.if-index.false

pub returns-clause-none : goal.returns-clause-none
returns-clause-none c = λ _.
    let p = c.args.self.now in
    let own = p.frames.ok.0 in
    c.loop-index.invariant ∙ opened-none p c.loop-index.index (omega arith)
