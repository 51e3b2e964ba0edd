use Rattle.std.proofs.Common.{arith}
use Rattle.tl_tree.proofs.Skipped.{kind-none, none-end}
use Rattle.tl_tree.specs.Inner.Limits.{is_of_kind}
use Rattle.tl_tree.proofs.path.FramePath.kind_limit.Goals as goal

pub returns-then-knows_all-clause-skips : goal.returns-then-knows_all-clause-skips
returns-then-knows_all-clause-skips c =
    kind-none c.args.kind c.args.self.now c.limit.result (c.knows_all.ensures c.if-knows_all.true) c.limit.ensures.skips

pub returns-else-knows_all-clause-skips : goal.returns-else-knows_all-clause-skips
returns-else-knows_all-clause-skips c =
    let own = c.args.self.now.frames.ok.0 in
    none-end (is_of_kind c.args.kind) c.args.self.now c.len.result (omega arith)
