use Rattle.std.proofs.Common.{arith}
use Rattle.tl_tree.proofs.Placed.{here-later, here-within}
use Rattle.tl_tree.proofs.path.FramePath.placed_behind.Goals as goal

pub returns-clause-near : goal.returns-clause-near
returns-clause-near c =
    let p = c.args.self.now in
    let own = p.frames.ok.0 in
    let least = c.min.ensures in
    let is = c.saturating_sub.ensures in
    here-within p.frames.items c.min.result c.saturating_sub.result c.args.place (omega arith)
    (here-later p.frames.items p.placed c.min.result (omega arith) p.near)

pub returns-clause-within : goal.returns-clause-within
returns-clause-within c =
    let own = c.args.self.now.frames.ok.0 in
    let least = c.min.ensures in
    let is = c.saturating_sub.ensures in
    omega arith
