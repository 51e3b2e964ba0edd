use Rattle.std.proofs.Common.{◌≡◌, length, arith}
use Rattle.tl_tree_select.proofs.Sources.{exact}
use Rattle.tl_tree_select.proofs.links.sources.Goals as goal

pub returns-clause-each : goal.returns-clause-each
returns-clause-each c =
    let all : c.loop-number.number ≡ length c.args.links.now = omega arith in
    let len = c.loop-number.invariant.len in
    exact c.args.links.now c.args.marks.now c.loop-number.found.items c.args.often c.requires (omega (arith, all, len))
    (λ n w. c.loop-number.invariant.each n (omega (arith, all, w)))
