use Rattle.std.proofs.Common.{◌≡◌, ◌+◌, ℕ, List, length, arith, rules, subst, sym}
use Rattle.tl_tree_select.proofs.Ahead.{Counted, one_counted, all_counted}
use Rattle.tl_tree_select.proofs.links.counts_ahead.Goals as goal

pub loop-number-preserved : goal.loop-number-preserved
loop-number-preserved c =
    let links = c.args.links.now in
    let marks = c.args.marks.now in
    let n = c.loop-number.number in
    let same = c.in_ok-push.ensures.items in
    subst (λ (counts : List ℕ). Counted links marks (n + 1) counts) (sym same)
    (one_counted links marks n c.loop-number.counts.items _ c.requires.lower c.loop-number.invariant (search rules))

pub returns-clause-each : goal.returns-clause-each
returns-clause-each c =
    let all : c.loop-number.number ≡ length c.args.links.now = omega arith in
    λ n w. all_counted c.args.links.now c.args.marks.now c.loop-number.counts.items c.requires.lower
    (λ i lt. c.loop-number.invariant.each i (omega (arith, all, lt))) n w
