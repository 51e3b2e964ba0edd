use Rattle.std.proofs.Common.{arith, length, rules, sym, true, ◌<◌, ◌∙◌, ◌≡◌}
use Rattle.std.proofs.lemmas.Slice.Eq.{bytes_eq-Decides}
use Rattle.tl_diff.proofs.LineLists.{same_more}
use Rattle.tl_diff.proofs.script.common_len.Goals as goal

pub loop-len-preserved : goal.loop-len-preserved
loop-len-preserved c =
    let is = c.min-shorter.ensures in
    let lt = c.loop-len-test.true in
    let left : c.loop-len.len < length c.args.left.now = omega (arith, is, lt) in
    let right : c.loop-len.len < length c.args.right.now = omega (arith, is, lt) in
    let yes : c.are_same.result ≡ true = search (rules, c.if-not-are_same.false) in
    same_more c.args.left.now c.args.right.now c.loop-len.len _ _ left right c.loop-len.invariant ((bytes_eq-Decides _ _).0 (sym c.are_same.ensures ∙ yes))
