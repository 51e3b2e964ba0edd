use Rattle.std.proofs.Common.{List, arith, ℕ}
use Rattle.std.proofs.lemmas.Result.{IfOk-equal}
use Rattle.tl_tree.specs.Rows.{Row}
use Rattle.tl_tree.specs.TreeView.{rows_in}
use Rattle.tl_tree_safe.proofs.WalkSteps.{all_walked, one_walked}
use Rattle.tl_tree_safe.specs.Inner.Walk.{spot_of}
use Rattle.tl_tree_safe.specs.Policies.{listed_words}
use Rattle.tl_tree_safe.proofs.walk.write_walked.Goals as goal

pub loop-number-preserved : goal.loop-number-preserved
loop-number-preserved c =
    let R : List Row = rows_in c.args.tree.now in
    let n : ℕ = c.loop-number.number in
    let less = c.loop-number-test.true in
    let len = c.len.ensures in
    one_walked (listed_words c.args.known.now.lists) R n (spot_of c.loop-number.writer) _ c.loop-number.out.items c.loop-number.invariant
    c.end_before.new.out.items c.put.new.out.items (spot_of c.end_before.new.self) (spot_of c.put.new.self) c.in_ok-is_passed.is_passed c.next_of-next.result (omega (arith, less, len))
    c.in_ok-end_before.ensures.text c.in_ok-end_before.ensures.spot c.in_ok-is_passed.ensures.text c.in_ok-is_passed.ensures.spot c.in_ok-is_passed.ensures.passed c.next_of-next.ensures.value

pub returns : goal.returns
returns c =
    let n : ℕ = c.loop-number.number in
    let more = c.loop-number-test.false in
    let len = c.len.ensures in
    IfOk-equal c.end_before-2.result _ _ _ c.end_before-2.ensures.text
    (all_walked (listed_words c.args.known.now.lists) (rows_in c.args.tree.now) n (spot_of c.loop-number.writer) _ c.loop-number.out.items c.loop-number.invariant (omega (arith, more, len)))
