use Rattle.std.proofs.Common.{List, arith, map, sym, ℕ}
use Rattle.std.proofs.lemmas.Result.{IfOk-equal, on_ok_weaker}
use Rattle.tl_tree.specs.Rows.{Row}
use Rattle.tl_tree.specs.TreeView.{rows_in}
use Rattle.tl_tree_safe.proofs.TellingSteps.{all_told, one_told}
use Rattle.tl_tree_safe.proofs.WalkSteps.{all_walked, one_walked}
use Rattle.tl_tree_safe.specs.Inner.Walk.{spot_of}
use Rattle.tl_tree_safe.specs.Policies.{listed_words}
use Rattle.tl_tree_safe.specs.Removed.{gone_of}
use Rattle.tl_tree_safe.proofs.told_walk.write_telling.Goals as goal

pub loop-number-preserved : goal.loop-number-preserved
loop-number-preserved c =
    let R : List Row = rows_in c.args.tree.now in
    let n : ℕ = c.loop-number.number in
    let less = c.loop-number-test.true in
    let len = c.len.ensures in
    record {
      text =
          one_walked (listed_words c.args.known.now.lists) R n (spot_of c.loop-number.writer) _ c.loop-number.out.items c.loop-number.invariant.text
          c.end_before.new.out.items c.put.new.out.items (spot_of c.end_before.new.self) (spot_of c.put.new.self) c.in_ok-is_passed.is_passed c.next_of-next.result (omega (arith, less, len))
          c.in_ok-end_before.ensures.text c.in_ok-end_before.ensures.spot c.in_ok-is_passed.ensures.text c.in_ok-is_passed.ensures.spot c.in_ok-is_passed.ensures.passed c.next_of-next.ensures.value;
      gone =
          one_told (listed_words c.args.known.now.lists) R n (spot_of c.loop-number.writer) _ (map gone_of c.loop-number.removals.items) c.loop-number.invariant.gone
          (map gone_of c.tell.new.told.items) (spot_of c.end_before.new.self) (spot_of c.put.new.self) c.in_ok-is_passed.is_passed c.next_of-next.result (omega (arith, less, len))
          c.in_ok-end_before.ensures.spot c.in_ok-tell.ensures c.in_ok-is_passed.ensures.spot c.in_ok-is_passed.ensures.passed c.next_of-next.ensures.value;
    }

pub returns-clause-text : goal.returns-clause-text
returns-clause-text c =
    let n : ℕ = c.loop-number.number in
    let more = c.loop-number-test.false in
    let len = c.len.ensures in
    IfOk-equal c.end_before-2.result _ _ _ c.end_before-2.ensures.text
    (all_walked (listed_words c.args.known.now.lists) (rows_in c.args.tree.now) n (spot_of c.loop-number.writer) _ c.loop-number.out.items c.loop-number.invariant.text (omega (arith, more, len)))

pub returns-clause-told : goal.returns-clause-told
returns-clause-told c =
    let n : ℕ = c.loop-number.number in
    let more = c.loop-number-test.false in
    let len = c.len.ensures in
    on_ok_weaker c.end_before-2.result
    (λ _. sym (all_told (listed_words c.args.known.now.lists) (rows_in c.args.tree.now) n (spot_of c.loop-number.writer) _ (map gone_of c.loop-number.removals.items) c.loop-number.invariant.gone (omega (arith, more, len))))
    c.end_before-2.ensures.text
