use Rattle.std.proofs.Common.{IsTrue, ap, arith, get_or, subst, sym, ◌-◌, ◌∙◌, ◌≡◌}
use Rattle.tl_tree.proofs.Cuts.{needed-step, opened-row}
use Rattle.tl_tree.specs.Inner.Settling.{row_before}
use Rattle.tl_tree.specs.Inner.Store.{is_row}
use Rattle.tl_tree.proofs.settling.Settling.needed.Goals as goal

pub loop-left-preserved-then-needed-before : goal.loop-left-preserved-then-needed-before
loop-left-preserved-then-needed-before c =
    let s = c.args.self.now.store in
    let stack = c.args.self.now.stack.items in
    let left = c.loop-left.left in
    let d = c.index.result.now in
    let some = c.loop-left-test.true in
    let less = c.if-needed-before.true in
    let many = c.loop-left.invariant.0 in
    let row = c.loop-left.invariant.1 in
    let own : row_before (get_or stack (left - 1) d) ≡ c.before-before.result = sym (c.before-before.ensures ∙ ap row_before c.index.ensures) in (
      omega (arith, many),
      omega (arith, row, less),
      subst (λ n. IsTrue (is_row s n)) own (opened-row s stack (left - 1) d (omega (arith, some, many)) c.requires.sound.stack),
      needed-step stack left c.loop-left.needed c.before-before.result d some many (omega (arith, less)) (omega (arith, own)) c.loop-left.invariant.3,
    )

pub loop-left-preserved : goal.loop-left-preserved
loop-left-preserved c =
    let stack = c.args.self.now.stack.items in
    let left = c.loop-left.left in
    let d = c.index.result.now in
    let less = c.if-needed-before.false in
    let many = c.loop-left.invariant.0 in
    let own : row_before (get_or stack (left - 1) d) ≡ c.before-before.result = sym (c.before-before.ensures ∙ ap row_before c.index.ensures) in (
      omega (arith, many),
      c.loop-left.invariant.1,
      c.loop-left.invariant.2,
      needed-step stack left c.loop-left.needed c.loop-left.needed d c.loop-left-test.true many (omega arith) (omega (arith, own, less)) c.loop-left.invariant.3,
    )
