use Rattle.std.proofs.Common.{arith, sym, ◌∙◌}
use Rattle.tl_tree.proofs.Outside.{goes-further, sought-here, sought-not}
use Rattle.tl_tree.proofs.tree.Tree.first_sought.Goals as goal

pub returns-then-is_sought : goal.returns-then-is_sought
returns-then-is_sought c =
    c.loop-number.invariant ∙ sought-here c.args.self.now c.args.is_text c.loop-number.number c.args.end c.loop-number-test.true (sym c.is_sought.ensures ∙ c.if-is_sought.true)

pub loop-number-preserved : goal.loop-number-preserved
loop-number-preserved c =
    c.loop-number.invariant ∙ sought-not c.args.self.now c.args.is_text c.loop-number.number c.args.end c.next_outside-number.result c.loop-number-test.true (sym c.is_sought.ensures ∙ c.if-is_sought.false) c.next_outside-number.ensures

pub loop-number-smaller : goal.loop-number-smaller
loop-number-smaller c =
    let further = goes-further c.args.self.now c.loop-number.number c.args.end c.loop-number-test.true in
    let is = c.next_outside-number.ensures in
    let less = c.loop-number-test.true in
    omega (arith, further, is, less)
