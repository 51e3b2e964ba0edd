use Rattle.tl_tree.proofs.Asks.{parent-none, parent-some}
use Rattle.tl_tree.proofs.tree.Tree.parent.Goals as goal

pub returns-then-parent-eq0 : goal.returns-then-parent-eq0
returns-then-parent-eq0 c =
    let found = c.in_ok-parent.ensures.lookup in
    parent-none c.args.self.now c.args.number c.deref.result.now c.in_ok-parent.field-0.now c.deref.ensures.value found.0 found.1 c.if-parent-eq0.true

pub returns : goal.returns
returns c =
    let found = c.in_ok-parent.ensures.lookup in
    parent-some c.args.self.now c.args.number c.deref.result.now c.in_ok-parent.field-0.now c.deref.ensures.value found.0 found.1 c.if-parent-eq0.false
