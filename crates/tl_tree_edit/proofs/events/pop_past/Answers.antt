use Rattle.std.proofs.Common.{◌≡◌, ◌∙◌, Some, arith, sym}
use Rattle.std.proofs.lemmas.Grind.{common_steps}
use Rattle.tl_tree_edit.proofs.Saying.{popped}
use Rattle.tl_tree_edit.specs.Inner.Walk.{own_open}
use Rattle.tl_tree_edit.proofs.events.pop_past.Goals as goal

pub returns : goal.returns
returns c =
    let is : c.pop.result ≡ Some c.in_ok-end.field-0.now = grind (arith, common_steps) in
    popped own_open c.args.outer.now.items c.pop.new.self.items c.pop.result c.in_ok-end.field-0.now c.args.next is c.pop.ensures.items (sym c.is_past.ensures ∙ c.if-not-is_past.false)
