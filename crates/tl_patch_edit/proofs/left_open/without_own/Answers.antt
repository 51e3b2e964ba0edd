use Rattle.std.proofs.Common.{false, sym, true, ◌∙◌}
use Rattle.tl_patch_edit.specs.Open.{left_view}
use Rattle.tl_patch_edit.specs.View.{patch_view}
use Rattle.tl_patch_edit.proofs.Open.{closed_own, own_without}
use Rattle.tl_patch_edit.proofs.left_open.without_own.Goals as goal

pub returns-then-ends_element : goal.returns-then-ends_element
returns-then-ends_element c =
    closed_own c.args.left.now.before.items c.args.left.now.inside.items c.args.left.now.own.items c.set_open.new.left.items c.args.number c.set_open.ensures
    ∙ own_without (patch_view c.args.patch) c.args.number (left_view c.args.left.now) true (sym c.ends_element-ends_element.ensures ∙ c.if-ends_element.true)

pub returns-else-ends_element : goal.returns-else-ends_element
returns-else-ends_element c = own_without (patch_view c.args.patch) c.args.number (left_view c.args.left.now) false (sym c.ends_element-ends_element.ensures ∙ c.if-ends_element.false)
