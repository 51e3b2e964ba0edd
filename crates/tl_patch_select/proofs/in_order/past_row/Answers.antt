use Rattle.std.proofs.Common.{None, Some, rules, ◌≡◌}
use Rattle.tl_patch_select.specs.Selected.{place_of}
use Rattle.tl_patch_select.proofs.InOrder.{behind_row, row_from_nowhere}
use Rattle.tl_patch_select.proofs.in_order.past_row.Goals as goal

pub returns-in-Some : goal.returns-in-Some
returns-in-Some c =
    let some : place_of c.args.tree.now c.args.row ≡ Some c.in-Some.place = search rules in
    behind_row (place_of c.args.tree.now) c.args.row c.args.past c.in-Some.place c.behind.result some c.behind.ensures.next c.behind.ensures.order

pub returns-in-None : goal.returns-in-None
returns-in-None c =
    let none : place_of c.args.tree.now c.args.row ≡ None = search rules in
    row_from_nowhere (place_of c.args.tree.now) c.args.row c.args.past none
