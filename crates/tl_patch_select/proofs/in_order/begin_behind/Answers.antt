use Rattle.std.proofs.Common.{None, Some, arith, length, rules, ◌≡◌, ◌≤◌}
use Rattle.std.proofs.lemmas.Bool.{leb-true}
use Rattle.tl_patch_select.specs.Selected.{place_of}
use Rattle.tl_patch_select.proofs.InOrder.{first_begins, no_row_begins, none_from, none_there, one_more_behind}
use Rattle.tl_patch_select.proofs.in_order.begin_behind.Goals as goal
use Rattle.tl_tree.specs.TreeView.{rows_in}

pub loop-row-init : goal.loop-row-init
loop-row-init c = none_there (place_of c.args.tree.now) c.args.end c.args.end (omega arith)

pub loop-row-preserved : goal.loop-row-preserved
loop-row-preserved c =
    let none : place_of c.args.tree.now c.loop-row.row ≡ None = search rules in
    one_more_behind (place_of c.args.tree.now) c.args.end c.loop-row.row none c.loop-row.invariant

pub returns-in-Some : goal.returns-in-Some
returns-in-Some c =
    let some : place_of c.args.tree.now c.loop-row.row ≡ Some c.in-Some.place = search rules in
    λ e. first_begins (place_of c.args.tree.now) c.args.end c.args.past c.loop-row.row c.in-Some.place c.requires some (leb-true c.args.past c.in-Some.place e) c.loop-row.invariant

pub returns : goal.returns
returns c =
    let all : length (rows_in c.args.tree.now) ≤ c.loop-row.row = omega arith in
    λ _. no_row_begins (place_of c.args.tree.now) c.args.end c.loop-row.row c.args.past (λ r at l e. none_from c.args.tree.now r at (omega (arith, l, all)) e) c.loop-row.invariant
