use Rattle.std.proofs.Common.{None, Some, arith, rules, ◌-◌, ◌<◌, ◌≡◌}
use Rattle.tl_patch_select.specs.Selected.{place_of}
use Rattle.tl_patch_select.proofs.InOrder.{no_row_ends, none_there, one_more_before, row_ends}
use Rattle.tl_patch_select.proofs.in_order.end_before.Goals as goal

pub loop-left-init : goal.loop-left-init
loop-left-init c = none_there (place_of c.args.tree.now) c.args.end c.args.end (omega arith)

pub loop-left-preserved : goal.loop-left-preserved
loop-left-preserved c =
    let none : place_of c.args.tree.now (c.loop-left.left - 1) ≡ None = search rules in
    let more : 0 < c.loop-left.left = omega arith in
    one_more_before (place_of c.args.tree.now) c.loop-left.left c.args.end more none c.loop-left.invariant

pub returns-in-Some : goal.returns-in-Some
returns-in-Some c =
    let some : place_of c.args.tree.now (c.loop-left.left - 1) ≡ Some c.in-Some.place = search rules in
    let more : 0 < c.loop-left.left = omega arith in
    λ e. row_ends (place_of c.args.tree.now) c.args.from c.loop-left.left c.args.end c.args.past c.in-Some.place c.requires more some c.loop-left.invariant e

pub returns : goal.returns
returns c = λ _. no_row_ends (place_of c.args.tree.now) c.args.from c.loop-left.left c.args.end c.args.past c.loop-left-test.false c.loop-left.invariant
