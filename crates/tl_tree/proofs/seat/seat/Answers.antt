use Rattle.std.proofs.Common.{arith, get_or, length, refl, ◌-◌}
use Rattle.tl_tree.proofs.Seats.{end-fits, inner-front, seat-done, seat-step}
use Rattle.tl_tree.specs.declared.row.Held.TheVariants.{Element}
use Rattle.tl_tree.specs.declared.row.Row.{Row}
use Rattle.tl_tree.proofs.seat.seat.Goals as goal

abbrev no_row : Row
no_row = record { held = Element 0; parent = 0; end = 0 }

pub overflow_sub-row : goal.overflow_sub-row
overflow_sub-row c = end-fits c.args.rows.now c.loop-number.rows c.loop-number.number _ c.requires.ends c.loop-number-test.true (c.loop-number.invariant.3 c.loop-number.number (omega arith))

pub loop-number-preserved : goal.loop-number-preserved
loop-number-preserved c =
    let test = c.loop-number-test.true in
    let long = c.loop-number.auto.rows in
    let initial = c.args.rows.now in
    let all = c.loop-number.rows in
    let n = c.loop-number.number in
    let was = get_or all n no_row in
    let own : Row = record { held = was.held; parent = c.innermost-parent.result; end = length initial - was.end } in
    let fits = end-fits initial all n no_row c.requires.ends test (c.loop-number.invariant.3 n (omega arith)) in
    let inner = inner-front all n c.innermost-parent.result test c.innermost-parent.ensures in
    let next = seat-step initial all n no_row own c.loop-number.invariant.2 c.loop-number.invariant.3 c.loop-number.invariant.4 test refl (omega (arith, fits)) inner in
    (refl, omega (arith, test, long), next.0, next.1, next.2)

pub returns : goal.returns
returns c = seat-done c.args.rows.now c.loop-number.rows c.loop-number.number c.loop-number.auto.rows c.loop-number-test.false c.loop-number.invariant.2 c.loop-number.invariant.4
