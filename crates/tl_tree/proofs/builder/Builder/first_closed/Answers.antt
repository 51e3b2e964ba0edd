use Rattle.std.proofs.Common.{arith, subst, sym, ◌-◌, ◌∙◌}
use Rattle.tl_tree.proofs.Actives.{marker-of, one-less}
use Rattle.tl_tree.proofs.Reopened.{ClosedFrom, closed-init, closed-marker, closed-next, closed-none, closed-open, left-over}
use Rattle.tl_tree.specs.Inner.Builders.{builder_of}
use Rattle.tl_tree.proofs.builder.Builder.first_closed.Goals as goal

pub loop-left-init : goal.loop-left-init
loop-left-init c = closed-init c.args.self.now c.len-left.result c.len-left.ensures

pub returns-in_default-clause-stands : goal.returns-in_default-clause-stands
returns-in_default-clause-stands c =
    let b = c.args.self.now in
    let left = c.loop-left.left in
    let within = c.loop-left.invariant.within in
    let some = c.loop-left-test.true in
    left-over b left some
    (closed-marker b (left - 1) c.entry-entry.result (omega arith) c.entry-entry.ensures.stands (marker-of c.entry-entry.result c.in_default.not-Formatting)
    (subst (ClosedFrom b) (one-less left some) c.loop-left.invariant))

pub returns-then-is_open_number-clause-stands : goal.returns-then-is_open_number-clause-stands
unfolding builder_of
returns-then-is_open_number-clause-stands c =
    let b = c.args.self.now in
    let left = c.loop-left.left in
    let within = c.loop-left.invariant.within in
    let some = c.loop-left-test.true in
    left-over b left some
    (closed-open b (left - 1) c.in-Formatting.number _ c.entry-entry.result (omega arith) c.entry-entry.ensures.stands c.in-Formatting.is
    (sym c.is_open_number.ensures ∙ c.if-is_open_number.true)
    (subst (ClosedFrom b) (one-less left some) c.loop-left.invariant))

pub loop-left-preserved : goal.loop-left-preserved
unfolding builder_of
loop-left-preserved c =
    let b = c.args.self.now in
    let left = c.loop-left.left in
    let within = c.loop-left.invariant.within in
    let some = c.loop-left-test.true in
    closed-next b (left - 1) c.in-Formatting.number _ c.entry-entry.result (omega arith) c.entry-entry.ensures.stands c.in-Formatting.is
    (sym c.is_open_number.ensures ∙ c.if-is_open_number.false)
    (subst (ClosedFrom b) (one-less left some) c.loop-left.invariant)

pub returns-clause-stands : goal.returns-clause-stands
returns-clause-stands c =
    let end = c.loop-left-test.false in
    closed-none c.args.self.now c.loop-left.left (omega arith) c.loop-left.invariant
