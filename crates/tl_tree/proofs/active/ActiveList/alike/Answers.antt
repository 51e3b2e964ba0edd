use Rattle.std.proofs.Common.{arith, subst, ◌-◌}
use Rattle.tl_tree.proofs.Actives.{AlikeSoFar, alike-end, alike-marker, alike-step, marker-of, one-less}
use Rattle.tl_tree.specs.Inner.Store.{tag_at}
use Rattle.tl_tree.proofs.active.ActiveList.alike.Goals as goal

pub returns-in_default : goal.returns-in_default
returns-in_default c =
    let s = c.args.store.now in
    let own = tag_at s c.args.own in
    let xs = c.args.self.now.entries.items in
    let left = c.loop-left.left in
    let bound = c.loop-left.invariant.bound in
    let some = c.loop-left-test.true in
    alike-marker s own xs (left - 1) c.index-entry.result.now c.loop-left.alike (omega arith) c.index-entry.ensures (marker-of c.index-entry.result.now c.in_default.not-Formatting)
    (subst (λ n. AlikeSoFar s own xs n c.loop-left.alike) (one-less left some) c.loop-left.invariant)

pub loop-left-preserved : goal.loop-left-preserved
loop-left-preserved c =
    let s = c.args.store.now in
    let own = tag_at s c.args.own in
    let xs = c.args.self.now.entries.items in
    let left = c.loop-left.left in
    let bound = c.loop-left.invariant.bound in
    let some = c.loop-left-test.true in
    alike-step s own xs (left - 1) c.in-Formatting.number c.in-Formatting.tag c.index-entry.result.now c.loop-left.alike c.with-alike.result c.is_alike.result (omega arith) c.index-entry.ensures c.in-Formatting.is c.is_alike.ensures c.with-alike.ensures
    (subst (λ n. AlikeSoFar s own xs n c.loop-left.alike) (one-less left some) c.loop-left.invariant)

pub returns : goal.returns
returns c =
    let s = c.args.store.now in
    alike-end s (tag_at s c.args.own) c.args.self.now.entries.items c.loop-left.left c.loop-left.alike c.loop-left-test.false c.loop-left.invariant
