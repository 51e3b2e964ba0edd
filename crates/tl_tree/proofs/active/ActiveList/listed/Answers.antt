use Rattle.std.proofs.Common.{ap, arith, subst, sym, take, ◌-◌, ◌∙◌, ◌≡◌, ℕ}
use Rattle.tl_dom_spec.specs.Formatting.{listed}
use Rattle.tl_tree.proofs.Actives.{listed-found, listed-marker, listed-step, marker-of, one-less, seen-none}
use Rattle.tl_tree.specs.Inner.Active.{seen}
use Rattle.tl_tree.proofs.active.ActiveList.listed.Goals as goal

pub returns-in_default-clause-stands : goal.returns-in_default-clause-stands
returns-in_default-clause-stands c =
    let s = c.args.store.now in
    let name = c.args.name.now in
    let xs = c.args.self.now.entries.items in
    let left = c.loop-left.left in
    let within = c.loop-left.invariant.within in
    let some = c.loop-left-test.true in
    listed-marker s name (left - 1) xs c.index-entry.result.now (omega arith) c.index-entry.ensures (marker-of c.index-entry.result.now c.in_default.not-Formatting)
    (subst (λ (n : ℕ). listed name (seen s xs) ≡ listed name (seen s (take n xs))) (one-less left some) c.loop-left.invariant.same)

pub returns-then-is_named-clause-stands : goal.returns-then-is_named-clause-stands
returns-then-is_named-clause-stands c =
    let s = c.args.store.now in
    let name = c.args.name.now in
    let xs = c.args.self.now.entries.items in
    let left = c.loop-left.left in
    let within = c.loop-left.invariant.within in
    let some = c.loop-left-test.true in
    listed-found s name (left - 1) c.in-Formatting.number c.in-Formatting.tag xs c.index-entry.result.now (omega arith) c.index-entry.ensures c.in-Formatting.is
    (sym c.is_named.ensures ∙ c.if-is_named.true)
    (subst (λ (n : ℕ). listed name (seen s xs) ≡ listed name (seen s (take n xs))) (one-less left some) c.loop-left.invariant.same)

pub loop-left-preserved : goal.loop-left-preserved
loop-left-preserved c =
    let s = c.args.store.now in
    let name = c.args.name.now in
    let xs = c.args.self.now.entries.items in
    let left = c.loop-left.left in
    let within = c.loop-left.invariant.within in
    let some = c.loop-left-test.true in
    record {
      within = omega arith;
      same =
          listed-step s name (left - 1) c.in-Formatting.number c.in-Formatting.tag xs c.index-entry.result.now (omega arith) c.index-entry.ensures c.in-Formatting.is
          (sym c.is_named.ensures ∙ c.if-is_named.false)
          (subst (λ (n : ℕ). listed name (seen s xs) ≡ listed name (seen s (take n xs))) (one-less left some) c.loop-left.invariant.same);
    }

pub returns-clause-stands : goal.returns-clause-stands
returns-clause-stands c =
    let s = c.args.store.now in
    let name = c.args.name.now in
    let xs = c.args.self.now.entries.items in
    let end = c.loop-left-test.false in
    let none : c.loop-left.left ≡ 0 = omega arith in
    sym (c.loop-left.invariant.same
    ∙ (ap (λ (n : ℕ). listed name (seen s (take n xs))) none ∙ ap (listed name) (seen-none s)))

pub returns-then-is_unnamed-clause-stands : goal.returns-then-is_unnamed-clause-stands
returns-then-is_unnamed-clause-stands c =
    sym (c.is_unnamed.ensures c.args.store.now c.if-is_unnamed.true c.requires.tallied)
