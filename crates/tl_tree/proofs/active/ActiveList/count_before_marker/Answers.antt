use Rattle.std.proofs.Common.{◌∙◌, ◌≡◌, ◌-◌, ap, arith, subst, take, ℕ}
use Rattle.tl_dom_spec.specs.Builder.{without_last_marker}
use Rattle.tl_tree.proofs.Actives.{cleared-marker, cleared-none, cleared-step, marker-of, one-less}
use Rattle.tl_tree.specs.Inner.Active.{seen}
use Rattle.tl_tree.proofs.active.ActiveList.count_before_marker.Goals as goal

pub loop-left-preserved : goal.loop-left-preserved
loop-left-preserved c =
    let xs = c.args.self.now.entries.items in
    let left = c.loop-left.left in
    let within = c.loop-left.invariant.within in
    let some = c.loop-left-test.true in
    record {
      within = omega arith;
      same = λ s.
          cleared-step s (left - 1) c.in-Formatting.number c.in-Formatting.tag xs c.index-entry.result.now (omega arith) c.index-entry.ensures c.in-Formatting.is
          (subst (λ (n : ℕ). without_last_marker (seen s xs) ≡ without_last_marker (seen s (take n xs))) (one-less left some) (c.loop-left.invariant.same s));
    }

pub returns-in_default : goal.returns-in_default
returns-in_default c =
    let xs = c.args.self.now.entries.items in
    let left = c.loop-left.left in
    let within = c.loop-left.invariant.within in
    let some = c.loop-left-test.true in
    λ s.
    cleared-marker s (left - 1) xs c.index-entry.result.now (omega arith) c.index-entry.ensures (marker-of c.index-entry.result.now c.in_default.not-Formatting)
    (subst (λ (n : ℕ). without_last_marker (seen s xs) ≡ without_last_marker (seen s (take n xs))) (one-less left some) (c.loop-left.invariant.same s))

pub returns : goal.returns
returns c =
    let xs = c.args.self.now.entries.items in
    let end = c.loop-left-test.false in
    let none : c.loop-left.left ≡ 0 = omega arith in
    λ s. c.loop-left.invariant.same s ∙ (ap (λ (n : ℕ). without_last_marker (seen s (take n xs))) none ∙ cleared-none s xs)
