use Rattle.std.proofs.Common.{ap, arith, false, get_or, inl, inr, subst, sym, ℕ, ◌+◌, ◌-◌, ◌<◌, ◌≡◌, ◌∙◌}
use Rattle.std.proofs.lemmas.Bool.{cases_lt}
use Rattle.tl_dom_spec.specs.Path as dom
use Rattle.tl_tree.proofs.Ancestor.{if-some-both, if-some-weaker}
use Rattle.tl_tree.specs.Inner.Adopted.{IsNear, frame_at}
use Rattle.tl_tree.proofs.path.FramePath.ancestor_over.Goals as goal

pub loop-left-init : goal.loop-left-init
loop-left-init c =
    record {
      bound = omega arith;
      between = λ n least less. absurd (omega arith);
    }

pub loop-left-preserved : goal.loop-left-preserved
loop-left-preserved c =
    let p = c.args.self.now in
    let m = c.loop-left.left - 1 in
    let bound = c.loop-left.invariant.bound in
    let some = c.loop-left-test.true in
    let passed = c.if-not-is_passed.false in
    record {
      bound = omega arith;
      between = λ n least less. elim (cases_lt m n) [
        | inl more ↦ c.loop-left.invariant.between n (omega arith) less
        | inr same ↦ (let is : n ≡ m = omega arith in
            subst (λ (i : ℕ). get_or p.gaps.marks.items i false ≡ false → (frame_at p i).place ≡ dom.here) (sym is) (c.is_passed.ensures passed))
      ];
    }

pub own_ancestor-requires-clause-some : goal.own_ancestor-requires-clause-some
own_ancestor-requires-clause-some c = omega (arith, c.loop-left-test.true)

pub returns-then-is_own-clause-within : goal.returns-then-is_own-clause-within
returns-then-is_own-clause-within c =
    let bound = c.loop-left.invariant.bound in
    let some = c.loop-left-test.true in
    if-some-weaker _ _ c.own_ancestor.result (λ place e. omega (arith, e)) c.own_ancestor.ensures.outside

pub returns-then-is_own-clause-near : goal.returns-then-is_own-clause-near
returns-then-is_own-clause-near c =
    let p = c.args.self.now in
    let m = c.loop-left.left - 1 in
    let own = c.is_own.ensures.own c.if-is_own.true in
    if-some-both _ _ _ c.own_ancestor.result
    (λ place e near.
    subst (λ (i : ℕ). IsNear c.args.is_fostering c.args.number (frame_at p place) (frame_at p i)) e
    (subst (λ (k : ℕ). IsNear c.args.is_fostering k (frame_at p place) (frame_at p m)) own near))
    c.own_ancestor.ensures.outside c.own_ancestor.ensures.near

pub returns-then-is_own-clause-stands : goal.returns-then-is_own-clause-stands
returns-then-is_own-clause-stands c =
    let p = c.args.self.now in
    if-some-weaker _ _ c.own_ancestor.result
    (λ place e. ap (λ (i : ℕ). get_or p.gaps.marks.items i false) (sym e) ∙ c.is_own.ensures.stands c.if-is_own.true)
    c.own_ancestor.ensures.outside

pub returns-then-is_own-clause-between : goal.returns-then-is_own-clause-between
returns-then-is_own-clause-between c =
    let p = c.args.self.now in
    let m = c.loop-left.left - 1 in
    let some = c.loop-left-test.true in
    if-some-both _ _ _ c.own_ancestor.result
    (λ place e near n inside less stands. elim (cases_lt m n) [
      | inl more ↦ c.loop-left.invariant.between n (omega arith) less stands
      | inr same ↦ (let is : n ≡ m = omega (arith, e) in ap (λ (i : ℕ). (frame_at p i).place) is ∙ near.goes)
    ])
    c.own_ancestor.ensures.outside c.own_ancestor.ensures.near
