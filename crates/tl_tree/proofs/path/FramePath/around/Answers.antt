use Rattle.std.proofs.Common.{Bool, ap, arith, false, get_or, inl, inr, not, refl, sym, true, ℕ, ◌-◌, ◌+◌, ◌<◌, ◌≡◌, ◌≤◌, ◌∙◌}
use Rattle.std.proofs.lemmas.Bool.{cases_lt, false≢true}
use Rattle.tl_tree.proofs.Fostered.{around-gone, around-none, around-there}
use Rattle.tl_tree.specs.Inner.Frames.{around}
use Rattle.tl_tree.proofs.path.FramePath.around.Goals as goal

pub returns-then-not-has-clause-within : goal.returns-then-not-has-clause-within
returns-then-not-has-clause-within c =
    let bound = c.loop-left.invariant.bound in
    let some = c.loop-left-test.true in
    omega arith

pub returns-then-not-has-clause-gone : goal.returns-then-not-has-clause-gone
returns-then-not-has-clause-gone c = λ n least less.
    c.loop-left.invariant.gone n (omega arith) less

pub returns-then-not-has-clause-some : goal.returns-then-not-has-clause-some
returns-then-not-has-clause-some c =
    let p = c.args.self.now in
    let n = c.loop-left.left - 1 in
    let bound = c.loop-left.invariant.bound in
    let some = c.loop-left-test.true in
    let within = c.requires in
    let next : c.loop-left.left ≡ n + 1 = omega arith in
    c.loop-left.invariant.rest
    ∙ (ap (around p) next ∙ around-there p n (omega arith) (sym c.has.ensures ∙ c.if-not-has.true))

pub loop-left-preserved : goal.loop-left-preserved
loop-left-preserved c =
    let p = c.args.self.now in
    let n = c.loop-left.left - 1 in
    let bound = c.loop-left.invariant.bound in
    let some = c.loop-left-test.true in
    let within = c.requires in
    let next : c.loop-left.left ≡ n + 1 = omega arith in
    let gone = sym c.has.ensures ∙ c.if-not-has.false in
    record {
      bound = omega arith;
      gone = λ k least less. elim (cases_lt n k) [
        | inl more ↦ c.loop-left.invariant.gone k (omega arith) less
        | inr most ↦ (let same : k ≡ n = omega arith in
            ap (λ (i : ℕ). get_or p.gaps.marks.items i false) same ∙ gone)
      ];
      rest = c.loop-left.invariant.rest ∙ (ap (around p) next ∙ around-gone p n (omega arith) gone);
    }

pub returns-clause-none : goal.returns-clause-none
returns-clause-none c = λ _.
    let p = c.args.self.now in
    let end = c.loop-left-test.false in
    let none : c.loop-left.left ≡ 0 = omega arith in
    c.loop-left.invariant.rest ∙ (ap (around p) none ∙ around-none p)
