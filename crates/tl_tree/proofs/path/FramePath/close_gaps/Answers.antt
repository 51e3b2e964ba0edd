use Rattle.std.proofs.Common.{Bool, IsTrue, List, arith, length, refl, subst, sym, ◌<◌, ◌∙◌, ◌≡◌}
use Rattle.tl_tree.proofs.There.{there-all}
use Rattle.tl_tree.specs.Inner.Gone.{are_shut, gone_in}
use Rattle.tl_tree.proofs.path.FramePath.close_gaps.Goals as goal

pub invariant_of-self-clause-some : goal.invariant_of-self-clause-some
invariant_of-self-clause-some c =
    let p = c.args.self.now in
    let some = p.some in
    subst (λ (marks : List Bool). length marks < length p.frames.items) (sym c.clear.ensures) (omega arith)

pub invariant_of-self-clause-shut : goal.invariant_of-self-clause-shut
invariant_of-self-clause-shut c =
    subst (λ (marks : List Bool). IsTrue (are_shut marks c.args.self.now.frames.items)) (sym c.clear.ensures) refl

pub returns-clause-frames : goal.returns-clause-frames
returns-clause-frames c =
    let p = c.args.self.now in
    let none : gone_in p.gaps.marks.items ≡ 0 = omega (arith, p.gaps.counted) in
    sym (there-all p.gaps.marks.items p.frames.items none)
