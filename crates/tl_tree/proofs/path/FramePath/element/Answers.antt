use Rattle.std.proofs.Common.{arith, refl, ◌≡◌}
use Rattle.tl_tree.proofs.Written.{element-none}
use Rattle.tl_tree.proofs.path.FramePath.element.Goals as goal

pub returns-clause-stands : goal.returns-clause-stands
returns-clause-stands c =
    let s = c.args.self.now.store in
    let f = c.args.frame in
    let late : f.late ≡ 0 = omega arith in
    let waiting : f.waiting ≡ 0 = omega arith in
    element-none s s f f refl late waiting
