use Rattle.std.proofs.Common.{arith, refl, ◌+◌}
use Rattle.tl_tree.proofs.Listed.{all-weaker}
use Rattle.tl_tree.proofs.Within.{lt-more}
use Rattle.tl_tree.specs.Inner.Framed.{is_before}
use Rattle.tl_tree.specs.Inner.Frames.{frames_of}
use Rattle.tl_tree.proofs.path.FramePath.count_one.Goals as goal

pub invariant_of-self-clause-numbered : goal.invariant_of-self-clause-numbered
invariant_of-self-clause-numbered c =
    let p = c.args.self.now in
    all-weaker (is_before p.next) (is_before (p.next + 1)) (λ g h. lt-more g.number p.next (p.next + 1) h (omega arith)) p.frames.items p.numbered

pub returns-clause-frames : goal.returns-clause-frames
unfolding frames_of
returns-clause-frames c = refl
