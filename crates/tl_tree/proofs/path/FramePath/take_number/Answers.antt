use Rattle.std.proofs.Common.{arith, ◌+◌}
use Rattle.tl_tree.proofs.Listed.{all-weaker}
use Rattle.tl_tree.proofs.Within.{lt-more}
use Rattle.tl_tree.specs.Inner.Framed.{is_before}
use Rattle.tl_tree.proofs.path.FramePath.take_number.Goals as goal

pub invariant_of-self-clause-numbered : goal.invariant_of-self-clause-numbered
invariant_of-self-clause-numbered c =
    let p = c.args.self.now in
    all-weaker (is_before p.next) (is_before (p.next + 1)) (λ g h. lt-more g.number p.next (p.next + 1) h (omega arith)) p.frames.items p.numbered
