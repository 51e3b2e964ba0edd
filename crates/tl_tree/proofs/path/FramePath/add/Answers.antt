use Rattle.std.proofs.Common.{length}
use Rattle.tl_tree.proofs.Entering.{known-grown}
use Rattle.tl_tree.proofs.Listed.{all-weaker}
use Rattle.tl_tree.proofs.Written.{frame-more}
use Rattle.tl_tree.specs.Inner.Framed.{frame_is_within}
use Rattle.tl_tree.specs.Inner.Frames.{is_frame}
use Rattle.tl_tree.proofs.path.FramePath.add.Goals as goal

pub invariant_of-self-clause-within : goal.invariant_of-self-clause-within
invariant_of-self-clause-within c =
    let p = c.args.self.now in
    all-weaker (is_frame p) (frame_is_within (length c.add.new.self.tags.items) (length c.add.new.self.cells.items)) (frame-more p.store c.add.new.self c.add.ensures.grows) p.frames.items p.within

pub invariant_of-self-clause-known : goal.invariant_of-self-clause-known
invariant_of-self-clause-known c = known-grown c.args.self.now c.add.new.self c.add.ensures.grows
