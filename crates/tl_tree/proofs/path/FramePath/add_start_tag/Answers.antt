use Rattle.std.proofs.Common.{length, refl}
use Rattle.tl_tree.proofs.Entering.{known-grown}
use Rattle.tl_tree.proofs.Listed.{all-weaker}
use Rattle.tl_tree.proofs.Written.{frame-more, path-grown}
use Rattle.tl_tree.specs.Inner.Framed.{frame_is_within}
use Rattle.tl_tree.specs.Inner.Frames.{is_frame}
use Rattle.tl_tree.proofs.path.FramePath.add_start_tag.Goals as goal

pub invariant_of-self-clause-within : goal.invariant_of-self-clause-within
invariant_of-self-clause-within c =
    let p = c.args.self.now in
    let s = c.add_start_tag.new.self in
    all-weaker (is_frame p) (frame_is_within (length s.tags.items) (length s.cells.items)) (frame-more p.store s c.add_start_tag.ensures.grows) p.frames.items p.within

pub invariant_of-self-clause-known : goal.invariant_of-self-clause-known
invariant_of-self-clause-known c = known-grown c.args.self.now c.add_start_tag.new.self c.add_start_tag.ensures.grows

pub returns-clause-path : goal.returns-clause-path
returns-clause-path c =
    path-grown c.args.self.now _ c.add_start_tag.ensures.grows refl refl
