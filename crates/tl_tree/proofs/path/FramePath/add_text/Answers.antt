use Rattle.std.proofs.Common.{length, refl}
use Rattle.tl_tree.proofs.Entering.{known-grown}
use Rattle.tl_tree.proofs.Listed.{all-weaker}
use Rattle.tl_tree.proofs.Written.{frame-more, path-grown}
use Rattle.tl_tree.specs.Inner.Framed.{frame_is_within}
use Rattle.tl_tree.specs.Inner.Frames.{is_frame}
use Rattle.tl_tree.proofs.path.FramePath.add_text.Goals as goal

pub invariant_of-self-clause-within : goal.invariant_of-self-clause-within
invariant_of-self-clause-within c =
    let p = c.args.self.now in
    let s = c.text.new.store in
    all-weaker (is_frame p) (frame_is_within (length s.tags.items) (length s.cells.items)) (frame-more p.store s c.text.ensures.grows) p.frames.items p.within

pub invariant_of-self-clause-known : goal.invariant_of-self-clause-known
invariant_of-self-clause-known c = known-grown c.args.self.now c.text.new.store c.text.ensures.grows

pub returns-clause-path : goal.returns-clause-path
returns-clause-path c =
    path-grown c.args.self.now _ c.text.ensures.grows refl refl
