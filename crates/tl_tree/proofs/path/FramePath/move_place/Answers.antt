use Rattle.std.proofs.Common.{ap}
use Rattle.tl_dom_spec.specs.Path as dom
use Rattle.tl_tree.proofs.Readopted.{rewritten}
use Rattle.tl_tree.specs.Inner.Adopted.{moved, placed}
use Rattle.tl_tree.specs.Inner.Frames.{frame_of}
use Rattle.tl_tree.proofs.path.FramePath.move_place.Goals as goal

pub returns-clause-frames : goal.returns-clause-frames
returns-clause-frames c =
    let p = c.args.self.now in
    let f = c.index-frame.result.now in
    rewritten p c.write.new.self c.args.index f (record f { place = c.moved-place.result }) (moved c.args.block c.args.new) c.write.ensures.store c.write.ensures.frames c.index-frame.ensures c.requires
    (ap (λ (place : dom.Place). placed place (frame_of p.store f)) c.moved-place.ensures)
