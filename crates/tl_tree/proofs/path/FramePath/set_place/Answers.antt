use Rattle.std.proofs.Common.{refl}
use Rattle.tl_tree.proofs.Readopted.{rewritten}
use Rattle.tl_tree.specs.Inner.Adopted.{placed}
use Rattle.tl_tree.specs.Inner.Frames.{place_of}
use Rattle.tl_tree.proofs.path.FramePath.set_place.Goals as goal

pub returns-clause-frames : goal.returns-clause-frames
returns-clause-frames c =
    let p = c.args.self.now in
    let f = c.index-frame.result.now in
    rewritten p c.write.new.self c.args.index f (record f { place = c.args.place }) (placed (place_of c.args.place)) c.write.ensures.store c.write.ensures.frames c.index-frame.ensures c.requires refl
