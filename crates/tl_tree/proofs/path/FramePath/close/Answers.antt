use Rattle.tl_tree.proofs.Inserted.{closed-at}
use Rattle.tl_tree.proofs.path.FramePath.close.Goals as goal

pub returns-clause-frames : goal.returns-clause-frames
returns-clause-frames c =
    closed-at c.args.self.now c.write.new.self c.args.index c.index-frame.result.now c.write.ensures.store c.write.ensures.frames c.index-frame.ensures c.requires
