use Rattle.tl_tree.proofs.Entering.{frame-entered}
use Rattle.tl_tree.proofs.path.FramePath.entered_at.Goals as goal

pub returns : goal.returns
returns c =
    frame-entered c.args.self.now.store c.args.self.now.frames.items c.args.index c.index-frame.result.now c.role_at.result c.index-frame.ensures c.requires c.role_at.ensures
