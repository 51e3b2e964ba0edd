use Rattle.std.proofs.Common.{ap, refl, ◌∙◌}
use Rattle.tl_tree.proofs.Entering.{role-kept}
use Rattle.tl_tree.proofs.Stacked.{tag-read, tagged-at}
use Rattle.tl_tree.specs.Inner.Entered.{role_at}
use Rattle.tl_tree.proofs.path.FramePath.retag.Goals as goal

pub write-requires-clause-role : goal.write-requires-clause-role
write-requires-clause-role c =
    let p = c.args.self.now in
    let f = c.index-frame.result.now in
    c.requires.role
    ∙ (ap (role_at p.store) (tag-read p c.args.index f c.index-frame.ensures c.requires.index)
    ∙ role-kept p.store p.frames.items p.frames.items c.args.index f f _ refl c.index-frame.ensures c.requires.index refl)

pub returns-clause-frames : goal.returns-clause-frames
returns-clause-frames c =
    tagged-at c.args.self.now c.write.new.self c.args.index c.index-frame.result.now c.args.tag c.write.ensures.store c.write.ensures.frames c.index-frame.ensures c.requires.index
