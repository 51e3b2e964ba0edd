use Rattle.tl_tree.proofs.Readopted.{nothing-in, rewritten}
use Rattle.tl_tree.specs.Inner.Adopted.{emptied}
use Rattle.tl_tree.specs.declared.frame.Place.TheVariants.{Here}
use Rattle.tl_tree.proofs.path.FramePath.empty.Goals as goal

pub returns-clause-frames : goal.returns-clause-frames
returns-clause-frames c =
    let p = c.args.self.now in
    let f = c.index-frame.result.now in
    rewritten p c.write.new.self c.args.index f (record f { children = 0; late = 0; waiting = 0; place = Here }) emptied c.write.ensures.store c.write.ensures.frames c.index-frame.ensures c.requires (nothing-in p.store f)
