use Rattle.std.proofs.Common.{◌∙◌}
use Rattle.tl_tree.proofs.FrameParts.{frame-there, grows-on, number-kept, row-of-children, row-of-waiting, with-joined}
use Rattle.tl_tree.proofs.Grown.{grows_trans}
use Rattle.tl_tree.proofs.Entering.{role-kept}
use Rattle.tl_tree.proofs.Written.{caught-up}
use Rattle.tl_tree.proofs.path.FramePath.join_waiting.Goals as goal

pub write-requires-clause-role : goal.write-requires-clause-role
write-requires-clause-role c =
    role-kept c.add.new.self.store c.args.self.now.frames.items c.add.new.self.frames.items c.args.index c.index-frame.result.now c.in_ok-frame.frame _ (c.add.ensures.frames ∙ c.folded.ensures.frames) c.index-frame.ensures c.requires.index c.in_ok-frame.ensures.tag

pub returns-clause-ok : goal.returns-clause-ok
returns-clause-ok c =
    let p = c.args.self.now in
    caught-up p c.folded.new.self c.add.new.self c.write.new.self c.args.index c.index-frame.result.now c.in_ok-frame.frame c.in_ok-children.children c.folded.ensures.grows c.add.ensures.grows (c.add.ensures.frames ∙ c.folded.ensures.frames) c.write.ensures.store c.write.ensures.frames c.index-frame.ensures c.requires.index c.in_ok-frame.ensures.within c.in_ok-frame.ensures.stands c.in_ok-frame.ensures.late c.in_ok-children.ensures.stands

pub write-requires-clause-within : goal.write-requires-clause-within
write-requires-clause-within c =
    with-joined c.folded.new.self.store c.add.new.self.store c.add.ensures.grows c.in_ok-frame.frame c.in_ok-children.children c.in_ok-frame.ensures.within c.in_ok-children.ensures.within

pub write-requires-clause-number : goal.write-requires-clause-number
write-requires-clause-number c =
    number-kept c.args.self.now.frames.items c.add.new.self.frames.items c.args.index c.index-frame.result.now c.in_ok-frame.frame _ (c.add.ensures.frames ∙ c.folded.ensures.frames) c.index-frame.ensures c.requires.index c.in_ok-frame.ensures.number

pub returns-in_err-children-clause-grows : goal.returns-in_err-children-clause-grows
returns-in_err-children-clause-grows c =
    grows_trans c.args.self.now.store c.folded.new.self.store c.add.new.self.store c.folded.ensures.grows c.add.ensures.grows

pub returns-clause-next : goal.returns-clause-next
returns-clause-next c = c.write.ensures.next ∙ (c.add.ensures.next ∙ c.folded.ensures.next)

pub returns-clause-grows : goal.returns-clause-grows
returns-clause-grows c =
    let s = c.args.self.now.store in
    let m = c.add.new.self.store in
    grows-on s m c.write.new.self.store (grows_trans s c.folded.new.self.store m c.folded.ensures.grows c.add.ensures.grows) c.write.ensures.store

pub folded-requires : goal.folded-requires
folded-requires c =
    frame-there c.args.self.now c.args.index c.index-frame.result.now c.index-frame.ensures c.requires.index

pub add-requires-clause-before : goal.add-requires-clause-before
add-requires-clause-before c =
    row-of-children c.folded.new.self.store c.in_ok-frame.frame c.in_ok-frame.ensures.within

pub add-requires-clause-node : goal.add-requires-clause-node
add-requires-clause-node c =
    row-of-waiting c.folded.new.self.store c.in_ok-frame.frame c.in_ok-frame.ensures.within
