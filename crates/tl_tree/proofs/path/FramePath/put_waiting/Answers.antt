use Rattle.std.proofs.Common.{refl, ◌∙◌}
use Rattle.tl_tree.proofs.FrameParts.{frame-there, grows-on, number-kept, with-waiting}
use Rattle.tl_tree.proofs.Entering.{role-kept}
use Rattle.tl_tree.proofs.Written.{put-waiting}
use Rattle.tl_tree.specs.Inner.Store.{node_of}
use Rattle.tl_tree.proofs.path.FramePath.put_waiting.Goals as goal

pub returns-clause-ok : goal.returns-clause-ok
returns-clause-ok c =
    let p = c.args.self.now in
    put-waiting p c.add.new.self c.write.new.self c.args.index c.index-frame.result.now c.in_ok-waiting.waiting (node_of p.store c.args.node) c.add.ensures.grows c.add.ensures.frames c.write.ensures.store c.write.ensures.frames c.index-frame.ensures c.requires.index c.in_ok-waiting.ensures.stands

pub write-requires-clause-within : goal.write-requires-clause-within
write-requires-clause-within c =
    let p = c.args.self.now in
    let f = c.index-frame.result.now in
    with-waiting p.store c.add.new.self.store c.add.ensures.grows f c.in_ok-waiting.waiting (frame-there p c.args.index f c.index-frame.ensures c.requires.index) c.in_ok-waiting.ensures.within

pub write-requires-clause-number : goal.write-requires-clause-number
write-requires-clause-number c =
    let f = c.index-frame.result.now in
    number-kept c.args.self.now.frames.items c.add.new.self.frames.items c.args.index f f _ c.add.ensures.frames c.index-frame.ensures c.requires.index refl

pub write-requires-clause-role : goal.write-requires-clause-role
write-requires-clause-role c =
    let f = c.index-frame.result.now in
    role-kept c.add.new.self.store c.args.self.now.frames.items c.add.new.self.frames.items c.args.index f f _ c.add.ensures.frames c.index-frame.ensures c.requires.index refl

pub returns-clause-next : goal.returns-clause-next
returns-clause-next c = c.write.ensures.next ∙ c.add.ensures.next

pub returns-clause-grows : goal.returns-clause-grows
returns-clause-grows c =
    grows-on c.args.self.now.store c.add.new.self.store c.write.new.self.store c.add.ensures.grows c.write.ensures.store
