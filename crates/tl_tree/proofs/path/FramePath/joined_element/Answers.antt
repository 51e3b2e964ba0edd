use Rattle.std.proofs.Common.{◌∙◌}
use Rattle.tl_tree.proofs.Grown.{grows_refl, grows_trans}
use Rattle.tl_tree.proofs.Written.{element-none, element-some, element-within, frames-grown}
use Rattle.tl_tree.proofs.FrameParts.{row-of-children, row-of-waiting}
use Rattle.tl_tree.proofs.path.FramePath.joined_element.Goals as goal

pub returns-in_err-frame-clause-frames : goal.returns-in_err-frame-clause-frames
returns-in_err-frame-clause-frames c =
    frames-grown c.args.self.now c.folded.new.self c.folded.ensures.grows c.folded.ensures.frames

pub returns-then-frame-eq0-clause-stands : goal.returns-then-frame-eq0-clause-stands
returns-then-frame-eq0-clause-stands c =
    element-none c.args.self.now.store c.folded.new.self.store c.args.frame c.in_ok-frame.frame c.in_ok-frame.ensures.stands c.in_ok-frame.ensures.late c.if-frame-eq0.true

pub returns-then-frame-eq0-clause-frames : goal.returns-then-frame-eq0-clause-frames
returns-then-frame-eq0-clause-frames c =
    frames-grown c.args.self.now c.folded.new.self c.folded.ensures.grows c.folded.ensures.frames

pub returns-in_err-below-clause-frames : goal.returns-in_err-below-clause-frames
returns-in_err-below-clause-frames c =
    let p = c.args.self.now in
    frames-grown p c.add.new.self (grows_trans p.store c.folded.new.self.store c.add.new.self.store c.folded.ensures.grows c.add.ensures.grows) (c.add.ensures.frames ∙ c.folded.ensures.frames)

pub returns-clause-stands : goal.returns-clause-stands
returns-clause-stands c =
    element-some c.args.self.now.store c.folded.new.self.store c.add.new.self.store c.args.frame c.in_ok-frame.frame c.in_ok-below.below c.add.ensures.grows c.in_ok-frame.ensures.within c.in_ok-frame.ensures.stands c.in_ok-frame.ensures.late c.in_ok-below.ensures.stands

pub returns-clause-frames : goal.returns-clause-frames
returns-clause-frames c =
    let p = c.args.self.now in
    frames-grown p c.add.new.self (grows_trans p.store c.folded.new.self.store c.add.new.self.store c.folded.ensures.grows c.add.ensures.grows) (c.add.ensures.frames ∙ c.folded.ensures.frames)

pub folded-requires : goal.folded-requires
folded-requires c = c.requires

pub add-requires-clause-before : goal.add-requires-clause-before
add-requires-clause-before c =
    row-of-children c.folded.new.self.store c.in_ok-frame.frame c.in_ok-frame.ensures.within

pub add-requires-clause-node : goal.add-requires-clause-node
add-requires-clause-node c =
    row-of-waiting c.folded.new.self.store c.in_ok-frame.frame c.in_ok-frame.ensures.within

pub returns-then-frame-eq0-clause-within : goal.returns-then-frame-eq0-clause-within
returns-then-frame-eq0-clause-within c =
    let s = c.folded.new.self.store in
    let f = c.in_ok-frame.frame in
    element-within s s f f.children (grows_refl s) c.in_ok-frame.ensures.within (row-of-children s f c.in_ok-frame.ensures.within)

pub returns-in_err-below-clause-grows : goal.returns-in_err-below-clause-grows
returns-in_err-below-clause-grows c =
    grows_trans c.args.self.now.store c.folded.new.self.store c.add.new.self.store c.folded.ensures.grows c.add.ensures.grows

pub returns-clause-within : goal.returns-clause-within
returns-clause-within c =
    element-within c.folded.new.self.store c.add.new.self.store c.in_ok-frame.frame c.in_ok-below.below c.add.ensures.grows c.in_ok-frame.ensures.within c.in_ok-below.ensures.within

pub returns-clause-next : goal.returns-clause-next
returns-clause-next c = c.add.ensures.next ∙ c.folded.ensures.next

pub returns-clause-grows : goal.returns-clause-grows
returns-clause-grows c =
    grows_trans c.args.self.now.store c.folded.new.self.store c.add.new.self.store c.folded.ensures.grows c.add.ensures.grows
