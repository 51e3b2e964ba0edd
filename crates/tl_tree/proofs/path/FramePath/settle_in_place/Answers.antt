use Rattle.std.proofs.Common.{Bool, List, ap, arith, drop, false, get_or, length, suc, sym, ◌+◌, ◌<◌, ◌≡◌, ◌∙◌, refl, ℕ}
use Rattle.tl_dom_spec.specs.Path as dom
use Rattle.tl_dom_spec.specs.Path.{caught_up, with_nodes}
use Rattle.tl_tree.proofs.FrameParts as parts
use Rattle.tl_tree.proofs.FrameParts.{grows-on}
use Rattle.tl_tree.proofs.Furthest.{frame-there}
use Rattle.tl_tree.proofs.Grown.{grows_trans}
use Rattle.tl_tree.proofs.Marks.{without-at, without-drop}
use Rattle.tl_tree.proofs.Over.{length-changed, settled-behind, settled-in-place, settled-said, settled-shapes, shut-left}
use Rattle.tl_tree.proofs.Popped.{some-around}
use Rattle.tl_tree.proofs.Written.{frames-length}
use Rattle.tl_tree.specs.Inner.Frames.{changed, closed, frames_of}
use Rattle.tl_tree.specs.Inner.Gone.{without}
use Rattle.tl_tree.specs.Inner.Store.{node_of}
use Rattle.tl_tree.specs.declared.gaps.Gaps.{Gaps}
use Rattle.tl_tree.proofs.path.FramePath.settle_in_place.Goals as goal

pub returns-in_default-clause-path : goal.returns-in_default-clause-path
returns-in_default-clause-path c =
    let within = c.requires.within in
    let some = some-around c.args.self.now c.args.place c.requires.some (omega arith) in
    let none = ap length (c.around.ensures.none c.in_default.is) in
    absurd (omega arith)

pub returns-in_default-clause-gone : goal.returns-in_default-clause-gone
returns-in_default-clause-gone c =
    let within = c.requires.within in
    let some = some-around c.args.self.now c.args.place c.requires.some (omega arith) in
    let none = ap length (c.around.ensures.none c.in_default.is) in
    absurd (omega arith)

pub element-requires : goal.element-requires
element-requires c =
    let within = c.requires.within in
    parts.frame-there c.args.self.now c.args.place c.index-own.result.now c.index-own.ensures (omega arith)

pub put_inside-requires-clause-index : goal.put_inside-requires-clause-index
put_inside-requires-clause-index c =
    let p = c.args.self.now in
    let a = c.in-Some.around in
    let n = c.args.place in
    let q = c.element.new.self in
    let same = ap length c.in_ok-node.ensures.frames in
    let old = frames-length p in
    let new = frames-length q in
    let less = c.in-Some.ensures.within in
    let within = c.requires.within in
    omega arith

pub put_inside-requires-clause-node : goal.put_inside-requires-clause-node
put_inside-requires-clause-node c = c.in_ok-node.ensures.within

pub catch_up-requires : goal.catch_up-requires
catch_up-requires c =
    let p = c.args.self.now in
    let a = c.in-Some.around in
    let n = c.args.place in
    let q = c.element.new.self in
    let same = ap length c.in_ok-node.ensures.frames in
    let old = frames-length p in
    let new = frames-length q in
    let less = c.in-Some.ensures.within in
    let within = c.requires.within in
    let one = c.put_inside.ensures.len in
    record { index = omega arith }

pub close-requires : goal.close-requires
close-requires c =
    let p = c.args.self.now in
    let a = c.in-Some.around in
    let n = c.args.place in
    let q = c.element.new.self in
    let same = ap length c.in_ok-node.ensures.frames in
    let old = frames-length p in
    let new = frames-length q in
    let less = c.in-Some.ensures.within in
    let within = c.requires.within in
    let one = c.put_inside.ensures.len in
    let two = c.catch_up.ensures.len in
    omega arith

pub leave-requires-clause-small : goal.leave-requires-clause-small
leave-requires-clause-small c =
    let p = c.args.self.now in
    let own = p.frames.ok.0 in
    let small = p.frames.small in
    let within = c.requires.within in
    omega arith

pub leave-requires-clause-there : goal.leave-requires-clause-there
leave-requires-clause-there c =
    ap (λ (g : Gaps). get_or g.marks.items c.args.place false) (c.close.ensures.gaps ∙ (c.catch_up.ensures.gaps ∙ (c.put_inside.ensures.gaps ∙ c.element.ensures.gaps))) ∙ c.requires.stands

pub invariant_of-self-clause-some : goal.invariant_of-self-clause-some
invariant_of-self-clause-some c =
    let p = c.args.self.now in
    let a = c.in-Some.around in
    let n = c.args.place in
    let q = c.element.new.self in
    let same = ap length c.in_ok-node.ensures.frames in
    let old = frames-length p in
    let new = frames-length q in
    let less = c.in-Some.ensures.within in
    let within = c.requires.within in
    let one = c.put_inside.ensures.len in
    let two = c.catch_up.ensures.len in
    let r = c.close.new.self in
    let three = length-changed c.catch_up.new.self r n closed c.close.ensures.frames in
    let some = r.some in
    let most = c.leave.ensures.len in
    omega arith

pub invariant_of-self-clause-shut : goal.invariant_of-self-clause-shut
invariant_of-self-clause-shut c =
    let p = c.args.self.now in
    let a = c.in-Some.around in
    let n = c.args.place in
    let q = c.element.new.self in
    let same = ap length c.in_ok-node.ensures.frames in
    let old = frames-length p in
    let new = frames-length q in
    let less = c.in-Some.ensures.within in
    let within = c.requires.within in
    let one = c.put_inside.ensures.len in
    let two = c.catch_up.ensures.len in
    let r = c.close.new.self in
    let three = length-changed c.catch_up.new.self r n closed c.close.ensures.frames in
    c.leave.ensures.shut r.frames.items (shut-left c.catch_up.new.self r n (omega arith) three c.close.ensures.frames)

pub returns-clause-path : goal.returns-clause-path
unfolding frames_of
returns-clause-path c =
    let p = c.args.self.now in
    let a = c.in-Some.around in
    let n = c.args.place in
    let nodes = node_of c.element.new.self.store c.in_ok-node.node in
    let less = c.in-Some.ensures.within in
    let within = c.requires.within in
    let there = frame-there p n c.index-own.result.now c.index-own.ensures (omega arith) in
    let frames = (c.close.ensures.frames ∙ ap (changed n closed) (c.in_ok-catch_up.ensures.ok ∙ ap (changed a caught_up) (c.in_ok-put_inside.ensures.ok ∙ ap (changed a (with_nodes nodes)) c.in_ok-node.ensures.frames))) in
    settled-in-place p (frames_of c.close.new.self) c.leave.new.self.marks.items a n nodes less (omega arith) c.requires.stands c.requires.here c.in-Some.ensures.stands c.in-Some.ensures.gone c.in-Some.ensures.some
    (c.in_ok-node.ensures.stands ∙ ap dom.node_of (sym there))
    frames
    (c.in_ok-leave.ensures.ok ∙ ap (λ (g : Gaps). without n g.marks.items) (c.close.ensures.gaps ∙ (c.catch_up.ensures.gaps ∙ (c.put_inside.ensures.gaps ∙ c.element.ensures.gaps))))

pub returns-clause-gone : goal.returns-clause-gone
returns-clause-gone c = λ i.
    let p = c.args.self.now in
    let n = c.args.place in
    ap (λ (ms : List Bool). get_or ms i false) (c.in_ok-leave.ensures.ok ∙ ap (λ (g : Gaps). without n g.marks.items) (c.close.ensures.gaps ∙ (c.catch_up.ensures.gaps ∙ (c.put_inside.ensures.gaps ∙ c.element.ensures.gaps))))
    ∙ without-at p.gaps.marks.items n i

pub returns-clause-marks : goal.returns-clause-marks
returns-clause-marks c =
    let ms = c.args.self.now.gaps.marks.items in
    let n = c.args.place in
    let next : n + 1 ≡ suc n = omega arith in
    ap (drop (n + 1)) (c.in_ok-leave.ensures.ok ∙ ap (λ (g : Gaps). without n g.marks.items) (c.close.ensures.gaps ∙ (c.catch_up.ensures.gaps ∙ (c.put_inside.ensures.gaps ∙ c.element.ensures.gaps))))
    ∙ (ap (λ (k : ℕ). drop k (without n ms)) next
    ∙ (without-drop ms n ∙ ap (λ (k : ℕ). drop k ms) (sym next)))

pub returns-clause-behind : goal.returns-clause-behind
unfolding frames_of
returns-clause-behind c =
    let p = c.args.self.now in
    let a = c.in-Some.around in
    let n = c.args.place in
    let nodes = node_of c.element.new.self.store c.in_ok-node.node in
    let less = c.in-Some.ensures.within in
    let within = c.requires.within in
    settled-behind p (frames_of c.close.new.self) a n nodes less (c.close.ensures.frames ∙ ap (changed n closed) (c.in_ok-catch_up.ensures.ok ∙ ap (changed a caught_up) (c.in_ok-put_inside.ensures.ok ∙ ap (changed a (with_nodes nodes)) c.in_ok-node.ensures.frames)))

pub returns-clause-shapes : goal.returns-clause-shapes
unfolding frames_of
returns-clause-shapes c =
    let p = c.args.self.now in
    let a = c.in-Some.around in
    let n = c.args.place in
    let nodes = node_of c.element.new.self.store c.in_ok-node.node in
    let less = c.in-Some.ensures.within in
    let within = c.requires.within in
    settled-shapes p (frames_of c.close.new.self) a n nodes (c.close.ensures.frames ∙ ap (changed n closed) (c.in_ok-catch_up.ensures.ok ∙ ap (changed a caught_up) (c.in_ok-put_inside.ensures.ok ∙ ap (changed a (with_nodes nodes)) c.in_ok-node.ensures.frames)))

pub returns-clause-len : goal.returns-clause-len
returns-clause-len c =
    let p = c.args.self.now in
    let a = c.in-Some.around in
    let n = c.args.place in
    let q = c.element.new.self in
    let same = ap length c.in_ok-node.ensures.frames in
    let old = frames-length p in
    let new = frames-length q in
    let less = c.in-Some.ensures.within in
    let within = c.requires.within in
    let one = c.put_inside.ensures.len in
    let two = c.catch_up.ensures.len in
    let three = length-changed c.catch_up.new.self c.close.new.self n closed c.close.ensures.frames in
    omega arith

pub returns-in_err-put_inside-clause-grows : goal.returns-in_err-put_inside-clause-grows
returns-in_err-put_inside-clause-grows c =
    grows_trans c.args.self.now.store c.element.new.self.store c.put_inside.new.self.store c.element.ensures.grows c.put_inside.ensures.grows

pub returns-in_err-catch_up-clause-grows : goal.returns-in_err-catch_up-clause-grows
returns-in_err-catch_up-clause-grows c =
    let s = c.args.self.now.store in
    let u = c.put_inside.new.self.store in
    grows_trans s u c.catch_up.new.self.store (grows_trans s c.element.new.self.store u c.element.ensures.grows c.put_inside.ensures.grows) c.catch_up.ensures.grows

pub returns-in_err-leave-clause-grows : goal.returns-in_err-leave-clause-grows
returns-in_err-leave-clause-grows c =
    let s = c.args.self.now.store in
    let u = c.put_inside.new.self.store in
    let t = c.catch_up.new.self.store in
    grows-on s t c.close.new.self.store (grows_trans s u t (grows_trans s c.element.new.self.store u c.element.ensures.grows c.put_inside.ensures.grows) c.catch_up.ensures.grows) c.close.ensures.store

pub returns-clause-grows : goal.returns-clause-grows
returns-clause-grows c =
    let s = c.args.self.now.store in
    let u = c.put_inside.new.self.store in
    let t = c.catch_up.new.self.store in
    grows-on s t c.close.new.self.store (grows_trans s u t (grows_trans s c.element.new.self.store u c.element.ensures.grows c.put_inside.ensures.grows) c.catch_up.ensures.grows) c.close.ensures.store

pub returns-clause-numbers : goal.returns-clause-numbers
unfolding frames_of
returns-clause-numbers c =
    let p = c.args.self.now in
    let a = c.in-Some.around in
    let n = c.args.place in
    let nodes = node_of c.element.new.self.store c.in_ok-node.node in
    settled-said (λ (f : dom.Frame). f.number) p (frames_of c.close.new.self) a n nodes (λ f. refl) (λ f. refl) (λ f. refl) (c.close.ensures.frames ∙ ap (changed n closed) (c.in_ok-catch_up.ensures.ok ∙ ap (changed a caught_up) (c.in_ok-put_inside.ensures.ok ∙ ap (changed a (with_nodes nodes)) c.in_ok-node.ensures.frames)))

pub returns-clause-tags : goal.returns-clause-tags
unfolding frames_of
returns-clause-tags c =
    let p = c.args.self.now in
    let a = c.in-Some.around in
    let n = c.args.place in
    let nodes = node_of c.element.new.self.store c.in_ok-node.node in
    settled-said (λ (f : dom.Frame). f.tag) p (frames_of c.close.new.self) a n nodes (λ f. refl) (λ f. refl) (λ f. refl) (c.close.ensures.frames ∙ ap (changed n closed) (c.in_ok-catch_up.ensures.ok ∙ ap (changed a caught_up) (c.in_ok-put_inside.ensures.ok ∙ ap (changed a (with_nodes nodes)) c.in_ok-node.ensures.frames)))
