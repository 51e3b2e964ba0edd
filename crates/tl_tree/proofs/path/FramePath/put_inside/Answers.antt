use Rattle.std.proofs.Common.{List, ap, arith, get_or, refl, sym, ◌∙◌, ◌≡◌}
use Rattle.tl_dom_spec.specs.Path.{joined}
use Rattle.tl_tree.proofs.Entering.{same-there}
use Rattle.tl_tree.proofs.Grown.{grows_refl}
use Rattle.tl_tree.proofs.Written.{all-at, put-inside, ready-folded}
use Rattle.tl_tree.specs.Inner.Frames.{is_frame}
use Rattle.tl_tree.specs.Inner.Store.{node_of, nodes_of}
use Rattle.tl_tree.specs.declared.frame.Frame.{Frame}
use Rattle.tl_tree.proofs.FrameParts.{frame-there, grows-on, row-of-children}
use Rattle.tl_tree.proofs.path.FramePath.put_inside.Goals as goal

pub returns-clause-ok : goal.returns-clause-ok
returns-clause-ok c =
    let p = c.args.self.now in
    let i = c.args.index in
    let f = c.index-frame.result.now in
    let before = c.index-before.result.now in
    let late : before.late ≡ 0 = omega arith in
    let nodes = node_of p.store c.args.node in
    let is = c.index-frame.ensures ∙ ap (λ (xs : List Frame). get_or xs i f) c.add.ensures.frames in
    let same = same-there p.frames.items i before f c.index-before.ensures c.requires.index ∙ sym is in
    put-inside p p c.add.new.self c.write.new.self i f f c.in_ok-children.children c.args.node (grows_refl p.store) c.add.ensures.grows c.add.ensures.frames c.write.ensures.store c.write.ensures.frames is c.requires.index c.requires.node
    (all-at (is_frame p) p.frames.items i f f is c.requires.index p.within) refl
    (ready-folded p.store f nodes (ap (λ (it : Frame). it.late) (sym same) ∙ late))
    (c.in_ok-children.ensures.stands ∙ ap (λ (it : Frame). joined (nodes_of p.store it.children) nodes) same)

pub add-requires-clause-before : goal.add-requires-clause-before
add-requires-clause-before c =
    let p = c.args.self.now in
    let f = c.index-before.result.now in
    row-of-children p.store f (frame-there p c.args.index f c.index-before.ensures c.requires.index)

pub add-requires-clause-node : goal.add-requires-clause-node
add-requires-clause-node c = c.requires.node

pub returns-clause-next : goal.returns-clause-next
returns-clause-next c = c.write.ensures.next ∙ c.add.ensures.next

pub returns-clause-grows : goal.returns-clause-grows
returns-clause-grows c =
    grows-on c.args.self.now.store c.add.new.self.store c.write.new.self.store c.add.ensures.grows c.write.ensures.store
