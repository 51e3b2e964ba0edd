use Rattle.std.proofs.Common.{List, ap, arith, drop, map, sym, take, ◌+◌, ◌++◌, ◌∙◌}
use Rattle.tl_dom_spec.specs.Path as dom
use Rattle.tl_tree.proofs.Readopted.{renewed-all}
use Rattle.tl_tree.proofs.Written.{frame-at, frames-length}
use Rattle.tl_tree.specs.Inner.Adopted.{emptied, moved}
use Rattle.tl_tree.specs.Inner.Frames.{changed, frame_of, frames_of}
use Rattle.tl_tree.specs.Inner.Store.{tag_at}
use Rattle.tl_tree.proofs.path.FramePath.renew.Goals as goal

pub returns-clause-frames : goal.returns-clause-frames
returns-clause-frames c =
    let p = c.args.self.now in
    let i = c.args.index in
    let f = c.index-block.result.now in
    let b = frame_of p.store f in
    let many = frames-length p in
    let change = moved f.number p.next in
    let done : List dom.Frame → List dom.Frame = λ fs. take (i + 2) fs ++ map change (drop (i + 2) fs) in
    c.move_places.ensures.frames
    ∙ (ap done (c.empty.ensures.frames ∙ ap (changed i emptied) c.in_ok-insert_frame.ensures.frames)
    ∙ renewed-all (frames_of p) i (i + 1) (i + 2) p.next (tag_at p.store c.args.tag) b (omega (arith, c.requires.index)) (omega arith) (omega arith) (sym (frame-at p i f c.index-block.ensures)))
