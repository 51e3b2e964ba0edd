use Rattle.std.proofs.Common.{◌-◌, ap, arith, sym}
use Rattle.tl_dom_spec.specs.Path as dom
use Rattle.tl_tree.proofs.Popped.{path-top}
use Rattle.tl_tree.proofs.Written.{all-at}
use Rattle.tl_tree.specs.Inner.Frames.{is_frame}
use Rattle.tl_tree.proofs.path.FramePath.top.Goals as goal

pub returns-clause-stands : goal.returns-clause-stands
returns-clause-stands c =
    let p = c.args.self.now in
    let own = p.frames.ok.0 in
    let some = p.some in
    sym (ap dom.top (path-top p (c.len.result - 1) c.index.result.now (omega arith) c.index.ensures))

pub returns-clause-within : goal.returns-clause-within
returns-clause-within c =
    let p = c.args.self.now in
    let own = p.frames.ok.0 in
    let some = p.some in
    all-at (is_frame p) p.frames.items (c.len.result - 1) c.index.result.now c.index.result.now c.index.ensures (omega arith) p.within
