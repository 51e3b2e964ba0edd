use Rattle.std.proofs.Common.{ap, arith, sym, ◌≡◌, ◌∙◌}
use Rattle.tl_tree.proofs.Fostered.{fostered-all, fostered-none}
use Rattle.tl_tree.specs.Inner.Frames.{fostered}
use Rattle.tl_tree.proofs.path.FramePath.foster_place.Goals as goal

pub loop-index-init : goal.loop-index-init
loop-index-init c =
    let p = c.args.self.now in
    let own = p.frames.ok.0 in
    record { bound = omega arith; rest = fostered-all p c.len-index.result (omega arith) }

pub returns : goal.returns
returns c =
    let p = c.args.self.now in
    let done : c.loop-index.index ≡ 0 = omega arith in
    sym (c.loop-index.invariant.rest ∙ (ap (fostered p) done ∙ fostered-none p))
