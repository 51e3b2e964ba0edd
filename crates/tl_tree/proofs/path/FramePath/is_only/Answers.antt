use Rattle.std.proofs.Common.{ap, get_or, refl, sym, ◌+◌}
use Rattle.tl_dom_spec.specs.Builder.{is_only}
use Rattle.tl_dom_spec.specs.Path as dom
use Rattle.tl_tree.proofs.Stacked.{none-open, one-open, several-open}
use Rattle.tl_tree.specs.Inner.Frames.{frames_of}
use Rattle.tl_tree.proofs.path.FramePath.is_only.Goals as goal

pub returns-in_default : goal.returns-in_default
returns-in_default c =
    sym (ap is_only (none-open c.args.self.now (c.in_default.ensures.none refl)))

pub returns-in-None : goal.returns-in-None
returns-in-None c =
    let p = c.args.self.now in
    sym (ap is_only (one-open p (get_or (frames_of p) c.in-Some.first dom.document) (c.in-Some.first + 1) c.in-Some.ensures.some (c.in-None.ensures.none refl)))

pub returns-in-Some-next_open : goal.returns-in-Some-next_open
returns-in-Some-next_open c =
    let p = c.args.self.now in
    let second = c.in-Some-next_open.field-0 in
    sym (several-open p (get_or (frames_of p) c.in-Some.first dom.document) (get_or (frames_of p) second dom.document) (c.in-Some.first + 1) (second + 1) c.in-Some.ensures.some c.in-Some-next_open.ensures.some)
