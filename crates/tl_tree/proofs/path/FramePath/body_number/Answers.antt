use Rattle.std.proofs.Common.{Some, ap, codes, false, get_or, refl, sym, true, ◌+◌, ◌∙◌}
use Rattle.tl_dom_spec.specs.Body.{body_number}
use Rattle.tl_dom_spec.specs.Path as dom
use Rattle.tl_dom_spec.specs.Tags.{is_any}
use Rattle.tl_tree.proofs.Stacked.{frame-there, none-open, one-open, second-open}
use Rattle.tl_tree.specs.Inner.Frames.{frames_of}
use Rattle.tl_tree.proofs.path.FramePath.body_number.Goals as goal

pub returns-in_err-first : goal.returns-in_err-first
returns-in_err-first c =
    c.from_residual.ensures
    ∙ sym (ap body_number (none-open c.args.self.now (c.in_err-first.ensures.none refl)))

pub returns-in_err-second : goal.returns-in_err-second
returns-in_err-second c =
    let p = c.args.self.now in
    c.from_residual-in_err-second.ensures
    ∙ sym (ap body_number (one-open p (get_or (frames_of p) c.in_ok-first.first dom.document) (c.in_ok-first.first + 1) c.in_ok-first.ensures.some (c.in_err-second.ensures.none refl)))

pub returns-then-passes : goal.returns-then-passes
returns-then-passes c =
    let p = c.args.self.now in
    let first = get_or (frames_of p) c.in_ok-first.first dom.document in
    let second = get_or (frames_of p) c.in_ok-second.second dom.document in
    let is = frame-there p c.in_ok-second.second c.index-frame.result.now c.index-frame.ensures c.in_ok-second.ensures.within in
    let test = ap (λ (f : dom.Frame). is_any (codes "body") f.tag) is ∙ (sym c.passes.ensures ∙ c.if-passes.true) in
    ap Some (sym (ap (λ (f : dom.Frame). f.number) is))
    ∙ sym (second-open p first second (c.in_ok-first.first + 1) (c.in_ok-second.second + 1) c.in_ok-first.ensures.some c.in_ok-second.ensures.some true test)

pub returns-else-passes : goal.returns-else-passes
returns-else-passes c =
    let p = c.args.self.now in
    let first = get_or (frames_of p) c.in_ok-first.first dom.document in
    let second = get_or (frames_of p) c.in_ok-second.second dom.document in
    let is = frame-there p c.in_ok-second.second c.index-frame.result.now c.index-frame.ensures c.in_ok-second.ensures.within in
    let test = ap (λ (f : dom.Frame). is_any (codes "body") f.tag) is ∙ (sym c.passes.ensures ∙ c.if-passes.false) in
    sym (second-open p first second (c.in_ok-first.first + 1) (c.in_ok-second.second + 1) c.in_ok-first.ensures.some c.in_ok-second.ensures.some false test)
