use Rattle.std.proofs.Common.{ap, arith, refl, sym, ◌∙◌}
use Rattle.tl_dom_spec.specs.Path as dom
use Rattle.tl_tree.proofs.Furthest.{frame-there}
use Rattle.tl_tree.proofs.path.FramePath.number_around.Goals as goal

pub index-requires : goal.index-requires
index-requires c =
    let within = c.in-Some.ensures.within in
    let own = c.args.self.now.frames.ok.0 in
    let least = c.requires in
    omega arith

pub returns-in-Some : goal.returns-in-Some
returns-in-Some c =
    let p = c.args.self.now in
    let within = c.in-Some.ensures.within in
    let least = c.requires in
    let there = frame-there p c.in-Some.place c.index.result.now c.index.ensures (omega arith) in
    sym (ap (λ (path : dom.Path). (dom.top path).number) c.in-Some.ensures.some ∙ ap (λ (f : dom.Frame). f.number) there)

pub returns-in-None : goal.returns-in-None
returns-in-None c =
    sym (ap (λ (path : dom.Path). (dom.top path).number) (c.in-None.ensures.none refl))
