use Rattle.std.proofs.Common.{ap, arith, length, refl, sym, ◌&&◌, ◌-◌, ◌<◌, ◌∙◌}
use Rattle.tl_dom_spec.specs.Path as dom
use Rattle.tl_dom_spec.specs.Tags.{is_foster_target}
use Rattle.tl_tree.proofs.FrameParts as parts
use Rattle.tl_tree.proofs.Furthest.{frame-there}
use Rattle.tl_tree.proofs.path.FramePath.own_ancestor.Goals as goal

pub is_fostered-requires : goal.is_fostered-requires
is_fostered-requires c =
    let p = c.args.self.now in
    let n = c.args.place - 1 in
    let within = c.requires.within in
    let outside : n < length p.frames.items = omega arith in
    parts.frame-there p n c.index-around.result.now c.index-around.ensures outside

pub returns-then-around-clause-near : goal.returns-then-around-clause-near
returns-then-around-clause-near c =
    let p = c.args.self.now in
    let n = c.args.place - 1 in
    let within = c.requires.within in
    let outside : n < length p.frames.items = omega arith in
    let there = frame-there p c.args.place c.index-own.result.now c.index-own.ensures within in
    let outer = frame-there p n c.index-around.result.now c.index-around.ensures outside in
    record {
      fosters =
          ap (λ (f : dom.Frame). c.args.is_fostering && is_foster_target f.tag) outer
          ∙ (sym c.is_fostered.ensures ∙ c.if-is_fostered.false);
      number = refl;
      goes = ap (λ (f : dom.Frame). f.place) there ∙ c.is_here.ensures.yes c.if-not-is_here.false;
      around = ap (λ (f : dom.Frame). f.is_open) outer ∙ c.if-around.true;
    }
