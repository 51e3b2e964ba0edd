use Rattle.std.proofs.Common.{ap, sym, ◌∙◌}
use Rattle.std.proofs.lemmas.Bool.{false≢true}
use Rattle.tl_dom_spec.specs.Path as dom
use Rattle.tl_tree.proofs.Furthest.{frame-there}
use Rattle.tl_tree.proofs.path.FramePath.is_passed.Goals as goal

pub returns-then-has : goal.returns-then-has
returns-then-has c = λ _ stands.
    absurd (false≢true (sym stands ∙ (sym c.has.ensures ∙ c.if-has.true)))

pub returns : goal.returns
returns c = λ here stands.
    let p = c.args.self.now in
    let there = frame-there p c.args.place c.index.result.now c.index.ensures c.requires in
    ap (λ (f : dom.Frame). f.place) there ∙ c.is_here.ensures.yes here
