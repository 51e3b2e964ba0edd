use Rattle.std.proofs.Common.{ap, false, sym, ◌≡◌, ◌∙◌}
use Rattle.std.proofs.lemmas.Bool.{false≢true}
use Rattle.tl_dom_spec.specs.Path as dom
use Rattle.tl_tree.proofs.Furthest.{frame-there}
use Rattle.tl_tree.proofs.path.FramePath.is_own.Goals as goal

pub returns-then-has-clause-other : goal.returns-then-has-clause-other
returns-then-has-clause-other c = λ _ stands.
    absurd (false≢true (sym stands ∙ (sym c.has.ensures ∙ c.if-has.true)))

pub returns-then-index-number-clause-stands : goal.returns-then-index-number-clause-stands
returns-then-index-number-clause-stands c = λ _. sym c.has.ensures ∙ c.if-has.false

pub returns-then-index-number-clause-own : goal.returns-then-index-number-clause-own
returns-then-index-number-clause-own c = λ _.
    let p = c.args.self.now in
    let there = frame-there p c.args.place c.index.result.now c.index.ensures c.requires in
    ap (λ (f : dom.Frame). f.number) there ∙ c.if-index-number.true

pub returns-clause-other : goal.returns-clause-other
returns-clause-other c = λ _ stands e.
    let p = c.args.self.now in
    let there = frame-there p c.args.place c.index.result.now c.index.ensures c.requires in
    c.if-index-number.false (sym (ap (λ (f : dom.Frame). f.number) there) ∙ e)
