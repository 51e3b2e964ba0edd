use Rattle.std.proofs.Common.{ap, rules, sym, ◌∙◌, ◌∷◌}
use Rattle.tl_tree.proofs.Walked.{ancestors-step}
use Rattle.tl_tree.specs.Asked.{ancestors_up_from}
use Rattle.tl_tree.specs.TreeView.{rows_in}
use Rattle.tl_tree.proofs.walks.AncestorsIterator.next.Goals as goal

pub returns-clause-steps : goal.returns-clause-steps
returns-clause-steps c =
    let seen = c.self.inside in
    let t = seen.tree.now in
    sym c.self.view_is ∙ (ancestors-step t c.in_ok-number.number seen.next c.in_ok-number.was
    ∙ ap (λ o. c.in_ok-number.number ∷ ancestors_up_from (rows_in t) o) (sym c.parent-self-inside.ensures))

pub returns-clause-goes : goal.returns-clause-goes
returns-clause-goes c =
    let steps = returns-clause-steps c in
    search (rules, steps)
