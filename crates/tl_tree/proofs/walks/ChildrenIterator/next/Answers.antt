use Rattle.std.proofs.Common.{ap, rules, sym, ◌∙◌, ◌∷◌}
use Rattle.std.specs.Option.{unwrap_or}
use Rattle.tl_tree.proofs.Walked.{siblings-step}
use Rattle.tl_tree.specs.Asked.{siblings_up_to}
use Rattle.tl_tree.specs.TreeView.{rows_in}
use Rattle.tl_tree.proofs.walks.ChildrenIterator.next.Goals as goal

pub returns-clause-steps : goal.returns-clause-steps
returns-clause-steps c =
    let seen = c.self.inside in
    let t = seen.tree.now in
    sym c.self.view_is ∙ (siblings-step t seen.next seen.end c.if-self.false
    ∙ ap (λ n. seen.next ∷ siblings_up_to (rows_in t) n seen.end) (sym (c.unwrap_or-self-inside.ensures ∙ ap (λ o. unwrap_or o seen.end) c.end.ensures)))

pub returns-clause-goes : goal.returns-clause-goes
returns-clause-goes c =
    let steps = returns-clause-steps c in
    search (rules, steps)
