use Rattle.std.proofs.Common.{List, ap, sym, ℕ, ◌++◌, ◌∙◌, ◌≡◌}
use Rattle.std.proofs.lemmas.Result.{IfOk-equal, IfOk-weaker}
use Rattle.tl_tree_extract.proofs.Singles.{single-part}
use Rattle.tl_tree_extract.specs.declared.text.flow.Flow.{Flow}
use Rattle.tl_tree_extract.proofs.text.flow.Flow.put_part.Goals as goal

pub returns-clause-text : goal.returns-clause-text
returns-clause-text c =
    let o : List ℕ = c.args.out.now.items in
    let same = single-part c.args.self c.args.part.now c.requires.within c.requires.begins (sym c.has_idle_space.ensures ∙ c.if-has_idle_space.false) in
    IfOk-equal c.put_run.result _ _ _ c.put_run.ensures.text (ap (λ x. o ++ x) (sym same.0))

pub returns-clause-flow : goal.returns-clause-flow
returns-clause-flow c =
    let same = single-part c.args.self c.args.part.now c.requires.within c.requires.begins (sym c.has_idle_space.ensures ∙ c.if-has_idle_space.false) in
    IfOk-weaker c.put_run.result _ _ (λ (flow : Flow) h. h ∙ sym same.1) c.put_run.ensures.flow
