use Rattle.std.proofs.Common.{subst}
use Rattle.std.specs.Prelude.{IfOk, List, ℕ}
use Rattle.tl_c.specs.NodeEdits.{AreHeldDone, AreHeldNotDone}
use Rattle.tl_c.proofs.Given.{given-done, given-gives, given-success, outcome_given}
use Rattle.tl_c.proofs.change_calls.tl_edit_nodes.Goals as goal

pub returns-clause-made : goal.returns-clause-made
returns-clause-made c =
    let given = c.edit_held-edited.result in
    record {
      outcome = outcome_given (λ text. text.items) given;
      put = c.copy_result.ensures.put _ (given-gives (λ text. text.items) given c.edit_held-edited.ensures.failure);
      made = given-success (λ text. text.items) given (AreHeldDone c.args.edits.now c.args.document.now.held c.args.page.now)
          (subst (λ held. IfOk given (λ text. AreHeldDone c.args.edits.now held c.args.page.now text.items)) c.replace-held.ensures.replaced c.edit_held-edited.ensures.made);
    }

pub returns-clause-done : goal.returns-clause-done
returns-clause-done c = λ is_done.
    let given = c.edit_held-edited.result in
    let put = c.copy_result.ensures.put _ (given-gives (λ text. text.items) given c.edit_held-edited.ensures.failure) in
    given-done (λ text. text.items) given _ _ _ _ put is_done _ c.edit_held-edited.ensures.done

pub returns-clause-refused : goal.returns-clause-refused
returns-clause-refused c = λ one.
    subst (λ held. AreHeldNotDone c.args.edits.now held c.args.page.now c.edit_held-edited.new.place c.edit_held-edited.new.cause) c.replace-held.ensures.replaced
    (c.edit_held-edited.ensures.refused (c.copy_result.ensures.refused.0 one))

pub returns-clause-understood : goal.returns-clause-understood
returns-clause-understood c = λ two. c.edit_held-edited.ensures.understood (c.copy_result.ensures.not_understood.0 two)
