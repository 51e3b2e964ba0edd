use Rattle.tl_c.specs.Edits.{IsEditedIf, patch_of_number}
use Rattle.tl_c.proofs.Given.{given-done, given-gives, given-success, outcome_given}
use Rattle.tl_c.proofs.page_calls.tl_edit_css.Goals as goal

pub returns-clause-edited : goal.returns-clause-edited
returns-clause-edited c =
    let given = c.edit_elements-edited.result in
    let patch = patch_of_number c.args.edit c.args.form c.args.content.now in
    record {
      outcome = outcome_given (λ text. text.items) given;
      put = c.copy_result.ensures.put _ (given-gives (λ text. text.items) given c.edit_elements-edited.ensures.failure);
      edited = given-success (λ text. text.items) given (IsEditedIf c.args.selector.now patch c.args.page.now) c.edit_elements-edited.ensures.edited;
    }

pub returns-clause-done : goal.returns-clause-done
returns-clause-done c = λ is_done.
    let given = c.edit_elements-edited.result in
    let put = c.copy_result.ensures.put _ (given-gives (λ text. text.items) given c.edit_elements-edited.ensures.failure) in
    given-done (λ text. text.items) given _ _ _ _ put is_done _ c.edit_elements-edited.ensures.done

pub returns-clause-wrong : goal.returns-clause-wrong
returns-clause-wrong c = λ some other.
    let told = c.edit_elements-edited.ensures.wrong some (λ lost. other (c.copy_result.ensures.memory.1 lost)) in
    (c.copy_result.ensures.refused.1 told.0, told.1)

pub returns-clause-refused : goal.returns-clause-refused
returns-clause-refused c = λ right one. c.edit_elements-edited.ensures.refused right (c.copy_result.ensures.refused.0 one)

pub returns-clause-understood : goal.returns-clause-understood
returns-clause-understood c = λ two. c.edit_elements-edited.ensures.understood (c.copy_result.ensures.not_understood.0 two)
