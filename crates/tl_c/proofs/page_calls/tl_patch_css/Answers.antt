use Rattle.tl_c.specs.Patches.{IsPatchedIf, change_of_number}
use Rattle.tl_c.proofs.Given.{given-done, given-gives, given-success, outcome_given}
use Rattle.tl_c.proofs.page_calls.tl_patch_css.Goals as goal

pub returns-clause-patched : goal.returns-clause-patched
returns-clause-patched c =
    let given = c.patch-patched.result in
    let change = change_of_number c.args.edit c.args.key.now c.args.value.now in
    record {
      outcome = outcome_given (λ text. text.items) given;
      put = c.copy_result.ensures.put _ (given-gives (λ text. text.items) given c.patch-patched.ensures.failure);
      patched = given-success (λ text. text.items) given (IsPatchedIf c.args.selector.now change c.args.page.now) c.patch-patched.ensures.patched;
    }

pub returns-clause-done : goal.returns-clause-done
returns-clause-done c = λ is_done.
    let given = c.patch-patched.result in
    let put = c.copy_result.ensures.put _ (given-gives (λ text. text.items) given c.patch-patched.ensures.failure) in
    given-done (λ text. text.items) given _ _ _ _ put is_done _ c.patch-patched.ensures.done

pub returns-clause-wrong : goal.returns-clause-wrong
returns-clause-wrong c = λ some other.
    let told = c.patch-patched.ensures.wrong some (λ lost. other (c.copy_result.ensures.memory.1 lost)) in
    (c.copy_result.ensures.refused.1 told.0, told.1)

pub returns-clause-refused : goal.returns-clause-refused
returns-clause-refused c = λ right one. c.patch-patched.ensures.refused right (c.copy_result.ensures.refused.0 one)

pub returns-clause-understood : goal.returns-clause-understood
returns-clause-understood c = λ two. c.patch-patched.ensures.understood (c.copy_result.ensures.not_understood.0 two)
