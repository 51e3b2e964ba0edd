use Rattle.std.proofs.Common.{subst}
use Rattle.std.specs.Prelude.{IfOk, List, ℕ}
use Rattle.tl_c.specs.NodeChanges.{AreHeldMade, AreHeldRefused}
use Rattle.tl_c.proofs.Given.{given-done, given-gives, given-success, outcome_given}
use Rattle.tl_c.proofs.change_calls.tl_patch_nodes.Goals as goal

pub returns-clause-made : goal.returns-clause-made
returns-clause-made c =
    let given = c.patch_held-patched.result in
    record {
      outcome = outcome_given (λ text. text.items) given;
      put = c.copy_result.ensures.put _ (given-gives (λ text. text.items) given c.patch_held-patched.ensures.failure);
      made = given-success (λ text. text.items) given (AreHeldMade c.args.changes.now c.args.document.now.held c.args.page.now)
          (subst (λ held. IfOk given (λ text. AreHeldMade c.args.changes.now held c.args.page.now text.items)) c.replace-held.ensures.replaced c.patch_held-patched.ensures.made);
    }

pub returns-clause-done : goal.returns-clause-done
returns-clause-done c = λ is_done.
    let given = c.patch_held-patched.result in
    let put = c.copy_result.ensures.put _ (given-gives (λ text. text.items) given c.patch_held-patched.ensures.failure) in
    given-done (λ text. text.items) given _ _ _ _ put is_done _ c.patch_held-patched.ensures.done

pub returns-clause-refused : goal.returns-clause-refused
returns-clause-refused c = λ one.
    subst (λ held. AreHeldRefused c.args.changes.now held c.args.page.now c.patch_held-patched.new.place c.patch_held-patched.new.cause) c.replace-held.ensures.replaced
    (c.patch_held-patched.ensures.refused (c.copy_result.ensures.refused.0 one))

pub returns-clause-understood : goal.returns-clause-understood
returns-clause-understood c = λ two. c.patch_held-patched.ensures.understood (c.copy_result.ensures.not_understood.0 two)
