use Rattle.std.proofs.Common.{◌≡◌, ◌∙◌, None, Some, ap, sym}
use Rattle.std.specs.Prelude.{is_none}
use Rattle.tl_tree_safe.specs.ListOptions.{lists_in}
use Rattle.tl_tree_safe.specs.Refusals.{first_refusal, refusal_of}
use Rattle.tl_c.specs.LentLists.{number_of_refusal}
use Rattle.tl_c.proofs.own_policy.lawful_policy.Goals as goal

pub returns-in-Ok-clause-lists : goal.returns-in-Ok-clause-lists
returns-in-Ok-clause-lists c = c.in-Ok.ensures.lists ∙ c.lists.ensures

pub returns-in-Ok-clause-lawful : goal.returns-in-Ok-clause-lawful
returns-in-Ok-clause-lawful c =
    let none : first_refusal (lists_in c.args.words.now) ≡ None = ap first_refusal (sym c.lists.ensures) ∙ sym c.in-Ok.ensures.refusal in
    ap is_none none

pub returns-in-Ok-clause-told : goal.returns-in-Ok-clause-told
returns-in-Ok-clause-told c =
    let none : first_refusal (lists_in c.args.words.now) ≡ None = ap first_refusal (sym c.lists.ensures) ∙ sym c.in-Ok.ensures.refusal in
    sym (ap number_of_refusal none)

pub returns-in-Err-clause-lawful : goal.returns-in-Err-clause-lawful
returns-in-Err-clause-lawful c =
    let some : first_refusal (lists_in c.args.words.now) ≡ Some (refusal_of c.in-Err.error) = ap first_refusal (sym c.lists.ensures) ∙ sym c.in-Err.ensures.refusal in
    ap is_none some

pub returns-in-Err-clause-told : goal.returns-in-Err-clause-told
returns-in-Err-clause-told c =
    let some : first_refusal (lists_in c.args.words.now) ≡ Some (refusal_of c.in-Err.error) = ap first_refusal (sym c.lists.ensures) ∙ sym c.in-Err.ensures.refusal in
    c.number_of_reason.ensures ∙ sym (ap number_of_refusal some)
