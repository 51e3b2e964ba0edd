use Rattle.std.proofs.Common.{◌≡◌, inl, ◌∙◌, Option, Some, Err, ap, rules, subst, sym}
use Rattle.std.specs.Option.{option_map}
use Rattle.tl_page.specs.Outcome.{Fails}
use Rattle.tl_page.specs.declared.failure.Failure.{Failure}
use Rattle.tl_page.specs.declared.failure.Failure.TheVariants.{Fault, NotUnderstood, OutOfMemory, Refused}
use Rattle.tl_patch_edit.specs.View.{patch_view}
use Rattle.tl_patch_spec.specs.Patches.{Patch}
use Rattle.tl_c.specs.Css.{css_in}
use Rattle.tl_c.specs.Edits.{IsEditedIf, patch_of_number}
use Rattle.tl_c.proofs.Selectors.{lost_text, none_refused, right_none, wrong_failure}
use Rattle.tl_c.proofs.element_edit.edit_elements.Goals as goal

pub returns-in_err-selector-clause-failure : goal.returns-in_err-selector-clause-failure
returns-in_err-selector-clause-failure c = λ is_fault.
    let failure = c.in_err-selector.field-0.0 in
    let is : c.from_residual.result ≡ Err failure = search rules in
    let same : failure ≡ Fault = cc in
    subst (λ (why : Failure). Fails (css_in c.args.selector.now) why) same c.in_err-selector.ensures.reads

pub returns-in-Ok-clause-edited : goal.returns-in-Ok-clause-edited
returns-in-Ok-clause-edited c =
    let css = c.in_ok-selector.selector in
    let places = c.in-Ok.edited.places.items in
    let bytes = c.in-Ok.edited.bytes.items in
    let patch = patch_view c.in-Some.patch in
    let some : patch_of_number c.args.number c.args.form c.args.content.now ≡ Some patch = sym c.patch_of.ensures ∙ ap (option_map patch_view) c.in-Some.is in
    subst (λ (asked : Option Patch). IsEditedIf c.args.selector.now asked c.args.page.now bytes) (sym some) (record {
      css = css;
      reads = c.in_ok-selector.ensures.reads;
      places = places;
      tree = c.in_ok-tree.tree;
      of_page = c.in_ok-tree.ensures.tree;
      edited = c.in-Ok.ensures.edited;
    })

pub returns-in_err-selector-clause-wrong : goal.returns-in_err-selector-clause-wrong
returns-in_err-selector-clause-wrong c = λ some other.
    let failure = c.in_err-selector.field-0.0 in
    let is : c.from_residual.result ≡ Err failure = search rules in
    let why = wrong_failure c.args.selector.now failure some c.in_err-selector.ensures.reads (λ lost. other (is ∙ ap Err lost)) in
    (is ∙ ap Err why, c.in_err-selector.ensures.told (λ lost. let same : failure ≡ OutOfMemory = cc in other (is ∙ ap Err same)))

pub returns-in_default-clause-wrong : goal.returns-in_default-clause-wrong
returns-in_default-clause-wrong c = λ some _. absurd (right_none c.args.selector.now c.in_ok-selector.selector c.in_ok-selector.ensures.reads some)

pub returns-in_err-tree-clause-wrong : goal.returns-in_err-tree-clause-wrong
returns-in_err-tree-clause-wrong c = λ some _. absurd (right_none c.args.selector.now c.in_ok-selector.selector c.in_ok-selector.ensures.reads some)

pub returns-in-Ok-clause-wrong : goal.returns-in-Ok-clause-wrong
returns-in-Ok-clause-wrong c = λ some _. absurd (right_none c.args.selector.now c.in_ok-selector.selector c.in_ok-selector.ensures.reads some)

pub returns-clause-wrong : goal.returns-clause-wrong
returns-clause-wrong c = λ some _. absurd (right_none c.args.selector.now c.in_ok-selector.selector c.in_ok-selector.ensures.reads some)

pub returns-in_err-selector-clause-refused : goal.returns-in_err-selector-clause-refused
returns-in_err-selector-clause-refused c = λ right is_refused.
    let failure = c.in_err-selector.field-0.0 in
    let is : c.from_residual.result ≡ Err failure = search rules in
    let same : failure ≡ Refused = cc in
    absurd (none_refused c.args.selector.now right (subst (λ (why : Failure). Fails (css_in c.args.selector.now) why) same c.in_err-selector.ensures.reads))

pub returns-clause-refused : goal.returns-clause-refused
returns-clause-refused c = λ _ is_refused.
    let css = c.in_ok-selector.selector in
    let patch = patch_view c.in-Some.patch in
    let error = c.in-Err.error in
    let some : patch_of_number c.args.number c.args.form c.args.content.now ≡ Some patch = sym c.patch_of.ensures ∙ ap (option_map patch_view) c.in-Some.is in
    let same : c.report.result ≡ Refused = cc in
    record {
      css = css;
      reads = c.in_ok-selector.ensures.reads;
      asked = patch;
      is = some;
      error = error;
      tree = c.in_ok-tree.tree;
      of_page = c.in_ok-tree.ensures.tree;
      refused = c.in-Err.ensures.refused;
      reason = c.report.ensures.refused same;
      stands = c.report.ensures.place;
      why = c.report.ensures.cause;
    }

pub returns-in_err-selector-clause-understood : goal.returns-in_err-selector-clause-understood
returns-in_err-selector-clause-understood c = λ lost.
    let failure = c.in_err-selector.field-0.0 in
    let is : c.from_residual.result ≡ Err failure = search rules in
    let same : failure ≡ NotUnderstood = cc in
    inl (lost_text c.args.selector.now (subst (λ (why : Failure). Fails (css_in c.args.selector.now) why) same c.in_err-selector.ensures.reads))

pub returns-clause-understood : goal.returns-clause-understood
returns-clause-understood c = λ lost.
    let same : c.report.result ≡ NotUnderstood = cc in
    absurd (c.report.ensures.understood same)
