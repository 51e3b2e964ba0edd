use Rattle.std.proofs.Common.{◌≡◌, ◌∙◌, Err, ap, rules, subst, sym}
use Rattle.std.specs.Option.{option_map}
use Rattle.tl_page.specs.Outcome.{Gives}
use Rattle.tl_page.specs.declared.failure.Failure.TheVariants.{OutOfMemory}
use Rattle.tl_c.specs.Css.{css_in}
use Rattle.tl_c.specs.Queries.{rows_held, tree_held}
use Rattle.tl_c.specs.FoundValues.{value_parts, values_by}
use Rattle.tl_c.proofs.Selectors.{answer_by-unread}
use Rattle.tl_c.proofs.found_values.find_values.Goals as goal

pub returns-in_err-selector-clause-finds : goal.returns-in_err-selector-clause-finds
returns-in_err-selector-clause-finds c = λ ns found.
    let parsed = option_map (λ own. own.value) c.args.held.now in
    let failure = c.in_err-selector.field-0.0 in
    let is : c.from_residual.result ≡ Err failure = search rules in
    subst (Gives (λ values. values.items) (values_by (css_in c.args.selector.now) c.args.key.now parsed ns)) (sym is)
    (answer_by-unread (css_in c.args.selector.now) (tree_held parsed) (value_parts c.args.key.now (rows_held parsed) ns) failure c.in_err-selector.ensures.reads)

pub returns-in_err-selector-clause-told : goal.returns-in_err-selector-clause-told
returns-in_err-selector-clause-told c = λ other.
    let failure = c.in_err-selector.field-0.0 in
    let is : c.from_residual.result ≡ Err failure = search rules in
    c.in_err-selector.ensures.told (λ lost. let same : failure ≡ OutOfMemory = cc in other (is ∙ ap Err same))

pub returns-in_err-selector-clause-lost : goal.returns-in_err-selector-clause-lost
returns-in_err-selector-clause-lost c = λ lost.
    let failure = c.in_err-selector.field-0.0 in
    let is : c.from_residual.result ≡ Err failure = search rules in
    let same : failure ≡ OutOfMemory = cc in
    c.in_err-selector.ensures.lost (ap Err same)

pub returns-clause-finds : goal.returns-clause-finds
returns-clause-finds c =
    rw c.in_ok-selector.ensures.reads (λ ns found. c.select_values.ensures ns found)

pub returns-clause-told : goal.returns-clause-told
returns-clause-told c = λ _. c.in_ok-selector.ensures.told (λ lost. absurd (cc))

pub returns-clause-lost : goal.returns-clause-lost
returns-clause-lost c = λ _. c.in_ok-selector.ensures.right
