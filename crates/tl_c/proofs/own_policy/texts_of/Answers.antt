use Rattle.std.proofs.Common.{◌≡◌, ◌∙◌, None, Some, Err, ap, ap₂, rules, subst, sym}
use Rattle.std.specs.Option.{option_map}
use Rattle.tl_tree_safe.specs.ListOptions.{lists_or_default}
use Rattle.tl_page.specs.Outcome.{Gives, success}
use Rattle.tl_page.specs.declared.failure.Failure.TheVariants.{NotUnderstood}
use Rattle.tl_tree_safe.specs.OfPolicy.{lists_of}
use Rattle.tl_c.specs.LentLists.{lent_lists, lists_in_texts, lists_over, said_options}
use Rattle.tl_c.specs.Policies.{lists_of_number}
use Rattle.tl_c.proofs.Lent.{lent-texts, same-options, unread-tags, unread-keys, unread-link_keys, unread-link_prefixes, unread-classes, unread-id_prefix}
use Rattle.tl_c.proofs.own_policy.texts_of.Goals as goal

pub returns-in_err-tags-clause-gives : goal.returns-in_err-tags-clause-gives
returns-in_err-tags-clause-gives c =
    let none = unread-tags c.args.lists.now c.in_err-tags.ensures.reads in
    let failure = c.in_err-tags.field-0.0 in
    let is : c.from_residual.result ≡ Err failure = search rules in
    let why : failure ≡ NotUnderstood = c.in_err-tags.ensures.failure in
    subst (Gives lists_in_texts (lent_lists c.args.lists.now)) (sym (is ∙ ap Err why)) none

pub returns-in_err-keys-clause-gives : goal.returns-in_err-keys-clause-gives
returns-in_err-keys-clause-gives c =
    let none = unread-keys c.args.lists.now c.in_err-keys.ensures.reads in
    let failure = c.in_err-keys.field-0.0 in
    let is : c.from_residual-in_err-keys.result ≡ Err failure = search rules in
    let why : failure ≡ NotUnderstood = c.in_err-keys.ensures.failure in
    subst (Gives lists_in_texts (lent_lists c.args.lists.now)) (sym (is ∙ ap Err why)) none

pub returns-in_err-link_keys-clause-gives : goal.returns-in_err-link_keys-clause-gives
returns-in_err-link_keys-clause-gives c =
    let none = unread-link_keys c.args.lists.now c.in_err-link_keys.ensures.reads in
    let failure = c.in_err-link_keys.field-0.0 in
    let is : c.from_residual-in_err-link_keys.result ≡ Err failure = search rules in
    let why : failure ≡ NotUnderstood = c.in_err-link_keys.ensures.failure in
    subst (Gives lists_in_texts (lent_lists c.args.lists.now)) (sym (is ∙ ap Err why)) none

pub returns-in_err-link_prefixes-clause-gives : goal.returns-in_err-link_prefixes-clause-gives
returns-in_err-link_prefixes-clause-gives c =
    let none = unread-link_prefixes c.args.lists.now c.in_err-link_prefixes.ensures.reads in
    let failure = c.in_err-link_prefixes.field-0.0 in
    let is : c.from_residual-in_err-link_prefixes.result ≡ Err failure = search rules in
    let why : failure ≡ NotUnderstood = c.in_err-link_prefixes.ensures.failure in
    subst (Gives lists_in_texts (lent_lists c.args.lists.now)) (sym (is ∙ ap Err why)) none

pub returns-in_err-classes-clause-gives : goal.returns-in_err-classes-clause-gives
returns-in_err-classes-clause-gives c =
    let none = unread-classes c.args.lists.now c.in_err-classes.ensures.reads in
    let failure = c.in_err-classes.field-0.0 in
    let is : c.from_residual-in_err-classes.result ≡ Err failure = search rules in
    let why : failure ≡ NotUnderstood = c.in_err-classes.ensures.failure in
    subst (Gives lists_in_texts (lent_lists c.args.lists.now)) (sym (is ∙ ap Err why)) none

pub returns-in_err-id_prefix-clause-gives : goal.returns-in_err-id_prefix-clause-gives
returns-in_err-id_prefix-clause-gives c =
    let none = unread-id_prefix c.args.lists.now c.in_err-id_prefix.ensures.reads in
    let failure = c.in_err-id_prefix.field-0.0 in
    let is : c.from_residual-in_err-id_prefix.result ≡ Err failure = search rules in
    let why : failure ≡ NotUnderstood = c.in_err-id_prefix.ensures.failure in
    subst (Gives lists_in_texts (lent_lists c.args.lists.now)) (sym (is ∙ ap Err why)) none

pub returns-in-None-clause-gives : goal.returns-in-None-clause-gives
returns-in-None-clause-gives c =
    let none : lists_of_number c.args.lists.now.policy ≡ None = sym c.policy_of.ensures ∙ ap (option_map lists_of) c.in-None.is in
    lent-texts c.args.lists.now c.in_ok-tags.ensures.reads c.in_ok-keys.ensures.reads c.in_ok-link_keys.ensures.reads c.in_ok-link_prefixes.ensures.reads c.in_ok-classes.ensures.reads c.in_ok-id_prefix.ensures.reads
    ∙ ap (lists_over (said_options c.args.lists.now)) none

pub returns-in-Some-clause-gives : goal.returns-in-Some-clause-gives
returns-in-Some-clause-gives c =
    let said = said_options c.args.lists.now in
    let own = lists_of c.in-Some.policy in
    let some : lists_of_number c.args.lists.now.policy ≡ Some own = sym c.policy_of.ensures ∙ ap (option_map lists_of) c.in-Some.is in
    lent-texts c.args.lists.now c.in_ok-tags.ensures.reads c.in_ok-keys.ensures.reads c.in_ok-link_keys.ensures.reads c.in_ok-link_prefixes.ensures.reads c.in_ok-classes.ensures.reads c.in_ok-id_prefix.ensures.reads
    ∙ (ap (lists_over said) some
    ∙ ap success (ap₂ lists_or_default
    (sym (same-options c.args.lists.now _ _ _ _ _ _ c.in_ok-tags.ensures.text c.in_ok-keys.ensures.text c.in_ok-link_keys.ensures.text c.in_ok-link_prefixes.ensures.text c.in_ok-classes.ensures.text c.in_ok-id_prefix.ensures.text))
    (sym c.lists.ensures)))
