use Rattle.std.proofs.Common.{List, ap, map, subst, ◌∙◌}
use Rattle.std.specs.Prelude.{IfErr, IfOk}
use Rattle.tl_answers.specs.Partly.{IsChangesRefusal}
use Rattle.tl_answers.specs.Rewritten.{sets_of}
use Rattle.tl_patch_select.specs.Nodes.{AreNodesPatched, ChangeOf, change_of}
use Rattle.tl_values.specs.NewValues.{got}
use Rattle.tl_values.specs.declared.new_value.NewValue.{NewValue}
use Rattle.tl_answers.proofs.partly.with_values.Goals as goal

pub returns-clause-done : goal.returns-clause-done
returns-clause-done c =
    subst (λ (changes : List ChangeOf). IfOk c.with_changes.result (λ p. AreNodesPatched changes c.args.tree.now c.args.page.now p.bytes.items p.places.items))
    (ap (map change_of) c.as_slice-2.ensures.value
    ∙ (c.in_ok-changes.ensures
    ∙ (ap (λ (vs : List NewValue). sets_of c.args.key.now (map got vs)) c.as_slice.ensures.value
    ∙ ap (sets_of c.args.key.now) c.in_ok-values.ensures)))
    c.with_changes.ensures.done

pub returns-clause-told : goal.returns-clause-told
returns-clause-told c =
    subst (λ (changes : List ChangeOf). IfErr c.with_changes.result (IsChangesRefusal changes c.args.tree.now c.args.page.now))
    (ap (map change_of) c.as_slice-2.ensures.value
    ∙ (c.in_ok-changes.ensures
    ∙ (ap (λ (vs : List NewValue). sets_of c.args.key.now (map got vs)) c.as_slice.ensures.value
    ∙ ap (sets_of c.args.key.now) c.in_ok-values.ensures)))
    c.with_changes.ensures.told
