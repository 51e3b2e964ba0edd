use Rattle.std.proofs.Common.{List, None, ap, false, map, ◌++◌, ◌∙◌, ℕ}
use Rattle.tl_html_print.specs.Serialized.{serialized}
use Rattle.tl_tree.specs.Sources.{source_at}
use Rattle.tl_tree.specs.TreeView.{rows_in}
use Rattle.tl_tree_safe.specs.KeptFitted.{kept_fitted}
use Rattle.tl_tree_safe.specs.OfPolicy.{lists_of}
use Rattle.tl_tree_safe.specs.RemovalForms.{removals_written}
use Rattle.tl_tree_safe.specs.Removed.{Gone, gone_of, removed}
use Rattle.tl_tree_safe.specs.declared.removal.Removal.{Removal}
use Rattle.tl_tree_safe.proofs.fragment.print_telling.Goals as goal

pub returns-clause-print : goal.returns-clause-print
returns-clause-print g c = λ trees same.
    c.in_ok-sanitize_telling.ensures.print trees same
    ∙ ap (λ (x : List ℕ). x ++ serialized false None (kept_fitted (lists_of c.args.policy.now) trees)) c.new-page.ensures.items

pub returns-clause-told : goal.returns-clause-told
returns-clause-told g c = λ trees same.
    let tree = c.args.tree.now in
    let p = lists_of c.args.policy.now in
    c.in_ok-lines.ensures
    ∙ ap (removals_written (g.F.RemovalForm.written c.args.form.now) (source_at tree) (rows_in tree))
    (ap (λ (x : List Removal). map gone_of x) c.deref.ensures.value
    ∙ c.in_ok-sanitize_telling.ensures.removed trees same
    ∙ ap (λ (x : List Removal). map gone_of x ++ removed p trees) c.new-removals.ensures.items)
