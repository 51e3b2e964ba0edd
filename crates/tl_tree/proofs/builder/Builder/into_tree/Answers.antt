use Rattle.std.proofs.Common.{ap, ◌∙◌}
use Rattle.std.proofs.lemmas.Result.{IfOk-weaker}
use Rattle.tl_dom_spec.specs.HtmlForest.{before, no_trees}
use Rattle.tl_dom_spec.specs.Path.{Nodes}
use Rattle.tl_tree.specs.Inner.Builders.{builder_of}
use Rattle.tl_tree.specs.Inner.Store.{nodes_of}
use Rattle.tl_tree.specs.Rows.{rows_of}
use Rattle.tl_tree.specs.declared.store.Store.{Store}
use Rattle.tl_tree.proofs.builder.Builder.into_tree.Goals as goal

pub returns-clause-tree : goal.returns-clause-tree
unfolding builder_of
returns-clause-tree c =
    IfOk-weaker c.tree_of.result _ _
    (λ tree is. is
    ∙ (ap (λ (s : Store). rows_of (before (nodes_of s c.in_ok-row.row) no_trees)) c.into_store.ensures
    ∙ ap (λ (nodes : Nodes). rows_of (before nodes no_trees)) c.in_ok-row.ensures.stands))
    c.tree_of.ensures.rows

pub returns-clause-quirks : goal.returns-clause-quirks
unfolding builder_of
returns-clause-quirks c = c.tree_of.ensures.quirks
