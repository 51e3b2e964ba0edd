use Rattle.std.proofs.Common.{ap, refl, ◌++◌, ◌∙◌}
use Rattle.tl_dom_spec.specs.HtmlForest.{before, no_trees}
use Rattle.tl_tree.proofs.TreeRows.{tree-order, tree-rows, tree-within}
use Rattle.tl_tree.specs.Inner.Store.{nodes_of}
use Rattle.tl_tree.proofs.settle.tree_of.Goals as goal

pub invariant_of-result : goal.invariant_of-result
invariant_of-result c =
    let trees = before (nodes_of c.args.store c.args.row) no_trees in
    let made = c.in_ok-made.made in
    let side = c.in_ok-add_bytes.ensures.appends ∙ ap (λ v. made.store.side.items ++ v) c.as_slice.ensures.value in
    record {
      few = c.in_ok-made.ensures.rows.few;
      rows_within = tree-within c.add_bytes.new.self trees made c.in_ok-made.ensures.rows c.in_ok-add_bytes.ensures.grows side;
      in_order = tree-order trees made c.in_ok-made.ensures.rows;
    }

pub returns-clause-rows : goal.returns-clause-rows
returns-clause-rows c =
    let trees = before (nodes_of c.args.store c.args.row) no_trees in
    let made = c.in_ok-made.made in
    let side = c.in_ok-add_bytes.ensures.appends ∙ ap (λ v. made.store.side.items ++ v) c.as_slice.ensures.value in
    tree-rows c.add_bytes.new.self _ trees made c.in_ok-made.ensures.rows c.in_ok-add_bytes.ensures.grows side
    (record { page = refl; side = refl; attributes = refl; tags = refl; doctypes = refl })
