use Rattle.std.proofs.Common.{◌≡◌, ◌∙◌, List, ap, sym, subst, ℕ, rules}
use Rattle.tl_page.specs.Outcome.{success}
use Rattle.tl_tree.specs.TreeView.{rows_in}
use Rattle.tl_tree.specs.declared.tree.Tree.{Tree}
use Rattle.tl_tree_select.proofs.Founds.{found_once}
use Rattle.tl_tree_select.specs.Meaning.{AreFound}
use Rattle.tl_tree_select.specs.Page.{page_of}
use Rattle.tl_c.specs.FoundValues.{value_parts}
use Rattle.tl_c.proofs.found_values.select_values.Goals as goal

pub returns : goal.returns
returns c =
    let tree : Tree = c.in-Some.own.value.tree in
    let e = c.args.selector.now in
    let key : List ℕ = c.args.key.now in
    let ns : List ℕ = c.in_ok-nodes.nodes.items in
    let found : AreFound (page_of tree) e ns = search rules in
    let written : c.in_ok-values_of.field-0.items ≡ value_parts key (rows_in tree) ns = search rules in
    rw c.in-Some.is (λ ms are.
    ap success (ap (value_parts key (rows_in tree)) (found_once (page_of tree) e ms ns are found) ∙ sym written))
