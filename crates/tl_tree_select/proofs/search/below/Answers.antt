use Rattle.std.proofs.Common.{◌≡◌, [], List, Some, arith, rules, subst, sym, ℕ}
use Rattle.tl_tree.specs.Asked.{end_at}
use Rattle.tl_tree.specs.TreeView.{rows_in}
use Rattle.tl_tree_select.specs.Meaning.{AreFoundBelow}
use Rattle.tl_tree_select.specs.Page.{page_from}
use Rattle.tl_tree_select.proofs.Numbers.{all_below, none_below_row}
use Rattle.tl_tree_select.proofs.Trees.{ends_behind}
use Rattle.tl_tree_select.proofs.search.below.Goals as goal

pub found-requires : goal.found-requires
found-requires c =
    let at : end_at (rows_in c.args.tree.now) c.args.number ≡ Some c.in-Some.end = search rules in
    let behind = ends_behind c.args.tree.now c.args.number c.in-Some.end at in
    omega (arith, behind)

pub returns-in_default : goal.returns-in_default
returns-in_default c =
    let page = page_from c.args.tree.now c.args.number in
    let empty : c.new.result.items ≡ [] = search rules in
    subst (λ (ns : List ℕ). AreFoundBelow page c.args.selector.now c.args.number ns) (sym empty)
    (none_below_row page c.args.selector.now c.args.number (search rules))

pub returns : goal.returns
returns c =
    let at : end_at (rows_in c.args.tree.now) c.args.number ≡ Some c.in-Some.end = search rules in
    all_below (page_from c.args.tree.now c.args.number) c.args.selector.now c.args.number c.in-Some.end c.in_ok-numbers.numbers.items at
    (c.in_ok-numbers.ensures c.args.selector.now c.in_ok-finder.ensures)
