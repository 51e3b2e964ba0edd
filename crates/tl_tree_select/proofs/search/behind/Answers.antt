use Rattle.std.proofs.Common.{◌≡◌, Some, rules}
use Rattle.tl_tree.specs.Asked.{end_at}
use Rattle.tl_tree.specs.TreeView.{rows_in}
use Rattle.tl_tree_select.specs.Meaning.{outer_end_at}
use Rattle.tl_tree_select.specs.Page.{page_from}
use Rattle.tl_tree_select.proofs.Numbers.{all_behind}
use Rattle.tl_tree_select.proofs.search.behind.Goals as goal

pub returns : goal.returns
returns c =
    let at : end_at (rows_in c.args.tree.now) c.args.number ≡ Some c.in-Some-Some.start = search rules in
    let outer : outer_end_at (rows_in c.args.tree.now) c.args.number ≡ Some c.in-Some-Some.end = search rules in
    all_behind (page_from c.args.tree.now c.args.number) c.args.selector.now c.args.number c.in-Some-Some.start c.in-Some-Some.end c.in_ok-numbers.numbers.items at outer
    (c.in_ok-numbers.ensures c.args.selector.now c.in_ok-finder.ensures)
