use Rattle.std.proofs.Common.{subst, ℕ}
use Rattle.tl_tree_select.specs.Inner.Finding.{AreBelow, IsFoundFrom}
use Rattle.tl_tree_select.specs.Page.{page_of}
use Rattle.tl_tree_select.proofs.Numbers.{all_found}
use Rattle.tl_tree_select.proofs.search.select.Goals as goal

pub returns : goal.returns
returns c =
    let page = page_of c.args.tree.now in
    all_found page c.args.selector.now c.in_ok-numbers.numbers.items
    (subst (λ (end : ℕ). AreBelow (IsFoundFrom page c.args.selector.now 0) end c.in_ok-numbers.numbers.items) c.len.ensures
    (c.in_ok-numbers.ensures c.args.selector.now c.in_ok-finder.ensures))
