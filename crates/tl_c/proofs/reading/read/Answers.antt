use Rattle.std.proofs.Common.{◌≡◌, List, rules, subst, sym, ℕ}
use Rattle.tl_tree.specs.declared.tree.Tree.{Tree}
use Rattle.tl_tree.specs.Pages.{IsOfPage}
use Rattle.tl_c.proofs.Readings.{owned}
use Rattle.tl_c.proofs.reading.read.Goals as goal

pub returns-clause-tree : goal.returns-clause-tree
returns-clause-tree c =
    let page : List ℕ = c.args.page.now in
    let made : Tree = c.in_ok-tree.tree in
    let kept : c.in_ok-map_err.field-0.value.tree ≡ made = search rules in
    subst (λ (t : Tree). IsOfPage page t) (sym kept)
    (owned page c.in_ok-read.read made c.in_ok-read.ensures.tree c.in_ok-tree.ensures.rows c.in_ok-tree.ensures.quirks c.in_ok-tree.ensures.sources)
