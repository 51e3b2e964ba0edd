use Rattle.std.proofs.Common.{◌≡◌, List, rules, subst, ℕ}
use Rattle.std.specs.Prelude.{IfOk}
use Rattle.tl_tree.specs.Pages.{IsOfPage}
use Rattle.tl_c.proofs.reading.tree_of.Goals as goal

pub returns-clause-tree : goal.returns-clause-tree
returns-clause-tree c =
    let same : c.as_bytes.result.now ≡ c.args.page.now = search rules in
    subst (λ (page : List ℕ). IfOk c.tree_of_text.result (IsOfPage page)) same c.tree_of_text.ensures.tree
