use Rattle.std.proofs.Common.{List, subst, ℕ, ◌≡◌}
use Rattle.std.specs.Prelude.{IfOk}
use Rattle.tl_tree.specs.Sources.{source_at}
use Rattle.tl_tree.specs.TreeView.{rows_in}
use Rattle.tl_tree_safe.specs.OfPolicy.{lists_of}
use Rattle.tl_tree_safe.specs.Removed.{removed}
use Rattle.tl_tree_safe.specs.RemovedLines.{removed_lines}
use Rattle.tl_tree_safe.proofs.fragment.print_lines.Goals as goal

pub returns-clause-told : goal.returns-clause-told
returns-clause-told c = λ trees same.
    let tree = c.args.tree.now in
    let file : List ℕ = c.args.file.now in
    subst
    (λ (text : List ℕ). IfOk c.print_telling.result (λ told. told.lines.items ≡ removed_lines file text (source_at tree) (rows_in tree) (removed (lists_of c.args.policy.now) trees)))
    c.in_ok-index.ensures
    (c.print_telling.ensures.told trees same)
