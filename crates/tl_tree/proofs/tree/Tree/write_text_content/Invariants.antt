use Rattle.std.proofs.Common.{◌++◌, ◌≡◌}
use Rattle.std.specs.List.{concat}
use Rattle.tl_tree.specs.Below.{text_content}
use Rattle.tl_tree.specs.TreeView.{rows_in}
use Rattle.tl_tree.proofs.tree.Tree.write_text_content.Given as goal

abbrev pub invariant-loop-text : goal.invariant-loop-text
invariant-loop-text l =
    l.fn.out.items ++ text_content (rows_in l.self) l.number ≡ l.out.items ++ concat l.text-iterator
