use Rattle.std.proofs.Common.{length, ◌-◌, ◌≡◌}
use Rattle.tl_answers.specs.Document.{document_element, root_from}
use Rattle.tl_tree.specs.TreeView.{rows_in}
use Rattle.tl_answers.proofs.document.document_element.Given as goal

-- it is the first of the rows that are left
abbrev pub invariant-loop-number : goal.invariant-loop-number
invariant-loop-number l =
    document_element (rows_in l.tree)
    ≡ root_from (rows_in l.tree) (length (rows_in l.tree) - l.number) l.number
