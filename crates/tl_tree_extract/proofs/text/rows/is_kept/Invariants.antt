use Rattle.std.proofs.Common.{◌≡◌}
use Rattle.std.specs.List.{list_any}
use Rattle.tl_tree.specs.TreeView.{rows_in}
use Rattle.tl_tree_extract.specs.Boxes.{box_at, keeps_lines}
use Rattle.tl_tree_extract.specs.Readable.{is_kept_at}
use Rattle.tl_tree_extract.proofs.text.rows.is_kept.Given as goal

abbrev pub invariant-loop-outer : goal.invariant-loop-outer
invariant-loop-outer l =
    is_kept_at (rows_in l.tree) l.number ≡ list_any (λ outer. keeps_lines (box_at (rows_in l.tree) outer)) l.outer-iterator
