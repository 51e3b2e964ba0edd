use Rattle.std.proofs.Common.{◌≡◌}
use Rattle.tl_tree.specs.TreeView.{rows_in}
use Rattle.tl_tree_extract.specs.Links.{contents_end}
use Rattle.tl_tree_extract.specs.Outline.{headings_before}
use Rattle.tl_tree_extract.proofs.outline.headings.Given as goal

abbrev pub invariant-loop-number : goal.invariant-loop-number
invariant-loop-number l = record {
  behind : l.behind ≡ contents_end (rows_in l.tree) l.number;
  headings : l.headings.items ≡ headings_before (rows_in l.tree) l.number;
}
