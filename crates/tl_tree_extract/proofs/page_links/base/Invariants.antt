use Rattle.std.proofs.Common.{◌≡◌, ◌<◌, false, ℕ}
use Rattle.tl_tree.specs.TreeView.{rows_in}
use Rattle.tl_tree_extract.specs.Links.{contents_end, is_base_at}
use Rattle.tl_tree_extract.proofs.page_links.base.Given as goal

abbrev pub invariant-loop-number : goal.invariant-loop-number
invariant-loop-number l = record {
  behind : l.behind ≡ contents_end (rows_in l.tree) l.number;
  none : (m : ℕ) → m < l.number → is_base_at (rows_in l.tree) m ≡ false;
}
