use Rattle.std.proofs.Common.{◌≡◌, map}
use Rattle.tl_tree.specs.TreeView.{rows_in}
use Rattle.tl_tree_extract.specs.Links.{contents_end, link_said, links_before}
use Rattle.tl_tree_extract.proofs.page_links.links.Given as goal

abbrev pub invariant-loop-number : goal.invariant-loop-number
invariant-loop-number l = record {
  behind : l.behind ≡ contents_end (rows_in l.tree) l.number;
  links : map link_said l.links.items ≡ links_before (rows_in l.tree) l.number;
}
