-- Trees of pages.
use Rattle.std.specs.Prelude.{◌≡◌, ℕ, List}
use Rattle.tl_dom_spec.specs.HtmlTree.{html_tree, standard}
use Rattle.tl_tree.specs.Rows.{rows_of}
use Rattle.tl_tree.specs.Sources.{AreSourced, page_begin}
use Rattle.tl_tree.specs.TreeView.{rows_in}
use Rattle.tl_tree.specs.declared.tree.Tree.{Tree}

-- a tree is that of a page, read without scripts, and its nodes come from there in it
pub record IsOfPage (page : List ℕ) (tree : Tree) : Type 0 where
  pub rows : rows_in tree ≡ rows_of (html_tree page).trees
  pub quirks : tree.is_quirks ≡ (html_tree page).is_quirks
  pub sources : AreSourced page (page_begin standard page) tree
