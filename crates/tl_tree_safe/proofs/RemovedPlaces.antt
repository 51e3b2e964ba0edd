-- Where what goes of a text stands.
use Rattle.std.proofs.Common.{List, ap, ℕ, ◌∙◌, ◌≡◌}
use Rattle.tl_dom_spec.specs.HtmlTree.{context_of, html_fragment, standard}
use Rattle.tl_tree.specs.Asked.{node_at}
use Rattle.tl_tree.specs.Rows.{Row, rows_of}
use Rattle.tl_tree.specs.Sources.{AreSourced, fragment_begin, source_at}
use Rattle.tl_tree.specs.TreeView.{rows_in}
use Rattle.tl_tree.specs.declared.tree.Tree.{Tree}
use Rattle.tl_tree_safe.specs.InDiv.{div}
use Rattle.tl_tree_safe.specs.Lists.{ListedWords}
use Rattle.tl_tree_safe.specs.Removed.{removed}
use Rattle.tl_tree_safe.specs.RemovedLines.{AreSources, TellRemoved, removed_lines}

module _ (text : List ℕ) (tree : Tree) (rows : rows_in tree ≡ rows_of (html_fragment div text)) (sourced : AreSourced text (fragment_begin standard (context_of div)) tree) where
  pub are_sources : AreSources text (source_at tree)
  are_sources = record {
    last = sourced.last;
    read = sourced.read;
    whole = sourced.whole;
    each = λ row node there. sourced.each row node (ap (λ (R : List Row). node_at R row) rows ∙ there);
  }

  pub tell : (p : ListedWords) (file told : List ℕ) → told ≡ removed_lines file text (source_at tree) (rows_in tree) (removed p (html_fragment div text)) → TellRemoved p file text told
  tell p file told is = record {
    sources = source_at tree;
    are_sources = are_sources;
    lines = is ∙ ap (λ (R : List Row). removed_lines file text (source_at tree) R (removed p (html_fragment div text))) rows;
  }
