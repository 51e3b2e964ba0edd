-- What selectors are asked of.
use Rattle.std.specs.Prelude.{Bool, List, None, Option, Some, ℕ}
use Rattle.tl_tree.specs.Rows.{Row}
use Rattle.tl_tree.specs.TreeView.{rows_in}
use Rattle.tl_tree.specs.declared.tree.Tree.{Tree}
use Rattle.tl_tree_select.specs.declared.page.Searched as code

-- the rows of a page, whether its document is in quirks mode, and the row that it is searched from:
-- none where that is the root of the document
pub record Page : Type 0 where
  pub rows : List Row
  pub is_quirks : Bool
  pub scope : Option ℕ

-- a document that is searched from its root
abbrev pub page_of : Tree → Page
page_of t = record { rows = rows_in t; is_quirks = t.is_quirks; scope = None }

-- a document that is searched from a node
abbrev pub page_from : Tree → ℕ → Page
page_from t number = record { rows = rows_in t; is_quirks = t.is_quirks; scope = Some number }

abbrev pub seen : code.Searched → Page
seen p = record { rows = rows_in p.tree.now; is_quirks = p.tree.now.is_quirks; scope = p.scope }
