-- What a tree stands for: the rows of its page.
use Rattle.std.specs.Prelude.{List, map}
use Rattle.tl_tree.specs.Inner.RowView.{row_in}
use Rattle.tl_tree.specs.Inner.Store.{text_of}
use Rattle.tl_tree.specs.Rows.{Row}
use Rattle.tl_tree.specs.declared.tree.Tree.{Tree}

abbrev pub rows_in : Tree → List Row
rows_in t = map (row_in t.store (text_of t.store)) t.rows.items
