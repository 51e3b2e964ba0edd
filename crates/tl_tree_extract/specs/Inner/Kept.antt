-- The words of cells that were taken before.
use Rattle.std.specs.BTreeMap.{get}
use Rattle.std.specs.Ordering.{nat_cmp}
use Rattle.std.specs.Prelude.{IfSome, List, [], ℕ, ◌≡◌}
use Rattle.tl_tree.specs.Rows.{Row}
use Rattle.tl_tree_extract.specs.Readable.{one_line, readable_below}
use Rattle.tl_tree_extract.specs.declared.cell_words.CellWords.{CellWords}

-- what is kept of a node are its words
abbrev pub AreKept : List Row → CellWords → Type 0
AreKept rows kept =
    (node : ℕ) → IfSome (get nat_cmp kept.known node)
    (λ words. words.items ≡ one_line (readable_below [] rows node))
