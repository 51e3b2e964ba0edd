-- The titles of a page, line by line.
use Rattle.std.specs.Prelude.{List, [], codes, ℕ, ◌∷◌}
use Rattle.tl_tree.specs.Rows.{Row}
use Rattle.tl_tree_extract.specs.Fields.{records_written}
use Rattle.tl_tree_extract.specs.declared.column.Columns.TheVariants.{Tabs}
use Rattle.tl_tree_extract.specs.declared.fields.Field.TheVariants.{Text}

-- the selector of titles
abbrev pub title_selector : List ℕ
title_selector = codes "title, h1, h2, h3, h4, h5, h6"

-- the readable text of each of these elements on a line
abbrev pub title_lines : List Row → List ℕ → List ℕ
title_lines rows numbers = records_written Tabs rows (Text ∷ []) numbers
