-- The depths of the rows before one.
use Rattle.std.specs.Prelude.{List, [], suc, zero, ℕ, ◌++◌, ◌∷◌}
use Rattle.tl_tree.specs.Rows.{Row}
use Rattle.tl_tree_extract.specs.NodeOutline.{depth_at}

abbrev pub depths_before : List Row → ℕ → List ℕ
depths_before rows zero = []
depths_before rows (suc n) = depths_before rows n ++ depth_at rows n ∷ []
