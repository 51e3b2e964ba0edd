-- What is known of the rows before one.
use Rattle.std.specs.Prelude.{Bool, List, [], suc, zero, ℕ, ◌++◌, ◌∷◌}
use Rattle.tl_answers.specs.LeftOut.{is_within}
use Rattle.tl_tree.specs.Rows.{Row}

-- whether each of them, or one that it is in, has a mark
abbrev pub withins_before : List Bool → List Row → ℕ → List Bool
withins_before marks rows zero = []
withins_before marks rows (suc n) =
    withins_before marks rows n ++ is_within marks rows n ∷ []
