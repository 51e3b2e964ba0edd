-- Values in columns.
use Rattle.std.proofs.Common.{List, [], arith, false, refl, ℕ, ◌∷◌, ◌≡◌}
use Rattle.std.specs.List.{list_any}
use Rattle.std.specs.Prelude.{flat_map}
use Rattle.tl_tree_extract.specs.Fields.{is_escaped, tab_byte}

-- a value of which no byte is written otherwise
pub as_it_is : (bytes : List ℕ) → list_any is_escaped bytes ≡ false → flat_map tab_byte bytes ≡ bytes
as_it_is [] e = refl
as_it_is (b ∷ bytes) e = grind (arith, as_it_is bytes)
