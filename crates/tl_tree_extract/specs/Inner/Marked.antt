-- Bytes that are written as they are.
use Rattle.std.specs.Prelude.{Bool, List, false, get_or, nat_le, nat_lt, not, ℕ, ◌<◌, ◌==◌, ◌||◌, ◌≡◌, ◌≤◌}
use Rattle.tl_tree_extract.specs.Notation.{is_control, is_plain}
use Rattle.tl_tree_extract.specs.declared.written_bytes.Written.{Written}
use Rattle.tl_tree_extract.specs.declared.written_bytes.Written.TheVariants.{CssName, CssString, Json}

-- what is written as another byte, or several, and in JSON what is no ASCII
abbrev pub is_marked : Written → ℕ → Bool
is_marked Json b = nat_lt b 32 || nat_le 128 b || (b == 34) || (b == 92)
is_marked CssString b = is_control b || (b == 34) || (b == 92)
is_marked CssName b = not (is_plain b)

-- the bytes from a place up to another
abbrev pub AreUnmarked : Written → List ℕ → ℕ → ℕ → Type 0
AreUnmarked written text start end =
    (place : ℕ) → start ≤ place → place < end → is_marked written (get_or text place 0) ≡ false
