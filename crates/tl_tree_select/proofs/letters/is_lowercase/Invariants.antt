use Rattle.std.proofs.Common.{◌≡◌, ◌<◌, ℕ, get_or}
use Rattle.std.specs.Char.{to_ascii_lowercase}
use Rattle.tl_tree_select.proofs.letters.is_lowercase.Given as goal

abbrev pub invariant-loop-place : goal.invariant-loop-place
invariant-loop-place l = (k : ℕ) → k < l.place → to_ascii_lowercase (get_or l.bytes k 0) ≡ get_or l.lower k 0
