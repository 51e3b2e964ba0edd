-- Bases that aren't too long.
use Rattle.std.proofs.Common.{List, None, Some, arith, length, ℕ, ◌<◌, ◌≡◌, ◌≤◌}
use Rattle.tl_values.specs.Absolute.{short_href}

pub short_by : (href : List ℕ) → length href ≤ 4096 → short_href href ≡ Some href
short_by href short = grind (arith, short)

pub long_by : (href : List ℕ) → 4096 < length href → short_href href ≡ None
long_by href long = grind (arith, long)
