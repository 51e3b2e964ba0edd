use Rattle.std.proofs.Common.{drop, map, ◌≡◌}
use Rattle.std.specs.Char.{to_ascii_lowercase}
use Rattle.std.specs.Str.{bytes_eq}
use Rattle.tl_tree.proofs.lowered.is_lowered.Given as goal

abbrev pub invariant-loop-at : goal.invariant-loop-at
invariant-loop-at l =
    bytes_eq (map to_ascii_lowercase l.bytes) l.lower ≡ bytes_eq (map to_ascii_lowercase (drop l.at l.bytes)) (drop l.at l.lower)
