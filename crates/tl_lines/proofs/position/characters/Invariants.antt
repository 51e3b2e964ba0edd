use Rattle.std.proofs.Common.{drop, ◌+◌, ◌≡◌, ◌≤◌}
use Rattle.tl_lines.specs.Lines.{characters}
use Rattle.tl_lines.proofs.position.characters.Given as goal

abbrev pub invariant-loop-byte : goal.invariant-loop-byte
invariant-loop-byte l = (l.count + characters (drop l.byte-index l.bytes) ≡ characters l.bytes) × (l.count ≤ l.byte-index)
