use Rattle.std.proofs.Common.{length, ◌+◌, ◌<◌, ◌^◌, ◌≡◌}
use Rattle.tl_lines.specs.Inner.Marks.{column_behind}
use Rattle.tl_lines.specs.Lines.{line_feeds}
use Rattle.tl_lines.proofs.position.Position.behind.Given as goal

abbrev pub invariant-loop-at : goal.invariant-loop-at
invariant-loop-at l = record {
  line : l.line + line_feeds l.rest ≡ l.fn.self.line + line_feeds l.bytes;
  column : column_behind l.column l.rest ≡ column_behind l.fn.self.column l.bytes;
  line_fits : l.line + length l.rest < 2 ^ 64;
  column_fits : l.column + length l.rest < 2 ^ 64;
}

abbrev pub decreases-loop-at : goal.decreases-loop-at
decreases-loop-at l = length l.rest
