use Rattle.std.proofs.Common.{◌≡◌, ◌≤◌, ◌-◌, length, take}
use Rattle.std.specs.Io.KnownBytes.{Appends}
use Rattle.tl_program.proofs.program.runner.write_all.Given as goal

-- the beginning up to `done` is written
abbrev pub invariant-loop-done : goal.invariant-loop-done
invariant-loop-done g l =
    record {
      in_range : l.done ≤ length l.bytes;
      bytes : Appends (g.W.Output.seen l.fn.writer).holds (g.W.Output.seen l.writer).holds (take l.done l.bytes);
      marks : (g.W.Output.seen l.writer).has_failed ≡ (g.W.Output.seen l.fn.writer).has_failed;
      counts : (g.W.Output.seen l.writer).flushes ≡ (g.W.Output.seen l.fn.writer).flushes;
    }

abbrev pub decreases-loop-done : goal.decreases-loop-done
decreases-loop-done g l = length l.bytes - l.done
