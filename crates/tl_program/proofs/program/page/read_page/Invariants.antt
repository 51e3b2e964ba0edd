use Rattle.std.proofs.Common.{◌≡◌, ◌-◌, ◌^◌, ◌≤◌, vec_len}
use Rattle.std.specs.Io.KnownBytes.{Consumes}
use Rattle.tl_program.proofs.program.page.read_page.Given as goal

-- what was read so far, which is not too long, stands before what is left
abbrev pub invariant-loop-page : goal.invariant-loop-page
invariant-loop-page g l =
    record {
      bytes : Consumes (g.R.Input.seen l.fn.reader).left (g.R.Input.seen l.reader).left l.page.items;
      short : vec_len l.page ≤ 4294967295;
      marks : (g.R.Input.seen l.reader).has_failed ≡ (g.R.Input.seen l.fn.reader).has_failed;
    }

abbrev pub decreases-loop-page : goal.decreases-loop-page
decreases-loop-page g l = 2 ^ 32 - vec_len l.page
