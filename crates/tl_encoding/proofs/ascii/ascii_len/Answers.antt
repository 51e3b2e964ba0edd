use Rattle.std.proofs.Common.{◌+◌, ◌≤◌, length, ap, ◌∙◌, arith}
use Rattle.tl_encoding.proofs.Fronts.{passed}
use Rattle.tl_encoding.proofs.ascii.ascii_len.Goals as goal

pub loop-at-preserved : goal.loop-at-preserved
loop-at-preserved c =
    let s = c.args.bytes.now in
    let at = c.loop-at.at in
    let room : at + 16 ≤ length s = omega arith in
    record {
      bound = room;
      passed = c.loop-at.invariant.passed ∙ ap (λ n. at + n) (passed s at room (omega (arith, c.before_high-before.ensures))) ∙ omega arith;
    }
