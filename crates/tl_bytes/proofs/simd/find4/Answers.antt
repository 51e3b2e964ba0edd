use Rattle.std.proofs.Common.{◌+◌, ◌≤◌, length, ap, ◌∙◌, arith}
use Rattle.tl_bytes.specs.Search.{is_one_of}
use Rattle.tl_bytes.proofs.Chunks.{passed}
use Rattle.tl_bytes.proofs.simd.find4.Goals as goal

pub loop-at-preserved : goal.loop-at-preserved
loop-at-preserved c =
    let q = is_one_of c.args.needle in
    let s = c.args.haystack.now in
    let at = c.loop-at.at in
    let room : at + 16 ≤ length s = omega arith in
    (room, c.loop-at.invariant.1 ∙ ap (λ n. at + n) (passed q s at room (omega (arith, c.before_any-before.ensures))) ∙ omega arith)
