use Rattle.std.proofs.Common.{◌+◌, ◌≤◌, ◌<◌, ℕ, Bool, length, drop, take, sym, ap, ◌∙◌, arith}
use Rattle.std.specs.Prelude.{◌==◌}
use Rattle.std.specs.List.{position_or_len}
use Rattle.tl_bytes.proofs.Chunks.{passed, hit, found_at}
use Rattle.tl_bytes.proofs.simd.find.Goals as goal

pub loop-at-preserved : goal.loop-at-preserved
loop-at-preserved c =
    let q : ℕ → Bool = λ b. b == c.args.needle in
    let s = c.args.haystack.now in
    let at = c.loop-at.at in
    let room : at + 16 ≤ length s = omega arith in
    (room, c.loop-at.invariant.1 ∙ ap (λ n. at + n) (passed q s at room (omega (arith, c.before_byte-before.ensures))) ∙ omega arith)

pub returns-then-before-lt16 : goal.returns-then-before-lt16
returns-then-before-lt16 c =
    let q : ℕ → Bool = λ b. b == c.args.needle in
    let s = c.args.haystack.now in
    let at = c.loop-at.at in
    let room : at + 16 ≤ length s = omega arith in
    let is = c.before_byte-before.ensures in
    let short : position_or_len q (take 16 (drop at s)) < 16 = omega (arith, is) in
    found_at q s _ (c.loop-at.invariant.1 ∙ ap (λ n. at + n) (hit q s at room short ∙ sym is)) (omega arith)
