use Rattle.std.proofs.Common.{◌+◌, ◌≤◌, ◌<◌, length, drop, take, sym, ap, ◌∙◌, arith}
use Rattle.std.specs.List.{position_or_len}
use Rattle.tl_bytes.specs.Search.{is_not_name}
use Rattle.tl_bytes.proofs.Chunks.{passed, hit, found_at}
use Rattle.tl_bytes.proofs.simd.search_non_name.Goals as goal

pub loop-at-preserved : goal.loop-at-preserved
loop-at-preserved c =
    let q = is_not_name in
    let s = c.args.haystack.now in
    let at = c.loop-at.at in
    let room : at + 16 ≤ length s = omega arith in
    (room, c.loop-at.invariant.1 ∙ ap (λ n. at + n) (passed q s at room (omega (arith, c.before_non_name-before.ensures))) ∙ omega arith)

pub returns-then-before-lt16 : goal.returns-then-before-lt16
returns-then-before-lt16 c =
    let q = is_not_name in
    let s = c.args.haystack.now in
    let at = c.loop-at.at in
    let room : at + 16 ≤ length s = omega arith in
    let is = c.before_non_name-before.ensures in
    let short : position_or_len q (take 16 (drop at s)) < 16 = omega (arith, is) in
    found_at q s _ (c.loop-at.invariant.1 ∙ ap (λ n. at + n) (hit q s at room short ∙ sym is)) (omega arith)
