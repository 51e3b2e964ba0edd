use Rattle.std.proofs.Common.{ap, arith, length, length-append, ◌∙◌}
use Rattle.tl_tree.proofs.Settles.{copy-step}
use Rattle.tl_tree.proofs.settle.copy.Goals as goal

pub loop-left-preserved : goal.loop-left-preserved
loop-left-preserved c =
    let some = c.loop-left-test.true in
    let below = c.loop-left.invariant.0 in
    let items = c.in_ok-extend_from_slice.ensures.items in
    let many = ap length items ∙ length-append c.loop-left.copied.items c.bytes-bytes.result.now in
    let room = c.if-bytes-len.false in
    let side = c.len.ensures in
    let own = c.len-in-loop-left.ensures in (
      omega (arith, below),
      copy-step c.args.store.now c.args.pieces.now c.loop-left.left _ c.args.copied.now.items c.loop-left.copied.items c.extend_from_slice.new.self.items c.bytes-bytes.result.now some below c.bytes-bytes.ensures c.loop-left.invariant.1 items,
      omega (arith, many, room, side, own),
    )
