use Rattle.std.proofs.Common.{eqb, get_or, ◌∙◌}
use Rattle.std.proofs.lemmas.Simd.{zip2_splat, length-chunk}
use lib.Lanes.{chunk}
use Rattle.tl_bytes.proofs.Lanes.{places, lane_of}
use Rattle.tl_bytes.proofs.simd.lanes.before_byte.Goals as goal

pub returns : goal.returns
returns c =
    let s = c.args.haystack.now in
    let v = chunk c.args.at 16 s in
    let long = length-chunk c.args.at 16 s c.requires in
    c.lowest_bit.ensures
    ∙ places (λ b. eqb b c.args.needle) s c.args.at _ _ c.requires (zip2_splat _ v 16 _ long) (λ k. lane_of (eqb (get_or s k 0) c.args.needle))
