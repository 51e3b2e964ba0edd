use Rattle.std.proofs.Common.{ℕ, eqb, get_or, ◌∙◌, arith}
use Rattle.std.proofs.lemmas.Simd.{zip2_splat, length-chunk}
use lib.Lanes.{chunk}
use Rattle.tl_bytes.specs.Search.{is_one_of}
use Rattle.tl_bytes.proofs.Lanes.{joined, places, any_of_four, four_of}
use Rattle.tl_bytes.proofs.simd.lanes.before_any.Goals as goal

pub returns : goal.returns
returns c =
    let s = c.args.haystack.now in
    let v = chunk c.args.at 16 s in
    let long = length-chunk c.args.at 16 s c.requires in
    c.lowest_bit.ensures
    ∙ places (is_one_of c.args.needle) s c.args.at _ _ c.requires
    (joined _ _ _ v (joined _ _ _ v (joined _ _ _ v (zip2_splat _ v 16 _ long) (zip2_splat _ v 16 _ long)) (zip2_splat _ v 16 _ long)) (zip2_splat _ v 16 _ long))
    (λ k.
    let x = get_or s k 0 in
    let is = λ (j : ℕ). eqb x (get_or c.args.needle j 0) in
    any_of_four (is 0) (is 1) (is 2) (is 3) ∙ four_of c.args.needle (get_or s k 0) (omega arith))
