use Rattle.std.proofs.Common.{ℕ, ◌∙◌, refl}
use Rattle.std.proofs.lemmas.Simd.{zip2_splat, length-chunk}
use lib.Lanes.{chunk}
use Rattle.tl_bytes.specs.Search.{is_not_name}
use Rattle.tl_bytes.proofs.Lanes.{joined, splat_is, each, places_by_table}
use Rattle.tl_bytes.proofs.simd.lanes.before_non_name.Goals as goal

pub returns : goal.returns
returns c =
    let s = c.args.haystack.now in
    let v = chunk c.args.at 16 s in
    let long = length-chunk c.args.at 16 s c.requires in
    c.lowest_bit.ensures
    ∙ places_by_table is_not_name s c.args.at _ _ c.requires
    (each _ _ v (joined _ _ _ v (joined _ _ _ v (joined _ _ _ v (joined _ _ _ v
    (joined _ _ _ v (joined _ _ _ v (zip2_splat {Y = ℕ} _ v 16 32 long) (splat_is v 16 97 long)) (splat_is v 16 26 long))
    (joined _ _ _ v (zip2_splat {Y = ℕ} _ v 16 48 long) (splat_is v 16 11 long)))
    (zip2_splat {Y = ℕ} _ v 16 45 long))
    (zip2_splat {Y = ℕ} _ v 16 95 long))
    (zip2_splat {Y = ℕ} _ v 16 43 long)))
    c.type_inv.haystack refl
