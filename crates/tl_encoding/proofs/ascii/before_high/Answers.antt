use Rattle.std.proofs.Common.{ℕ, cond, leb, not, ◌∙◌, refl}
use Rattle.std.specs.Char.{is_ascii}
use Rattle.std.proofs.lemmas.Simd.{zip2_splat_left, length-chunk}
use lib.Lanes.{chunk}
use Rattle.tl_bytes.proofs.Lanes.{places_by_table}
use Rattle.tl_encoding.proofs.Fronts.{twice_not}
use Rattle.tl_encoding.proofs.ascii.before_high.Goals as goal

pub returns : goal.returns
returns c =
    let s = c.args.bytes.now in
    let v = chunk c.args.at 16 s in
    let long = length-chunk c.args.at 16 s c.requires in
    c.lowest_bit.ensures
    ∙ places_by_table (λ b. not (is_ascii b)) s c.args.at _ _ c.requires (zip2_splat_left {X = ℕ} {Y = ℕ} {Z = ℕ} (λ a b. cond (leb a b) 255 0) 128 16 v long) c.type_inv.bytes refl
    ∙ twice_not v
