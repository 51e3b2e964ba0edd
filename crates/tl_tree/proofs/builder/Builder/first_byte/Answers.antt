use Rattle.std.proofs.Common.{◌<◌, ◌∷◌, ◌∙◌, ap, arith, drop, get_or, length, sym}
use Rattle.tl_tree.proofs.RunTexts.{first-rest}
use Rattle.tl_tree.specs.Inner.Builders.{token_of}
use Rattle.tl_tree.proofs.builder.Builder.first_byte.Goals as goal

pub bounds-bytes-0 : goal.bounds-bytes-0
unfolding token_of
bounds-bytes-0 c =
    let is = ap length c.bytes.ensures in
    omega (arith, is, c.requires)

pub returns : goal.returns
unfolding token_of
returns c =
    let bytes = c.bytes.result.now in
    let is = ap length c.bytes.ensures in
    let some : 0 < length bytes = omega (arith, is, c.requires) in
    sym c.bytes.ensures ∙ first-rest bytes some ∙ ap (λ own. get_or bytes 0 0 ∷ drop 1 own) c.bytes.ensures
