use Rattle.std.proofs.Common.{◌∙◌}
use Rattle.tl_inline.proofs.Maps.{position-keys, finds}
use Rattle.tl_inline.proofs.inline.hashmap.pairs.find.Goals as goal

pub returns : goal.returns
returns g c =
    let t = g.K.PartialEq.eq c.args.key.now in
    let es = c.args.pairs.now in
    let f = finds t es c.find_pair.result (c.find_pair.ensures ∙ position-keys t es) in
    record { index = f.index; within = f.within; value = f.value; absent = f.absent }
