use Rattle.tl_inline.proofs.Maps.{finds}
use Rattle.tl_inline.proofs.inline.hashmap.heap.index.place_by_note.Goals as goal

pub returns : goal.returns
returns g c =
    let f = finds (g.K.PartialEq.eq c.args.key.now) c.args.pairs.now c.index_by_note.result c.index_by_note.ensures in
    record { index = f.index; within = f.within; value = f.value; absent = f.absent }
