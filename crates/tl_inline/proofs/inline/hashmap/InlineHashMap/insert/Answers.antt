use Rattle.std.proofs.Common.{◌≡◌, sym}
use Rattle.tl_inline.specs.Inner.PairStorage.{storage_view}
use Rattle.tl_inline.proofs.Maps.{moved_in}
use Rattle.tl_inline.proofs.inline.hashmap.InlineHashMap.insert.Goals as goal

pub returns-in-Ok-take-clause-ok : goal.returns-in-Ok-take-clause-ok
returns-in-Ok-take-clause-ok g c =
    let at : storage_view c.self.inside.held ≡ c.args.self.now = c.self.view_is in
    let full = rw c.in-Err.ensures.err at c.if-not-is_full.ensures.value in
    moved_in g.K.PartialEq.eq g.row.N c.args.self.now c.in-Inline.inline.items c.in-Ok-take.heap c.args.key c.args.value
    (rw c.in-Inline.is at at) (sym c.in-Err.ensures.variant) (sym full)
    (rw (c.in-Err.ensures.err, c.in-Err.ensures.returned) at c.in-Ok-take.ensures.ok)
