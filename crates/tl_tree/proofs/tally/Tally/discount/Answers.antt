use Rattle.tl_tree.proofs.Tallies.{tallied-less}
use Rattle.tl_tree.proofs.tally.Tally.discount.Goals as goal

pub returns : goal.returns
returns c = λ s key entries n tag is t.
    tallied-less s key c.args.self.now.counts.items entries n tag c.args.number c.slot-slot.result c.index-count.result.now c.saturating_sub.result c.slot-slot.ensures.stands c.slot-slot.ensures.within c.index-count.ensures c.saturating_sub.ensures is t
