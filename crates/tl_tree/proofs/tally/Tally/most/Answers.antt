use Rattle.tl_tree.proofs.Tallies.{tallied-most}
use Rattle.tl_tree.proofs.tally.Tally.most.Goals as goal

pub returns : goal.returns
returns c = λ s key entries t.
    tallied-most s key c.args.self.now.counts.items entries c.args.number c.slot.result c.index.result.now c.slot.ensures.stands c.slot.ensures.within c.index.ensures t
