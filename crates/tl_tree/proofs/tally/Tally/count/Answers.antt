use Rattle.std.proofs.Common.{◌∷◌}
use Rattle.tl_tree.proofs.Tallies.{tallied-more, tallied-none}
use Rattle.tl_tree.specs.declared.active_entry.Entry.TheVariants.{Formatting}
use Rattle.tl_tree.proofs.tally.Tally.count.Goals as goal

pub returns-then-count : goal.returns-then-count
returns-then-count c = λ s key entries n tag is t.
    tallied-none s key c.clear.new.self.items (Formatting n tag ∷ entries) c.clear.ensures.items

pub returns : goal.returns
returns c = λ s key entries n tag is t.
    tallied-more s key c.args.self.now.counts.items entries n tag c.args.number c.slot-slot.result c.index-count.result.now c.slot-slot.ensures.stands c.slot-slot.ensures.within c.index-count.ensures is t
