use Rattle.std.proofs.Common.{take}
use Rattle.tl_tree.specs.Inner.Tallied.{AreTallied}
use Rattle.tl_tree.proofs.tally.Tally.count_all.Given as goal

abbrev pub invariant-loop-entry : goal.invariant-loop-entry
invariant-loop-entry l = AreTallied l.store l.key l.self.counts.items (take l.entry-index l.entries)
