use Rattle.std.proofs.Common.{sym}
use Rattle.tl_tree.proofs.Tallies.{tallied-none}
use Rattle.tl_tree.proofs.tally.Tally.take.Goals as goal

pub returns-else-has_counts : goal.returns-else-has_counts
returns-else-has_counts c = λ entries n t.
    tallied-none c.args.store.now c.args.key c.args.self.now.counts.items entries (c.has_counts.ensures.none c.if-has_counts.false)

pub returns-then-has_counts : goal.returns-then-has_counts
returns-then-has_counts c = λ entries n t.
    c.discount.ensures c.args.store.now c.args.key entries n c.args.tag (sym c.key_of.ensures) t
