use Rattle.tl_tree.proofs.Written.{all-at}
use Rattle.tl_tree.specs.Inner.ActiveWithin.{entry_is_within}
use Rattle.tl_tree.proofs.active.ActiveList.entry.Goals as goal

pub returns-clause-within : goal.returns-clause-within
returns-clause-within c =
    let a = c.args.self.now in
    all-at (entry_is_within a.greatest_number a.greatest_tag) a.entries.items c.args.place c.index.result.now c.index.result.now c.index.ensures c.requires a.within
