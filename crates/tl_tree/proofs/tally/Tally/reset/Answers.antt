use Rattle.tl_tree.proofs.Tallies.{tallied-nil}
use Rattle.tl_tree.proofs.tally.Tally.reset.Goals as goal

pub returns-in_default : goal.returns-in_default
returns-in_default c = λ s key. tallied-nil s key c.clear-in_default.new.self.items

pub returns : goal.returns
returns c = λ s key. tallied-nil s key c.resize.new.self.items
