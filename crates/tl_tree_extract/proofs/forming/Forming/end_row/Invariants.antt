use Rattle.std.proofs.Common.{◌≡◌, ◌++◌, length}
use Rattle.std.specs.Prelude.{reverse}
use Rattle.tl_tree_extract.specs.Inner.Open.{forming_said}
use Rattle.tl_tree_extract.proofs.forming.Forming.end_row.Given as goal

abbrev pub invariant-loop-cell : goal.invariant-loop-cell
invariant-loop-cell l = record {
  said : forming_said l.self ≡ forming_said l.initial.self;
  all : l.self.passed.items ++ reverse l.self.ahead.items ≡ l.initial.self.passed.items ++ reverse l.initial.self.ahead.items;
}

abbrev pub decreases-loop-cell : goal.decreases-loop-cell
decreases-loop-cell l = length l.self.passed.items
