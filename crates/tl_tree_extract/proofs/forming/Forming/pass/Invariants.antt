use Rattle.std.proofs.Common.{◌≡◌, ◌≤◌, ◌<◌, length, true, ℕ}
use Rattle.tl_tree_extract.specs.Inner.Open.{StandsAt, forming_said}
use Rattle.tl_tree_extract.specs.Table.{is_covered}
use Rattle.tl_tree_extract.proofs.forming.Forming.pass.Given as goal

-- all slots from the first column on that was asked for are covered, and no cell is changed
abbrev pub invariant-loop-cell : goal.invariant-loop-cell
invariant-loop-cell l = record {
  stands : StandsAt l.self l.row l.column;
  said : forming_said l.self ≡ forming_said l.initial.self;
  on : l.from ≤ l.column;
  busy : (k : ℕ) → l.from ≤ k → k < l.column → is_covered l.self.cells.items k l.row ≡ true;
}

abbrev pub decreases-loop-cell : goal.decreases-loop-cell
decreases-loop-cell l = length l.self.ahead.items
