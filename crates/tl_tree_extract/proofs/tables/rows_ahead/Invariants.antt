use Rattle.std.proofs.Common.{◌≡◌, ◌+◌, drop}
use Rattle.tl_tree_extract.specs.Table.{rows_ahead}
use Rattle.tl_tree_extract.proofs.tables.rows_ahead.Given as goal

abbrev pub invariant-loop-index : goal.invariant-loop-index
invariant-loop-index l = l.index + rows_ahead (drop l.index l.steps) ≡ rows_ahead l.steps
