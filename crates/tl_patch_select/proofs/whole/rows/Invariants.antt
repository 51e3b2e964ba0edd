use Rattle.tl_patch_select.specs.Inner.Sources.{AreRowsUpTo}
use Rattle.tl_patch_select.proofs.whole.rows.Given as goal

-- those of the rows so far
abbrev pub invariant-loop-row : goal.invariant-loop-row
invariant-loop-row l = AreRowsUpTo l.tree l.tail l.row l.all.items
