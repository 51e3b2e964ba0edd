use Rattle.std.proofs.Common.{List, drop, length, ◌+◌, ◌++◌, ◌-◌, ◌≤◌}
use Rattle.tl_diff.specs.Scripts.{IsScript, lines_said}
use Rattle.tl_diff.specs.declared.change.Change.{Change}
use Rattle.tl_diff.proofs.script.changes.Given as goal

-- what leads from what is left of the old text to what is left of the new one, behind the changes
-- so far, leads from one to the other
abbrev pub invariant-loop-change : goal.invariant-loop-change
invariant-loop-change l = record {
  in_old : l.from ≤ length l.old;
  in_new : l.to ≤ length l.new;
  so_far : (more : List Change) → IsScript more (drop l.from (lines_said l.old)) (drop l.to (lines_said l.new))
      → IsScript (l.changes.items ++ more) (lines_said l.old) (lines_said l.new);
}

abbrev pub decreases-loop-change : goal.decreases-loop-change
decreases-loop-change l = (length l.old - l.from) + (length l.new - l.to)
