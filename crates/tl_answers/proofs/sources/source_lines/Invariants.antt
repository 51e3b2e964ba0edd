use Rattle.std.proofs.Common.{flat_map, take, ◌≡◌}
use Rattle.tl_answers.specs.SourceLines.{source_line}
use Rattle.tl_patch_edit.specs.Stretches.{stretches}
use Rattle.tl_tree.specs.Sources.{source_at}
use Rattle.tl_answers.proofs.sources.source_lines.Given as goal

-- the lines are those of the nodes so far
abbrev pub invariant-loop-number : goal.invariant-loop-number
invariant-loop-number l =
    l.lines.items ≡ flat_map (source_line l.end l.page (stretches l.page) (source_at l.tree)) (take l.number-index l.numbers)
