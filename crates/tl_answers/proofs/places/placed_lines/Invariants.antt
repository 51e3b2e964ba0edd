use Rattle.std.proofs.Common.{flat_map, take, ◌≡◌}
use Rattle.tl_answers.specs.Places.{placed_line}
use Rattle.tl_dom_spec.specs.HtmlForest.{HtmlForest}
use Rattle.tl_tree.specs.Rows.{rows_of}
use Rattle.tl_tree.specs.Sources.{source_at}
use Rattle.tl_tree.specs.TreeView.{rows_in}
use Rattle.tl_answers.proofs.places.placed_lines.Given as goal

-- the lines are those of the nodes so far
abbrev pub invariant-loop-number : goal.invariant-loop-number
invariant-loop-number l =
    (trees : HtmlForest) → rows_in l.tree ≡ rows_of trees
    → l.lines.items ≡ flat_map (placed_line l.field l.end trees (source_at l.tree) l.page) (take l.number-index l.numbers)
