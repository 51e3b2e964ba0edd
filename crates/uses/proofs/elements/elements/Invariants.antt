use Rattle.std.proofs.Common.{flat_map, take, ◌≡◌}
use Rattle.tl_dom_spec.specs.HtmlForest.{HtmlForest}
use Rattle.tl_tree.specs.Rows.{rows_of}
use Rattle.tl_tree.specs.TreeView.{rows_in}
use Rattle.uses.specs.Elements.{element_line}
use Rattle.uses.proofs.elements.elements.Given as goal

-- the lines are those of the elements so far
abbrev pub invariant-loop-number : goal.invariant-loop-number
invariant-loop-number l =
    (trees : HtmlForest) → rows_in l.tree ≡ rows_of trees
    → l.lines.items ≡ flat_map (element_line trees) (take l.number-index l.number-items)
