use Rattle.std.proofs.Common.{◌≡◌, filter}
use Rattle.tl_tree.specs.TreeView.{rows_in}
use Rattle.tl_tree_extract.specs.Inner.Open.{StandsAt, forming_said}
use Rattle.tl_tree_extract.specs.Named.{is_named_at}
use Rattle.tl_tree_extract.specs.Table.{cell_names, children_named, place_cells}
use Rattle.tl_tree_extract.proofs.tables.place_cells.Given as goal

-- what is formed, with the cells that are left, is what is formed of all of them
abbrev pub invariant-loop-child : goal.invariant-loop-child
invariant-loop-child l =
    let rows = rows_in l.tree in
    record {
      stands : StandsAt l.forming l.number l.column;
      said : place_cells rows l.row l.number (filter (is_named_at cell_names rows) l.child-iterator) l.column (forming_said l.forming)
          ≡ place_cells rows l.row l.number (children_named cell_names rows l.row.node) 0 (forming_said l.initial.forming);
    }
