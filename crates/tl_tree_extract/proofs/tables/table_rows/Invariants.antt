use Rattle.std.proofs.Common.{◌≡◌, ◌≤◌, ◌+◌, ◌++◌, ◌⊎◌, drop, length}
use Rattle.tl_tree_extract.specs.Table.{rows_ahead, rows_from}
use Rattle.tl_tree_extract.proofs.tables.table_rows.Given as goal

abbrev pub invariant-loop-index : goal.invariant-loop-index
invariant-loop-index l =
    let steps = l.step-items in
    let number = length l.rows.items in
    record {
      few : number ≤ l.index;
      ends : (l.group_end ≤ number) ⊎ (l.group_end ≡ number + rows_ahead (drop l.index steps));
      rows : l.rows.items ++ rows_from number (drop l.index steps) ≡ rows_from 0 steps;
    }
