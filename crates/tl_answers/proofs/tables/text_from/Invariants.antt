use Rattle.std.proofs.Common.{flat_map, length, take, ◌++◌, ◌≡◌, ◌≤◌}
use Rattle.tl_answers.specs.Tables.{later_text, table_text}
use Rattle.tl_tree.specs.TreeView.{rows_in}
use Rattle.tl_answers.proofs.tables.text_from.Given as goal

-- the first table and those behind it so far are written, and fit
abbrev pub invariant-loop-number : goal.invariant-loop-number
invariant-loop-number l = record {
  text : l.text.items
      ≡ table_text l.query.form l.query.spans (rows_in l.tree) l.first
      ++ flat_map (later_text l.query.form l.query.spans (rows_in l.tree)) (take l.number-index l.later);
  within : length l.text.items ≤ l.most;
}
