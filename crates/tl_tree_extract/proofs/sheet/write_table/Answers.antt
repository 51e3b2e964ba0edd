use Rattle.std.proofs.Common.{length, rules, subst, sym}
use Rattle.tl_tree.specs.TreeView.{rows_in}
use Rattle.tl_tree_extract.proofs.Lengths.{table_over}
use Rattle.tl_tree_extract.proofs.Rising.{table_rising}
use Rattle.tl_tree_extract.specs.Inner.Slots.{AreRising}
use Rattle.tl_tree_extract.specs.Table.{TableModel}
use Rattle.tl_tree_extract.proofs.sheet.write_table.Goals as goal

pub put_rows-requires-clause-rising : goal.put_rows-requires-clause-rising
put_rows-requires-clause-rising c =
    subst (λ (t : TableModel). AreRising 0 (length t.rows) t.cells) (sym c.in_ok-table.ensures.said) (table_rising (rows_in c.args.tree.now) c.args.number)

pub returns-in_err-table-clause-long : goal.returns-in_err-table-clause-long
returns-in_err-table-clause-long c = λ h.
    let over = c.in_err-table.ensures.long (search (rules, h)) in
    table_over c.args.columns c.args.spans (rows_in c.args.tree.now) c.args.number c.args.limit over.1
