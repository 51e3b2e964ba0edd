use Rattle.std.proofs.Common.{arith, length, refl, rules, sym, ℕ, ◌+◌, ◌≤◌}
use Rattle.tl_tree.specs.TreeView.{rows_in}
use Rattle.tl_tree_extract.proofs.Arrays.{row_more, rows_over}
use Rattle.tl_tree_extract.proofs.Sinks.{after_none}
use Rattle.tl_tree_extract.proofs.Slots.{next_row}
use Rattle.tl_tree_extract.specs.Table.{table_said}
use Rattle.tl_tree_extract.proofs.sheet_json.put_rows.Goals as goal

pub loop-row-init : goal.loop-row-init
loop-row-init c = record {
  kept = c.new-words.ensures (rows_in c.args.tree.now);
  before = c.new-slots.ensures (table_said c.args.table.now);
  adds = sym (after_none _);
}

pub loop-row-preserved : goal.loop-row-preserved
loop-row-preserved c =
    let n : ℕ = c.loop-row.row in
    let t = table_said c.args.table.now in
    record {
      kept = c.in_ok-put_row.ensures.kept;
      before = next_row t n (n + 1) c.go_to.new.self refl c.in_ok-go_to.ensures;
      adds = row_more c.args.format.spans (rows_in c.args.tree.now) t n _ _ _ c.loop-row.invariant.adds c.in_ok-put_row.ensures.adds;
    }

pub returns-in_err-put_row-clause-long : goal.returns-in_err-put_row-clause-long
returns-in_err-put_row-clause-long c = λ h.
    let n : ℕ = c.loop-row.row in
    let within : n + 1 ≤ length c.args.table.now.rows.items = omega (arith, c.loop-row-test.true, c.len-row-end.ensures) in
    rows_over c.args.format.spans (rows_in c.args.tree.now) (table_said c.args.table.now)
    (c.args.format.limit.start + c.args.format.limit.most) c.args.out.now.out.items c.args.out.now.after_value _ n (length c.args.table.now.rows.items) (omega (arith, within))
    c.loop-row.invariant.adds (c.in_err-put_row.ensures.long (search (rules, h)))
