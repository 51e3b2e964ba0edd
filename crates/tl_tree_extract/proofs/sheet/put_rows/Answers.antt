use Rattle.std.proofs.Common.{append-nil, arith, length, refl, rules, subst, sym, ℕ, ◌+◌, ◌++◌, ◌<◌, ◌≤◌}
use Rattle.tl_tree.specs.TreeView.{rows_in}
use Rattle.tl_tree_extract.proofs.Lengths.{row_more, rows_over, rows_within}
use Rattle.tl_tree_extract.proofs.Slots.{next_row}
use Rattle.tl_tree_extract.specs.Sheet.{row_written}
use Rattle.tl_tree_extract.specs.Table.{table_said}
use Rattle.tl_tree_extract.proofs.sheet.put_rows.Goals as goal

pub loop-row-init : goal.loop-row-init
loop-row-init c = record {
  kept = c.new-words.ensures (rows_in c.args.tree.now);
  before = c.new-slots.ensures (table_said c.args.table.now);
  out = sym (append-nil c.args.out.now.items);
  within = omega arith;
}

pub loop-row-preserved : goal.loop-row-preserved
loop-row-preserved c =
    let n : ℕ = c.loop-row.row in
    let columns = c.args.format.columns in
    let spans = c.args.format.spans in
    let rows = rows_in c.args.tree.now in
    let t = table_said c.args.table.now in
    let old = c.args.out.now.items in
    let written = row_more columns spans rows t n old c.put_row.new.out.items c.loop-row.out.items c.in_ok-put_row.ensures.written c.loop-row.invariant.out in
    record {
      kept = c.in_ok-put_row.ensures.kept;
      before = next_row t n (n + 1) c.go_to.new.self refl c.in_ok-go_to.ensures;
      out = written;
      within = rows_within columns spans rows t (n + 1) c.args.format.limit.most old c.put_row.new.out.items written
          (subst (λ (k : ℕ). length c.put_row.new.out.items ≤ k + c.args.format.limit.most) c.requires.start c.in_ok-put_row.ensures.within);
    }

pub returns-in_err-put_row-clause-long : goal.returns-in_err-put_row-clause-long
returns-in_err-put_row-clause-long c = λ h.
    let n : ℕ = c.loop-row.row in
    let columns = c.args.format.columns in
    let spans = c.args.format.spans in
    let rows = rows_in c.args.tree.now in
    let t = table_said c.args.table.now in
    let limit : ℕ = c.args.format.limit.most in
    let said = c.loop-row.out.items in
    let within : n < length c.args.table.now.rows.items = omega (arith, c.loop-row-test.true, c.len-row-end.ensures) in
    let told = c.in_err-put_row.ensures.long (search (rules, h)) in
    rows_over columns spans rows t n (length c.args.table.now.rows.items) limit c.args.out.now.items said within c.loop-row.invariant.out
    (subst (λ (k : ℕ). k + limit < length (said ++ row_written columns spans rows t n)) c.requires.start told)
