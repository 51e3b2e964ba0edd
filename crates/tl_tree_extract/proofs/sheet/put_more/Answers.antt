use Rattle.std.proofs.Common.{arith, length, rules, ℕ, ◌+◌, ◌-◌, ◌<◌, ◌∙◌, ◌≤◌}
use Rattle.tl_tree.specs.TreeView.{rows_in}
use Rattle.tl_tree_extract.proofs.Lengths.{slot_more, slots_over}
use Rattle.tl_tree_extract.specs.Table.{table_said}
use Rattle.tl_tree_extract.proofs.sheet.put_more.Goals as goal

pub loop-last-preserved : goal.loop-last-preserved
loop-last-preserved c = record {
  kept = c.in_ok-take_slot.ensures.kept;
  out = slot_more c.args.format.columns c.args.format.spans (rows_in c.args.tree.now) (table_said c.args.table.now) c.args.row c.loop-last.last c.args.out.now.items
      c.put_value.new.out.items c.put_separator.new.out.items c.loop-last.out.items c.as_slice.result.now
      c.in_ok-put_value.ensures (c.as_slice.ensures.value ∙ c.in_ok-take_slot.ensures.line) c.in_ok-put_separator.ensures c.loop-last.invariant.out;
}

pub returns-in_err-check-clause-long : goal.returns-in_err-check-clause-long
returns-in_err-check-clause-long c = λ h.
    let columns = c.args.format.columns in
    let spans = c.args.format.spans in
    let rows = rows_in c.args.tree.now in
    let t = table_said c.args.table.now in
    let n : ℕ = c.loop-last.last in
    let old = c.args.out.now.items in
    let put = c.put_value.new.out.items in
    let written = slot_more columns spans rows t c.args.row n old put c.put_separator.new.out.items c.loop-last.out.items c.as_slice.result.now
    c.in_ok-put_value.ensures (c.as_slice.ensures.value ∙ c.in_ok-take_slot.ensures.line) c.in_ok-put_separator.ensures c.loop-last.invariant.out in
    let le : n + 1 ≤ c.args.table.now.width - 1 = omega (arith, c.loop-last-test.true) in
    let told = c.in_err-check.ensures.long (search (rules, h)) in
    let over : c.args.format.limit.start + c.args.format.limit.most < length put = omega (arith, told, c.len.ensures) in
    slots_over columns spans rows t c.args.row (n + 1) (c.args.table.now.width - 1) (c.args.format.limit.start + c.args.format.limit.most) old put le written over
