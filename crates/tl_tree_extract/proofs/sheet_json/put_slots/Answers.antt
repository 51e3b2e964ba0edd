use Rattle.std.proofs.Common.{List, arith, length, rules, sym, ℕ, ◌+◌, ◌<◌, ◌∙◌, ◌≡◌, ◌≤◌}
use Rattle.tl_tree.specs.TreeView.{rows_in}
use Rattle.tl_tree_extract.proofs.Arrays.{over_taken, slot_more, slots_over}
use Rattle.tl_tree_extract.proofs.Sinks.{after_none}
use Rattle.tl_tree_extract.specs.Inner.Sinks.{after, text_taken}
use Rattle.tl_tree_extract.specs.SheetJson.{slot_strings}
use Rattle.tl_tree_extract.specs.Table.{table_said}
use Rattle.tl_tree_extract.proofs.sheet_json.put_slots.Goals as goal

pub loop-column-init : goal.loop-column-init
loop-column-init c = record {
  kept = c.requires.kept;
  adds = sym (after_none _);
}

pub loop-column-preserved : goal.loop-column-preserved
loop-column-preserved c = record {
  kept = c.in_ok-take_slot.ensures.kept;
  adds = slot_more c.args.format.spans (rows_in c.args.tree.now) (table_said c.args.table.now) c.args.row c.loop-column.column c.as_slice.result.now _ _ _
      (c.as_slice.ensures.value ∙ c.in_ok-take_slot.ensures.line) c.loop-column.invariant.adds c.in_ok-string.ensures.adds;
}

pub returns-in_err-check-clause-long : goal.returns-in_err-check-clause-long
returns-in_err-check-clause-long c = λ h.
    let spans = c.args.format.spans in
    let rows = rows_in c.args.tree.now in
    let t = table_said c.args.table.now in
    let row : ℕ = c.args.row in
    let n : ℕ = c.loop-column.column in
    let o : List ℕ = c.args.out.now.out.items in
    let most : ℕ = c.args.format.limit.start + c.args.format.limit.most in
    let put = c.string.new.self.out.items in
    let adds : text_taken put c.string.new.self.after_value ≡ after (slot_strings spans rows t row (n + 1)) (text_taken o c.args.out.now.after_value) =
    slot_more spans rows t row n c.as_slice.result.now _ _ _
    (c.as_slice.ensures.value ∙ c.in_ok-take_slot.ensures.line) c.loop-column.invariant.adds c.in_ok-string.ensures.adds in
    let told = c.in_err-check.ensures.long (search (rules, h)) in
    let over : most < length put = omega (arith, told, c.len.ensures) in
    let le : n + 1 ≤ c.args.table.now.width = omega (arith, c.loop-column-test.true) in
    slots_over spans rows t most o c.args.out.now.after_value row (n + 1) c.args.table.now.width le
    (over_taken most o put c.args.out.now.after_value c.string.new.self.after_value (slot_strings spans rows t row (n + 1)) adds over)
