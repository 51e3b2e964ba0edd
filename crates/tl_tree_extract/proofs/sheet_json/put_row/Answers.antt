use Rattle.std.proofs.Common.{[], rules, ◌+◌, ◌∷◌}
use Rattle.json.specs.Token.{begin_array, end_array}
use Rattle.tl_tree.specs.TreeView.{rows_in}
use Rattle.tl_tree_extract.proofs.Arrays.{over_between}
use Rattle.tl_tree_extract.proofs.Sinks.{three}
use Rattle.tl_tree_extract.specs.SheetJson.{slot_strings}
use Rattle.tl_tree_extract.specs.Table.{table_said}
use Rattle.tl_tree_extract.proofs.sheet_json.put_row.Goals as goal

pub returns-clause-adds : goal.returns-clause-adds
returns-clause-adds c =
    three _ _ _ _ _ _ _ c.in_ok-mark.ensures.adds c.in_ok-put_slots.ensures.adds c.in_ok-mark-2.ensures.adds

pub returns-in_err-put_slots-clause-long : goal.returns-in_err-put_slots-clause-long
returns-in_err-put_slots-clause-long c = λ h.
    let slots = slot_strings c.args.format.spans (rows_in c.args.tree.now) (table_said c.args.table.now) c.args.row c.args.table.now.width in
    over_between (c.args.format.limit.start + c.args.format.limit.most) c.args.out.now.out.items c.args.out.now.after_value _ (begin_array ∷ []) slots (end_array ∷ [])
    c.in_ok-mark.ensures.adds (c.in_err-put_slots.ensures.long (search (rules, h)))
