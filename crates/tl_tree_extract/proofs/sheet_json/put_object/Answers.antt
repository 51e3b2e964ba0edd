use Rattle.std.proofs.Common.{List, [], codes, rules, ◌+◌, ◌∷◌, ◌≡◌}
use Rattle.json.specs.Token.{Token, begin_object, end_object, key, string}
use Rattle.tl_tree.specs.TreeView.{rows_in}
use Rattle.tl_tree_extract.proofs.Arrays.{over_between}
use Rattle.tl_tree_extract.proofs.Sinks.{three}
use Rattle.tl_tree_extract.specs.Inner.Sinks.{after, text_taken}
use Rattle.tl_tree_extract.specs.SheetJson.{array_of_rows}
use Rattle.tl_tree_extract.specs.Table.{table_said}
use Rattle.tl_tree_extract.proofs.sheet_json.put_object.Goals as goal

pub returns-clause-adds : goal.returns-clause-adds
returns-clause-adds c =
    three _ _ _ _ _ _ _ (three _ _ _ _ _ _ _ c.in_ok-mark.ensures.adds c.in_ok-put_str.ensures.adds c.in_ok-known.ensures.adds)
    c.in_ok-put_array.ensures.adds c.in_ok-mark-2.ensures.adds

pub returns-in_err-put_array-clause-long : goal.returns-in_err-put_array-clause-long
returns-in_err-put_array-clause-long c = λ h.
    let own = array_of_rows c.args.format.spans (rows_in c.args.tree.now) (table_said c.args.table.now) in
    let before : List Token = begin_object ∷ key (codes "file") ∷ string c.args.file.now ∷ key (codes "rows") ∷ [] in
    let begun : text_taken c.known.new.self.out.items c.known.new.self.after_value ≡ after before (text_taken c.args.out.now.out.items c.args.out.now.after_value) =
    three _ _ _ _ _ _ _ c.in_ok-mark.ensures.adds c.in_ok-put_str.ensures.adds c.in_ok-known.ensures.adds in
    over_between (c.args.format.limit.start + c.args.format.limit.most) c.args.out.now.out.items c.args.out.now.after_value _ before own (end_object ∷ [])
    begun (c.in_err-put_array.ensures.long (search (rules, h)))
