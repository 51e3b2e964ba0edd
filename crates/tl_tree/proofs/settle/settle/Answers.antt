use Rattle.std.proofs.Common.{IsTrue, ap, arith, length, map, subst, sym, ◌<◌, ◌^◌, ◌∙◌, ◌≡◌}
use Rattle.std.proofs.lemmas.List.{with_items_is}
use Rattle.std.specs.List.{list_all}
use Rattle.std.specs.Vec.{with_items}
use Rattle.tl_dom_spec.specs.HtmlForest.{before, no_trees}
use Rattle.tl_tree.proofs.Ends.{final-ends, final-few, final-rows, final-within}
use Rattle.tl_tree.specs.Inner.RowView.{row_in, row_is_within}
use Rattle.tl_tree.specs.Inner.Settling.{sizes_with, text_with}
use Rattle.tl_tree.specs.Inner.Store.{nodes_of}
use Rattle.tl_tree.specs.Rows as rows
use Rattle.tl_tree.specs.declared.settling.Settling.{Settling}
use Rattle.tl_tree.proofs.settle.settle.Goals as goal

pub seat-requires-clause-ends : goal.seat-requires-clause-ends
seat-requires-clause-ends c =
    let init : Settling = record { store = c.args.store; copied = c.new.result; rows = c.in_ok-rows.rows; pieces = c.new-2.result; source = 0; stack = c.new-3.result } in
    final-ends init c.run.new.self c.args.row c.as_mut_slice.result.now c.in_ok-run.ensures c.new-2.ensures.items c.in_ok-rows.ensures.items (c.as_mut_slice.ensures.value ∙ c.reverse.ensures.items)

pub returns-clause-rows : goal.returns-clause-rows
returns-clause-rows c =
    let init : Settling = record { store = c.args.store; copied = c.new.result; rows = c.in_ok-rows.rows; pieces = c.new-2.result; source = 0; stack = c.new-3.result } in
    let final = c.run.new.self in
    let turned = c.as_mut_slice.result.now in
    let is = c.as_mut_slice.ensures.value ∙ c.reverse.ensures.items in
    let w = c.in_ok-run.ensures in
    let vec = c.reverse.new.self in
    let long = c.seat.ensures.long in
    let items = ap length c.as_mut_slice.ensures.value in
    let own = vec.ok.0 in
    let back : c.seat.new.rows ≡ (with_items vec c.seat.new.rows).items = sym (with_items_is vec c.seat.new.rows (omega (arith, long, items, own))) in
    record {
      short = w.sound.short;
      few = subst (λ v. length v < 2 ^ 32) back (final-few final turned c.seat.new.rows w.sound is c.seat.ensures);
      within = subst (λ v. IsTrue (list_all (row_is_within (sizes_with final.store final.copied.items)) v)) back (final-within final turned c.seat.new.rows w.sound is c.seat.ensures);
      rows = subst (λ v. map (row_in final.store (text_with final.store final.copied.items)) v ≡ rows.rows_of (before (nodes_of c.args.store c.args.row) no_trees)) back (final-rows init final c.args.row turned c.seat.new.rows w c.new-2.ensures.items c.in_ok-rows.ensures.items is c.seat.ensures);
    }

pub returns-clause-page : goal.returns-clause-page
returns-clause-page c = c.in_ok-run.ensures.store.page
