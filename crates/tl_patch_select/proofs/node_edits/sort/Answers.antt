use Rattle.std.proofs.Common.{List, length, rules, ◌≡◌}
use Rattle.std.proofs.lemmas.List.Sorted.{IsNonDecreasingBy-from_sort_by_key, answers_always}
use Rattle.std.proofs.lemmas.Result.{on_ok_weaker}
use Rattle.tl_patch_edit.specs.declared.ask.PlacedPatch.{PlacedPatch}
use Rattle.tl_patch_select.proofs.OrderedEdits.{edits-in-order}
use Rattle.tl_patch_select.proofs.node_edits.sort.Goals as goal

pub returns : goal.returns
returns c =
    let old : List PlacedPatch = c.args.patches.now.items in
    let new : List PlacedPatch = c.sort_by_key.new.self.items in
    let len : length new ≡ length old = search rules in
    on_ok_weaker c.sort_by_key.result
    (λ sorted. edits-in-order old new len
    (IsNonDecreasingBy-from_sort_by_key (λ (p : PlacedPatch). p.place) new sorted (λ a r q k. search rules))
    (c.sort_by_key.ensures.stable (λ (p : PlacedPatch). p.place) (answers_always _ _ _ (λ f a r g h. search rules))))
    c.sort_by_key.ensures.sorted
