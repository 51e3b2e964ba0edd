use Rattle.std.proofs.Common.{List, length, rules, ◌≡◌}
use Rattle.std.proofs.lemmas.List.Sorted.{IsNonDecreasingBy-from_sort_by_key, answers_always}
use Rattle.std.proofs.lemmas.Result.{on_ok_weaker}
use Rattle.tl_patch.specs.declared.tag_patch.TagPatch.{TagPatch}
use Rattle.tl_patch_select.proofs.Ordered.{in-order}
use Rattle.tl_patch_select.proofs.nodes.sort.Goals as goal

pub returns : goal.returns
returns c =
    let old : List TagPatch = c.args.patches.now.items in
    let new : List TagPatch = c.sort_by_key.new.self.items in
    let len : length new ≡ length old = search rules in
    on_ok_weaker c.sort_by_key.result
    (λ sorted. in-order old new len
    (IsNonDecreasingBy-from_sort_by_key (λ (p : TagPatch). p.start) new sorted (λ a r q k. search rules))
    (c.sort_by_key.ensures.stable (λ (p : TagPatch). p.start) (answers_always _ _ _ (λ f a r g h. search rules))))
    c.sort_by_key.ensures.sorted
