use Rattle.std.proofs.Common.{List, ap, arith, filter, sym, ◌∙◌}
use Rattle.std.proofs.lemmas.List.{take_all}
use Rattle.tl_tree.proofs.Looped.{entry-within, filter-left, filter-put}
use Rattle.tl_tree.specs.Inner.Merging.{is_missing, missing}
use Rattle.tl_tree.specs.declared.entries.AttributeEntry.{AttributeEntry}
use Rattle.tl_tree.proofs.more_attributes.missing.Goals.{else-is_missing, then-is_missing+in_ok-push}
use Rattle.tl_tree.proofs.more_attributes.missing.Goals as goal

pub returns : goal.returns
unfolding missing
returns c =
    let s = c.args.store.now in
    let own = c.args.own in
    let end = c.loop-attribute-test.false in
    let items = c.attributes-attribute-items.result.now in
    c.loop-attribute.invariant
    ∙ ap (λ (xs : List AttributeEntry). filter (is_missing s own) xs)
    (take_all c.loop-attribute.attribute-index items (omega arith) ∙ c.attributes-attribute-items.ensures)

pub is_missing-requires-clause-attribute : goal.is_missing-requires-clause-attribute
is_missing-requires-clause-attribute c =
    entry-within c.args.store.now c.args.other c.attributes-attribute-items.result.now c.loop-attribute.attribute-index _ c.attributes-attribute-items.ensures c.loop-attribute-test.true

pub loop-attribute-preserved : goal.loop-attribute-preserved
loop-attribute-preserved c =
    let test = is_missing c.args.store.now c.args.own in
    let items = c.attributes-attribute-items.result.now in
    let n = c.loop-attribute.attribute-index in
    let found = c.loop-attribute.found.items in
    elim c.if-is_missing.branch [
      | then-is_missing+in_ok-push w ↦ ap (λ v. v.items) w.found-is ∙ (w.in_ok-push.ensures.items ∙ filter-put test found items n _ c.loop-attribute-test.true c.loop-attribute.invariant (sym c.is_missing.ensures ∙ w.if-is_missing.true))
      | else-is_missing w ↦ ap (λ v. v.items) w.found-is ∙ filter-left test found items n _ c.loop-attribute-test.true c.loop-attribute.invariant (sym c.is_missing.ensures ∙ w.if-is_missing.false)
    ]
