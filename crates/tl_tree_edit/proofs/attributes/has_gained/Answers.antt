use Rattle.std.proofs.Common.{ap, sym, true≢false, ◌∙◌}
use Rattle.std.specs.Option.{option_map}
use Rattle.tl_tree.specs.Asked.{node_at}
use Rattle.tl_tree.specs.TreeView.{rows_in}
use Rattle.tl_tree_edit.proofs.ElementNodes.{changed_element, element_changed, no_element}
use Rattle.tl_tree_edit.proofs.Holding.{confirmed, holds, refuted}
use Rattle.tl_tree_edit.specs.Bare.{bare}
use Rattle.tl_tree_edit.specs.Changes.{with_value}
use Rattle.tl_tree_edit.proofs.attributes.has_gained.Goals as goal

pub returns-then-not-is_element : goal.returns-then-not-is_element
returns-then-not-is_element c =
    let a = node_at (rows_in c.args.old.now) c.args.number in
    let same = no_element (with_value c.args.key.now c.args.value.now) a (λ k. true≢false (sym (c.is_element.ensures.1 k) ∙ c.if-not-is_element.true)) in
    confirmed c.is_same_node.result c.is_same_node.ensures
    (λ x. sym (x ∙ ap (option_map bare) same))
    (λ s. sym s ∙ ap (option_map bare) (sym same))

pub returns-then-not-is_named_alike : goal.returns-then-not-is_named_alike
returns-then-not-is_named_alike c =
    let a = node_at (rows_in c.args.old.now) c.args.number in
    let b = node_at (rows_in c.args.new.now) c.args.other in
    let kind = holds c.is_element.result c.is_element.ensures c.if-not-is_element.false in
    refuted c.is_named_alike.result c.is_named_alike.ensures c.if-not-is_named_alike.true
    (λ e. let it = changed_element (with_value c.args.key.now c.args.value.now) a b kind e in record { kind = it.kind; space = it.space; name = it.name })

pub returns : goal.returns
returns c =
    let a = node_at (rows_in c.args.old.now) c.args.number in
    let b = node_at (rows_in c.args.new.now) c.args.other in
    let f = with_value c.args.key.now c.args.value.now in
    let kind = holds c.is_element.result c.is_element.ensures c.if-not-is_element.false in
    let named = holds c.is_named_alike.result c.is_named_alike.ensures c.if-not-is_named_alike.false in
    confirmed c.are_with_value.result c.are_with_value.ensures
    (λ e. (changed_element f a b kind e).attributes ∙ sym c.attributes.ensures)
    (λ p. element_changed f a b kind (record { kind = named.kind; space = named.space; name = named.name; attributes = p ∙ c.attributes.ensures }))
