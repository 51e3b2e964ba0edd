use Rattle.std.proofs.Common.{IsTrue, List, ap, subst, sym, ◌++◌, ◌∙◌}
use Rattle.std.specs.List.{list_all}
use Rattle.tl_tree.proofs.AlikeTags.{entries-within}
use Rattle.tl_tree.proofs.Merged.{copied-last, copied-tag}
use Rattle.tl_tree.specs.Inner.Store.{is_attribute}
use Rattle.tl_tree.specs.declared.entries.AttributeEntry.{AttributeEntry}
use Rattle.tl_tree.proofs.more_attributes.copied.Goals as goal

pub add_attributes-requires : goal.add_attributes-requires
add_attributes-requires c =
    let s = c.args.store.now in
    subst (λ (xs : List AttributeEntry). IsTrue (list_all (is_attribute s) xs))
    (sym (c.as_slice.ensures.value ∙ c.in_ok-extend_from_slice.ensures.items ∙ ap (λ (xs : List AttributeEntry). xs ++ c.attributes.result.now) c.new-own.ensures.items ∙ c.attributes.ensures)) (entries-within s c.args.tag)

pub returns-clause-stands : goal.returns-clause-stands
returns-clause-stands c =
    copied-tag c.args.store.now c.add_attributes.new.store c.add_attributes.ensures.grows c.args.list c.args.tag c.requires
    _ c.attribute_count-first_attribute.ensures c.as_slice.result.now
    (c.as_slice.ensures.value ∙ c.in_ok-extend_from_slice.ensures.items ∙ ap (λ (xs : List AttributeEntry). xs ++ c.attributes.result.now) c.new-own.ensures.items ∙ c.attributes.ensures) c.in_ok-add_attributes.ensures.stands

pub returns-clause-last : goal.returns-clause-last
returns-clause-last c =
    copied-last c.args.store.now c.add_attributes.new.store c.add_attributes.ensures.grows c.args.list c.args.tag c.requires
    _ c.attribute_count-first_attribute.ensures c.as_slice.result.now
    (c.as_slice.ensures.value ∙ c.in_ok-extend_from_slice.ensures.items ∙ ap (λ (xs : List AttributeEntry). xs ++ c.attributes.result.now) c.new-own.ensures.items ∙ c.attributes.ensures) c.in_ok-add_attributes.ensures.stands
