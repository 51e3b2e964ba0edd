use Rattle.std.proofs.Common.{arith, map, ◌-◌, ◌∙◌}
use Rattle.std.proofs.lemmas.Result.{IfOk-weaker}
use Rattle.tl_tree.proofs.Contexts.{tag-added}
use Rattle.tl_tree.specs.Contexts.{attribute_in}
use Rattle.tl_tree.proofs.Grown.{grows_trans}
use Rattle.tl_tree.proofs.SaidTags.{span-kept}
use Rattle.tl_tree.proofs.Looped.{list-longer, tag-there}
use Rattle.tl_tree.specs.declared.entries.AttributeList.TheVariants.{Tags}
use Rattle.tl_tree.proofs.store.Store.add_context_tag.Goals as goal

pub returns-clause-stands : goal.returns-clause-stands
returns-clause-stands c =
    let own = c.args.context in
    IfOk-weaker c.add_tag.result _ _
    (λ number is.
    is
    ∙ tag-added c.add_bytes.new.self c.add_attributes.new.store c.add_attributes.ensures.grows
    own.namespace c.in_ok-name.name c.in_ok-name.ensures.within own.name.now c.in_ok-name.ensures.stands
    (map attribute_in own.attributes.now) c.in_ok-add_attributes.ensures.stands
    c.attribute_count-first_attribute.result c.attribute_count.result c.attribute_count-first_attribute.ensures c.attribute_count.ensures)
    c.add_tag.ensures.stands

pub add_tag-requires : goal.add_tag-requires
add_tag-requires c =
    let t = c.add_bytes.new.self in
    let u = c.add_attributes.new.store in
    let longer = list-longer t u c.add_attributes.ensures.grows Tags in
    let first = c.attribute_count-first_attribute.result in
    tag-there u c.in_ok-name.name first (c.attribute_count.result - first) Tags (span-kept t u c.add_attributes.ensures.grows c.in_ok-name.name c.in_ok-name.ensures.within)
    (omega (arith, longer, c.attribute_count-first_attribute.ensures, c.attribute_count.ensures))

pub overflow_sub-attribute_count : goal.overflow_sub-attribute_count
overflow_sub-attribute_count c =
    let longer = list-longer c.add_bytes.new.self c.add_attributes.new.store c.add_attributes.ensures.grows Tags in
    omega (arith, longer, c.attribute_count-first_attribute.ensures, c.attribute_count.ensures)

pub returns-in_err-add_attributes-clause-grows : goal.returns-in_err-add_attributes-clause-grows
returns-in_err-add_attributes-clause-grows c =
    grows_trans c.args.self.now c.add_bytes.new.self c.add_attributes.new.store c.add_bytes.ensures.grows c.add_attributes.ensures.grows

pub returns-clause-grows : goal.returns-clause-grows
returns-clause-grows c =
    let s = c.args.self.now in
    let u = c.add_attributes.new.store in
    grows_trans s u c.add_tag.new.self (grows_trans s c.add_bytes.new.self u c.add_bytes.ensures.grows c.add_attributes.ensures.grows) c.add_tag.ensures.grows
