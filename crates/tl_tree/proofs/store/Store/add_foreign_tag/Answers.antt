use Rattle.std.proofs.Common.{arith, ◌∙◌}
use Rattle.std.proofs.lemmas.Result.{IfOk-weaker}
use Rattle.tl_tree.proofs.ForeignTags.{tag-put}
use Rattle.tl_tree.specs.Inner.Store.{bytes_of}
use Rattle.tl_tree.proofs.Grown.{grows_trans}
use Rattle.tl_tree.proofs.Merged.{tag-kept}
use Rattle.tl_tree.proofs.SaidTags.{span-kept}
use Rattle.tl_tree.proofs.Looped.{name-there, tag-there}
use Rattle.tl_tree.specs.declared.entries.AttributeList.TheVariants.{Tags}
use Rattle.tl_tree.proofs.store.Store.add_foreign_tag.Goals as goal

pub returns-clause-stands : goal.returns-clause-stands
returns-clause-stands c =
    let s = c.args.self.now in
    let t = c.put_cased.new.store in
    let u = c.add_attributes.new.store in
    IfOk-weaker c.add_tag.result _ _
    (λ n is. is
    ∙ tag-put s t u c.put_cased.ensures.grows c.add_attributes.ensures.grows c.args.tag c.tag-own.result c.tag-own.ensures.within c.tag-own.ensures.stands
    c.args.space c.args.is_renamed c.in_ok-name.name c.in_ok-name.ensures.within
    (c.in_ok-name.ensures.stands ∙ c.name_words.ensures (bytes_of s c.tag-own.result.name))
    c.attribute_count-first_attribute.result c.attribute_count-first_attribute.ensures c.in_ok-add_attributes.ensures.many c.in_ok-add_attributes.ensures.stands)
    c.add_tag.ensures.stands

pub tag-own-requires : goal.tag-own-requires
tag-own-requires c = c.requires

pub put_cased-requires : goal.put_cased-requires
put_cased-requires c = name-there c.args.self.now c.tag-own.result c.tag-own.ensures.within

pub add_attributes-requires : goal.add_attributes-requires
add_attributes-requires c =
    tag-kept c.args.self.now c.put_cased.new.store c.put_cased.ensures.grows c.tag-own.result c.tag-own.ensures.within

pub add_tag-requires : goal.add_tag-requires
add_tag-requires c =
    let t = c.put_cased.new.store in
    let u = c.add_attributes.new.store in
    let own = c.tag-own.result in
    let first = c.attribute_count-first_attribute.result in
    tag-there u c.in_ok-name.name first own.attribute_count Tags (span-kept t u c.add_attributes.ensures.grows c.in_ok-name.name c.in_ok-name.ensures.within)
    (omega (arith, c.attribute_count-first_attribute.ensures, c.in_ok-add_attributes.ensures.many))

pub returns-in_err-add_attributes-clause-grows : goal.returns-in_err-add_attributes-clause-grows
returns-in_err-add_attributes-clause-grows c =
    grows_trans c.args.self.now c.put_cased.new.store c.add_attributes.new.store c.put_cased.ensures.grows c.add_attributes.ensures.grows

pub returns-clause-grows : goal.returns-clause-grows
returns-clause-grows c =
    let s = c.args.self.now in
    let u = c.add_attributes.new.store in
    grows_trans s u c.add_tag.new.self (grows_trans s c.put_cased.new.store u c.put_cased.ensures.grows c.add_attributes.ensures.grows) c.add_tag.ensures.grows
