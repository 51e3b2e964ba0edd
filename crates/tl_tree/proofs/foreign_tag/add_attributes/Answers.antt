use Rattle.std.proofs.Common.{List, [], ap, arith, get_or, length, length-append, map, ◌∙◌, ◌∷◌}
use Rattle.tl_dom_spec.specs.Adjusted.{foreign_attribute}
use Rattle.tl_tree.proofs.ForeignTags.{attributes-put, entry-within, no_entry}
use Rattle.tl_tree.proofs.Grown.{grows_trans}
use Rattle.tl_tree.proofs.SaidTags.{attribute-kept}
use Rattle.tl_tree.specs.Inner.Lists.{many_in}
use Rattle.tl_tree.specs.Inner.Store.{entries_of, list_in, space_of}
use Rattle.tl_tree.specs.declared.entries.AttributeList.TheVariants.{Tags}
use Rattle.std.proofs.lemmas.List.{take_all}
use Rattle.tl_tree.proofs.AlikeTags.{entries-long}
use Rattle.tl_tree.proofs.Merged.{tag-kept}
use Rattle.tl_tree.specs.Inner.Said.{attributes_in}
use Rattle.tl_tree.specs.declared.entries.AttributeEntry.{AttributeEntry}
use Rattle.tl_tree.proofs.foreign_tag.add_attributes.Goals as goal

pub put_attribute-requires : goal.put_attribute-requires
put_attribute-requires c =
    let o = c.args.store.now in
    let s = c.loop-place.store in
    attribute-kept o s c.loop-place.invariant.grows (get_or c.attributes.result.now c.loop-place.place no_entry)
    (entry-within o s c.loop-place.invariant.grows c.args.tag c.requires c.attributes.result.now c.attributes.ensures c.loop-place.place c.loop-place-test.true)

pub loop-place-preserved : goal.loop-place-preserved
loop-place-preserved c =
    let o = c.args.store.now in
    let s = c.loop-place.store in
    let t = c.put_attribute.new.store in
    let u = c.add_attribute.new.self in
    let own = c.loop-place.invariant in
    let many = own.many in
    let same = ap (λ lists. many_in lists Tags) c.put_attribute.ensures.attributes in
    let one = ap length c.in_ok-add_attribute.ensures.stands ∙ length-append (list_in t Tags) (c.in_ok-put.put ∷ []) in
    record {
      stands = attributes-put o s t u own.grows (grows_trans s t u c.put_attribute.ensures.grows c.add_attribute.ensures.grows) c.add_attribute.ensures.grows
          c.args.tag c.requires c.loop-place.place c.loop-place-test.true (foreign_attribute (space_of c.args.space)) own.stands
          c.attributes.result.now c.attributes.ensures c.in_ok-put.put c.in_ok-put.ensures.within c.in_ok-put.ensures.stands
          c.put_attribute.ensures.attributes c.in_ok-add_attribute.ensures.stands;
      many = omega arith;
      grows = grows_trans o s u own.grows (grows_trans s t u c.put_attribute.ensures.grows c.add_attribute.ensures.grows);
    }

pub attributes-requires : goal.attributes-requires
attributes-requires c =
    tag-kept c.args.store.now c.loop-place.store c.loop-place.invariant.grows c.args.tag c.requires

pub bounds-attributes-place : goal.bounds-attributes-place
bounds-attributes-place c =
    let s = c.loop-place.store in
    let tag = c.args.tag in
    let long = entries-long s tag (tag-kept c.args.store.now s c.loop-place.invariant.grows tag c.requires) in
    let same = ap length c.attributes.ensures in
    omega (arith, long, same, c.loop-place-test.true)

pub returns-in_err-put-clause-grows : goal.returns-in_err-put-clause-grows
returns-in_err-put-clause-grows c =
    grows_trans c.args.store.now c.loop-place.store c.put_attribute.new.store c.loop-place.invariant.grows c.put_attribute.ensures.grows

pub returns-in_err-add_attribute-clause-grows : goal.returns-in_err-add_attribute-clause-grows
returns-in_err-add_attribute-clause-grows c =
    let o = c.args.store.now in
    let t = c.put_attribute.new.store in
    grows_trans o t c.add_attribute.new.self (grows_trans o c.loop-place.store t c.loop-place.invariant.grows c.put_attribute.ensures.grows) c.add_attribute.ensures.grows

pub returns-clause-stands : goal.returns-clause-stands
returns-clause-stands c =
    let o = c.args.store.now in
    let tag = c.args.tag in
    let end = c.loop-place-test.false in
    let long = entries-long o tag c.requires in
    c.loop-place.invariant.stands
    ∙ ap (λ (xs : List AttributeEntry). map (foreign_attribute (space_of c.args.space)) (attributes_in o xs))
    (take_all c.loop-place.place (entries_of o tag) (omega arith))

pub returns-clause-grows : goal.returns-clause-grows
returns-clause-grows c = c.loop-place.invariant.grows
