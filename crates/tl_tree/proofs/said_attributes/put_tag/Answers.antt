use Rattle.tl_tree.proofs.SaidTags.{tag-put}
use Rattle.tl_tree.proofs.said_attributes.put_tag.Goals as goal

pub returns-clause-stands : goal.returns-clause-stands
returns-clause-stands c =
    tag-put c.args.store.now c.add_attributes.new.store c.add_attributes.ensures.grows c.args.name c.requires.name
    c.args.attributes.now c.requires.attributes c.in_ok-add_attributes.ensures.stands
    _ _ c.attribute_count-first_attribute.ensures c.attribute_count.ensures
