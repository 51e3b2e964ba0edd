use Rattle.tl_tree.proofs.Contexts.{one-more}
use Rattle.tl_tree.proofs.Grown.{grows_trans}
use Rattle.tl_tree.specs.Contexts.{attribute_in}
use Rattle.tl_tree.specs.Inner.Said.{attributes_in}
use Rattle.tl_tree.specs.Inner.Store.{list_in}
use Rattle.tl_tree.specs.declared.entries.AttributeList.TheVariants.{Tags}
use Rattle.tl_tree.proofs.context_tag.add_attributes.Goals as goal

pub loop-key-preserved : goal.loop-key-preserved
loop-key-preserved c =
    let o = c.args.store.now in
    let s = c.loop-key.store in
    let u = c.add_attribute.new.store in
    let own = c.loop-key.invariant in
    record {
      stands = one-more attribute_in (attributes_in o (list_in o Tags)) (attributes_in s (list_in s Tags)) (attributes_in u (list_in u Tags))
          c.args.attributes.now c.loop-key.key-index _ c.loop-key-test.true own.stands c.in_ok-add_attribute.ensures.stands;
      grows = grows_trans o s u own.grows c.add_attribute.ensures.grows;
    }
