use Rattle.tl_tree.proofs.Looped.{entry-within}
use Rattle.tl_tree.proofs.alike.places_of.Goals as goal

pub put_place-requires : goal.put_place-requires
put_place-requires c =
    entry-within c.args.store.now c.args.tag c.attributes-attributes.result.now c.loop-place.place _ c.attributes-attributes.ensures c.loop-place-test.true
