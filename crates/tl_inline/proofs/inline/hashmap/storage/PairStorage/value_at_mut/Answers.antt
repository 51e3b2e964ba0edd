use Rattle.std.proofs.Common.{ap, refl}
use Rattle.tl_inline.specs.declared.inline.hashmap.storage.PairStorage.TheVariants.{Inline}
use Rattle.tl_inline.proofs.Maps.{lent_same, set-part, value_at, no_value_at}
use Rattle.tl_inline.proofs.inline.hashmap.storage.PairStorage.value_at_mut.Goals as goal

pub returns-in-Some : goal.returns-in-Some
returns-in-Some g c =
    let e = rw c.in-Inline.is at c.in-Some.ensures in
    let es = c.in-Inline.inline.items in
    rw c.in-Inline.is (
      lent_same _ _ _ (λ w. ap (λ l. Inline (record { items = l })) (set-part es c.args.index c.in-Some.pair.now w e.value)),
      record { writes_back = tt; value = value_at es c.args.index c.in-Some.pair.now e.value (e.variant.0 refl) },
    )

pub returns-in-None : goal.returns-in-None
returns-in-None g c =
    let e = rw c.in-Inline.is at c.in-None.ensures in
    let es = c.in-Inline.inline.items in
    rw c.in-Inline.is (refl, record { writes_back = tt; value = no_value_at es c.args.index e.item.3 })
