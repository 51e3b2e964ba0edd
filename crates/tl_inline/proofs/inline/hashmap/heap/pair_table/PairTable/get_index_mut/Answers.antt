use Rattle.std.proofs.Common.{◌<◌, refl, subst, sym}
use Rattle.std.specs.List.{IsDistinct}
use Rattle.tl_inline.specs.Places.{AllowsKeys}
use Rattle.tl_inline.proofs.Maps.{lent_same, set-part, value_at, no_value_at}
use Rattle.tl_inline.proofs.PlacesLemmas.{keys_written}
use Rattle.tl_inline.proofs.inline.hashmap.heap.pair_table.PairTable.get_index_mut.Goals as goal

pub invariant_of-self-lent : goal.invariant_of-self-lent
invariant_of-self-lent g c =
    let kept = λ (w : g.row.V.Denot). sym (keys_written g.K.PartialEq.eq c.self.inside.pairs.items c.args.index c.in-Some.pair.now w c.in-Some.ensures.value) in
    λ w. (
      subst (λ l. IsDistinct g.K.PartialEq.eq l) (kept w) c.self.invariant.0,
      subst (λ l. AllowsKeys g.K.Hash.hash_input c.self.inside.places l) (kept w) c.self.invariant.1,
    )

pub returns-in-Some : goal.returns-in-Some
returns-in-Some g c =
    let v = c.self.inside.pairs in
    let i = c.args.index in
    let x = c.in-Some.pair.now in
    let e = c.in-Some.ensures in
    let within = e.variant.0 refl in
    rw (← c.self.view_is) (
      lent_same _ _ _ (λ w. set-part v.items i x w e.value),
      record { writes_back = tt; value = value_at v.items i x e.value (subst (λ n. i < n) v.ok.0 within) },
    )

pub returns-in-None : goal.returns-in-None
returns-in-None g c =
    rw (← c.self.view_is) (refl, record { writes_back = tt; value = no_value_at c.self.inside.pairs.items c.args.index c.in-None.ensures.item.3 })
