use borrow.Follows.Closed.{read_of}
use Rattle.std.proofs.Common.{refl}
use Rattle.std.specs.Option.{ghost_name_of, option_copied_mut}
use Rattle.tl_inline.specs.Inner.PairStorage.{storage_view}
use Rattle.tl_inline.proofs.Maps.{value-at_place, no_value-at_place}
use Rattle.tl_inline.proofs.PairStorageLemmas.{distinct_with_value, view_with_value}
use Rattle.tl_inline.proofs.inline.hashmap.InlineHashMap.get_mut.Goals as goal

pub invariant_of-self-lent : goal.invariant_of-self-lent
invariant_of-self-lent g c =
    λ _. (λ w. distinct_with_value g.K.PartialEq.eq c.self.inside.held c.in-Some.i w c.self.invariant, c.self.invariant)

pub returns-in-Some : goal.returns-in-Some
returns-in-Some g c =
    let h = c.self.inside.held in
    let k = c.args.key.now in
    let i = c.in-Some.i in
    let index = c.in-Some.ensures.index in
    rw (← c.self.view_is) (
      λ t. read_of (ghost_name_of c.value_at_mut.result) (λ (w : g.row.V.Denot). view_with_value g.K.PartialEq.eq h k i index w t) (storage_view h),
      record {
        writes_back = tt;
        value = value-at_place (g.K.PartialEq.eq k) (storage_view h).entries i (option_copied_mut c.value_at_mut.result) index c.value_at_mut.ensures.value;
      },
    )

pub returns-in-None : goal.returns-in-None
returns-in-None g c =
    let t = g.K.PartialEq.eq c.args.key.now in
    let value = no_value-at_place t (storage_view c.self.inside.held).entries c.in-None.ensures.index in
    rw (← c.self.view_is) (refl, record { writes_back = tt; value = value })
