use Rattle.std.proofs.Common.{◌<◌, length, Some, arith, subst, sym, ap}
use Rattle.tl_inline.proofs.Maps.{first_of_list, swap_removed, distinct_removed, value-at_place}
use Rattle.tl_inline.proofs.inline.hashmap.heap.pair_table.PairTable.swap_remove.Goals as goal

pub invariant_of-self : goal.invariant_of-self
invariant_of-self g c =
    let es = c.self.inside.pairs.items in
    let fs = c.remove_at.new.pairs.items in
    let e = rw (← c.self.view_is) at c.in_ok-i.ensures in
    let p = first_of_list es (omega (arith, e.within)) in
    let after = swap_removed (g.K.PartialEq.eq c.args.key.now) es fs c.in_ok-i.i p e.index (c.remove_at.ensures.items p) in
    (distinct_removed g.K.PartialEq.eq g.met.K.Eq.laws es fs c.args.key.now after c.self.invariant.0, c.remove_at.ensures.allowed)

pub returns-clause-value : goal.returns-clause-value
returns-clause-value g c =
    let e = rw (← c.self.view_is) at c.in_ok-i.ensures in
    rw (← c.self.view_is) (value-at_place (g.K.PartialEq.eq c.args.key.now) c.self.inside.pairs.items c.in_ok-i.i (Some c.remove_at.result) e.index c.remove_at.ensures.value)

pub returns-clause-entries : goal.returns-clause-entries
returns-clause-entries g c =
    let es = c.self.inside.pairs.items in
    let e = rw (← c.self.view_is) at c.in_ok-i.ensures in
    let p = first_of_list es (omega (arith, e.within)) in
    rw (← c.self.view_is) (swap_removed (g.K.PartialEq.eq c.args.key.now) es c.remove_at.new.pairs.items c.in_ok-i.i p e.index (c.remove_at.ensures.items p))

pub returns-clause-unique : goal.returns-clause-unique
returns-clause-unique g c =
    let es = c.self.inside.pairs.items in
    let fs = c.remove_at.new.pairs.items in
    let e = rw (← c.self.view_is) at c.in_ok-i.ensures in
    let p = first_of_list es (omega (arith, e.within)) in
    let after = swap_removed (g.K.PartialEq.eq c.args.key.now) es fs c.in_ok-i.i p e.index (c.remove_at.ensures.items p) in
    distinct_removed g.K.PartialEq.eq g.met.K.Eq.laws es fs c.args.key.now after c.self.invariant.0
