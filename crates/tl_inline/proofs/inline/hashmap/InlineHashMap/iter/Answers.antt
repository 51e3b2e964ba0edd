use Rattle.std.proofs.Common.{arith}
use Rattle.std.proofs.Common.{◌∙◌}
use Rattle.std.specs.Map.Iter.{deref_pair}
use Rattle.tl_inline.proofs.Lists.{shows_in_order}
use Rattle.tl_inline.proofs.PairStorageLemmas.{distinct_in_view}
use Rattle.tl_inline.proofs.inline.hashmap.InlineHashMap.iter.Goals as goal

pub returns-in-Inline-clause-runs : goal.returns-in-Inline-clause-runs
returns-in-Inline-clause-runs g c = shows_in_order deref_pair

pub returns-in-Heap-clause-runs : goal.returns-in-Heap-clause-runs
returns-in-Heap-clause-runs g c = shows_in_order deref_pair

pub returns-in-Inline-clause-unique : goal.returns-in-Inline-clause-unique
returns-in-Inline-clause-unique g c = distinct_in_view g.K.PartialEq.eq c.self.inside.held c.args.self.now c.self.view_is c.self.invariant

pub returns-in-Heap-clause-unique : goal.returns-in-Heap-clause-unique
returns-in-Heap-clause-unique g c = distinct_in_view g.K.PartialEq.eq c.self.inside.held c.args.self.now c.self.view_is c.self.invariant

pub returns-in-Inline-clause-rest : goal.returns-in-Inline-clause-rest
returns-in-Inline-clause-rest g c = rw (← c.self.view_is, c.in-Inline.is) (c.iter.ensures.rest ∙ c.as_slice.ensures.value)

pub returns-in-Heap-clause-rest : goal.returns-in-Heap-clause-rest
returns-in-Heap-clause-rest g c = rw (← c.self.view_is, c.in-Heap.is) c.iter-in-Heap.ensures.rest

pub returns-in-Inline-clause-fits : goal.returns-in-Inline-clause-fits
returns-in-Inline-clause-fits g c = rw (← c.self.view_is, c.in-Inline.is) (rw c.as_slice.ensures.value at c.as_slice.type_inv.0)

pub returns-in-Heap-clause-fits : goal.returns-in-Heap-clause-fits
returns-in-Heap-clause-fits g c = rw (← c.self.view_is, c.in-Heap.is) (omega (arith, c.iter-in-Heap.ensures.fits))
