use Rattle.std.proofs.Common.{◌≤◌, arith}
use Rattle.tl_inline.proofs.PairStorageLemmas.{distinct_in_view}
use Rattle.tl_inline.proofs.inline.hashmap.InlineHashMap.len.Goals as goal

pub returns-in-Inline-clause-unique : goal.returns-in-Inline-clause-unique
returns-in-Inline-clause-unique g c = distinct_in_view g.K.PartialEq.eq c.self.inside.held c.args.self.now c.self.view_is c.self.invariant

pub returns-in-Heap-clause-unique : goal.returns-in-Heap-clause-unique
returns-in-Heap-clause-unique g c = distinct_in_view g.K.PartialEq.eq c.self.inside.held c.args.self.now c.self.view_is c.self.invariant

pub returns-in-Inline-clause-value : goal.returns-in-Inline-clause-value
returns-in-Inline-clause-value g c = rw (← c.self.view_is, c.in-Inline.is) cc

pub returns-in-Inline-clause-inline : goal.returns-in-Inline-clause-inline
returns-in-Inline-clause-inline g c = λ _. omega arith

pub returns-in-Inline-clause-small : goal.returns-in-Inline-clause-small
returns-in-Inline-clause-small g c = λ h. let le : c.len.result ≤ g.row.N = c.len.ensures.fits in omega arith

pub returns-in-Heap-clause-value : goal.returns-in-Heap-clause-value
returns-in-Heap-clause-value g c = rw (← c.self.view_is, c.in-Heap.is) c.len-in-Heap.ensures.len

pub returns-in-Heap-clause-small : goal.returns-in-Heap-clause-small
returns-in-Heap-clause-small g c = λ _. c.len-in-Heap.ensures.small

pub returns-in-Heap-clause-inline : goal.returns-in-Heap-clause-inline
returns-in-Heap-clause-inline g c = rw (← c.self.view_is, c.in-Heap.is) (λ h. cc)
