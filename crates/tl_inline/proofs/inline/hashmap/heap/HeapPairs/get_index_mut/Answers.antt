use borrow.Follows.Closed.{read_of}
use Rattle.std.specs.Option.{ghost_name_of}
use Rattle.tl_inline.specs.Inner.HeapForm.{form_entries}
use Rattle.tl_inline.proofs.HeapFormLemmas.{distinct_with_value, entries_with_value}
use Rattle.tl_inline.proofs.inline.hashmap.heap.HeapPairs.get_index_mut.Goals as goal

pub invariant_of-self-lent : goal.invariant_of-self-lent
invariant_of-self-lent g c =
    λ _. (λ w. distinct_with_value g.K.PartialEq.eq c.self.inside.form c.args.index w c.self.invariant, c.self.invariant)

pub returns : goal.returns
returns g c =
    let f = c.self.inside.form in
    let i = c.args.index in
    rw (← c.self.view_is) (
      λ t. read_of (ghost_name_of c.value_at_mut.result) (λ (w : g.row.V.Denot). entries_with_value f i w t) (form_entries f),
      record { writes_back = tt; value = c.value_at_mut.ensures.value },
    )
