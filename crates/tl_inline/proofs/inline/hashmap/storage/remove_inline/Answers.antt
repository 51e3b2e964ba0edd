use Rattle.tl_inline.proofs.Maps.{not_removed}
use Rattle.std.proofs.Common.{Some, ap, sym, ◌∙◌}
use Rattle.tl_inline.proofs.Maps.{swap_removed, distinct_removed}
use Rattle.tl_inline.proofs.inline.hashmap.storage.remove_inline.Goals as goal

pub returns-in-Some-clause-entries : goal.returns-in-Some-clause-entries
returns-in-Some-clause-entries g c =
    swap_removed (g.K.PartialEq.eq c.args.key.now) c.args.inline.now.items c.swap_remove-value.new.self.items c.in-Some.i _
    (rw c.as_slice.ensures.value at c.in-Some.ensures.index) c.swap_remove-value.ensures.items

pub returns-in-Some-clause-unique : goal.returns-in-Some-clause-unique
returns-in-Some-clause-unique g c =
    let after = swap_removed (g.K.PartialEq.eq c.args.key.now) c.args.inline.now.items c.swap_remove-value.new.self.items c.in-Some.i _
    (rw c.as_slice.ensures.value at c.in-Some.ensures.index) c.swap_remove-value.ensures.items in
    distinct_removed g.K.PartialEq.eq g.met.K.Eq.laws c.args.inline.now.items c.swap_remove-value.new.self.items c.args.key.now after

pub returns-in-Some-clause-value : goal.returns-in-Some-clause-value
returns-in-Some-clause-value g c =
    let found = rw c.as_slice.ensures.value at c.in-Some.ensures.value c.swap_remove-value.result in
    ap (λ (p : g.row.K.Denot × g.row.V.Denot). Some p.1) c.swap_remove-value.ensures.value ∙ sym found

pub returns-in-None : goal.returns-in-None
returns-in-None g c =
    record {
      value = sym (rw c.as_slice.ensures.value at c.in-None.ensures.absent);
      entries = not_removed (g.K.PartialEq.eq c.args.key.now) c.args.inline.now.items (rw c.as_slice.ensures.value at c.in-None.ensures.index);
      unique = λ s. s;
    }
