use Rattle.std.proofs.Common.{ap, sym, subst, is_some}
use Rattle.std.specs.List.{IsDistinct}
use Rattle.std.specs.Map.{keys_of}
use Rattle.tl_spec.proofs.Tree.Pairs.{distinct_insert}
use Rattle.tl_inline.proofs.Maps.{replaced}
use Rattle.tl_inline.proofs.inline.hashmap.storage.replace.Goals as goal

pub returns-in-Some-clause-variant : goal.returns-in-Some-clause-variant
returns-in-Some-clause-variant g c =
    let found = rw c.as_slice.ensures.value at c.in-Some.ensures.value (c.args.key.now, c.args.value) in
    sym (ap is_some found)

pub returns-in-Some-clause-ok : goal.returns-in-Some-clause-ok
returns-in-Some-clause-ok g c =
    replaced g.K.PartialEq.eq c.args.inline.now.items c.put_value.new.pairs c.args.key.now c.args.value c.in-Some.i
    (rw c.as_slice.ensures.value at c.in-Some.ensures.index) (rw c.as_mut_slice.ensures.value at c.put_value.ensures)

pub returns-in-Some-clause-unique : goal.returns-in-Some-clause-unique
returns-in-Some-clause-unique g c =
    let e = replaced g.K.PartialEq.eq c.args.inline.now.items c.put_value.new.pairs c.args.key.now c.args.value c.in-Some.i
    (rw c.as_slice.ensures.value at c.in-Some.ensures.index) (rw c.as_mut_slice.ensures.value at c.put_value.ensures) in
    λ s. subst (λ l. IsDistinct g.K.PartialEq.eq (keys_of l)) (sym e)
    (distinct_insert g.K.PartialEq.eq g.met.K.Eq.laws c.args.inline.now.items c.args.key.now c.args.value s)
