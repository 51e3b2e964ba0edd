use Rattle.std.proofs.Common.{◌++◌, ◌∙◌, arith, rules, ap, sym, length, append-nil}
use Rattle.arrayvec.specs.Iter.{drain_items}
use Rattle.tl_inline.proofs.Maps.{moved_one}
use Rattle.tl_inline.proofs.inline.hashmap.heap.form.map_of.Goals as goal

pub loop-key-preserved : goal.loop-key-preserved
loop-key-preserved g c =
    let at = c.loop-key in
    let step = c.in-Some.ensures.steps.0 in
    let put = c.put_in_room.ensures in
    let shorter = ap length step in
    let before = at.invariant.3 in (
      search rules,
      search rules,
      moved_one g.K.PartialEq.eq g.met.K.Eq.laws c.args.inline.now.items at.indexed.entries c.put_in_room.new.indexed.entries
          (drain_items at.key-iterator) (drain_items c.next.new.self) c.in-Some.key c.in-Some.value c.requires at.invariant.2 step put.entries,
      omega (arith, shorter, before, put.room),
    )

pub returns : goal.returns
returns g c =
    let at = c.loop-key in
    let none = c.in-None.ensures.steps.0 in
    let counted = ap length none in
    let before = at.invariant.3 in
    record {
      entries = sym (append-nil at.indexed.entries) ∙ ap (λ l. at.indexed.entries ++ l) (sym none) ∙ at.invariant.2;
      room = omega (arith, counted, before);
      err = tt;
    }
