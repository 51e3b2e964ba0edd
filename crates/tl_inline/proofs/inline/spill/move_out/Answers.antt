use Rattle.std.proofs.Common.{◌++◌, ◌∙◌, arith, rules, ap, sym, length, append-nil}
use Rattle.arrayvec.specs.Iter.{drain_items}
use Rattle.tl_inline.proofs.Lists.{moved_item}
use Rattle.tl_inline.proofs.inline.spill.move_out.Goals as goal

pub loop-item-preserved : goal.loop-item-preserved
loop-item-preserved g c =
    let at = c.loop-item in
    let step = c.in-Some.ensures.steps.0 in
    let put = c.push_reserved.ensures in
    let shorter = ap length step in
    let before = at.invariant.3 in (
      search rules,
      search rules,
      moved_item c.args.inline.now.items at.heap.items c.push_reserved.new.self.items (drain_items at.item-iterator)
          (drain_items c.next.new.self) c.in-Some.item at.invariant.2 step put.items,
      omega (arith, shorter, before, put.len, put.capacity),
    )

pub returns : goal.returns
returns g c =
    let at = c.loop-item in
    let none = c.in-None.ensures.steps.0 in
    let counted = ap length none in
    let before = at.invariant.3 in
    record {
      items = sym (append-nil at.heap.items) ∙ ap (λ l. at.heap.items ++ l) (sym none) ∙ at.invariant.2;
      room = omega (arith, counted, before);
      err = tt;
    }
