use Rattle.std.proofs.Common.{◌++◌, ◌∙◌, arith, rules, ap, sym, length, append-nil}
use Rattle.indexmap.specs.Drain.{drain_rest}
use Rattle.tl_inline.proofs.Lists.{moved_item}
use Rattle.tl_inline.proofs.inline.hashmap.heap.pair_table.list_of.Goals as goal

pub loop-pair-preserved : goal.loop-pair-preserved
loop-pair-preserved g c =
    let at = c.loop-pair in
    let step = c.in-Some.ensures.steps.0 in
    let put = c.push_reserved.ensures in
    let shorter = ap length step in
    let before = at.invariant.3 in (
      search rules,
      search rules,
      moved_item c.args.indexed.now.entries at.pairs.items c.push_reserved.new.self.items (drain_rest at.pair-iterator)
          (drain_rest c.next.new.self) c.in-Some.pair at.invariant.2 step put.items,
      omega (arith, shorter, before, put.len, put.capacity),
    )

pub returns : goal.returns
returns g c =
    let at = c.loop-pair in
    let none = c.in-None.ensures.steps.0 in
    let counted = ap length none in
    let before = at.invariant.3 in
    record {
      items = sym (append-nil at.pairs.items) ∙ ap (λ l. at.pairs.items ++ l) (sym none) ∙ at.invariant.2;
      room = omega (arith, counted, before);
      err = tt;
    }
