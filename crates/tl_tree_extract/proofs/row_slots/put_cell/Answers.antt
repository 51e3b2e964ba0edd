use Rattle.std.proofs.Common.{ap, arith, get_or, if◌then◌else◌, length, ℕ, ◌<◌, ◌==◌, ◌∙◌, ◌≡◌}
use Rattle.tl_tree_extract.proofs.Slots.{cover_end, cover_step}
use Rattle.tl_tree_extract.proofs.row_slots.put_cell.Goals as goal

pub loop-column-preserved : goal.loop-column-preserved
loop-column-preserved c =
    let size : length c.loop-column.slots ≡ length c.args.slots.now = c.loop-column.invariant.size in
    record {
      size = c.put_slot.ensures.length ∙ size;
      here = λ k lt.
          let below : k < length c.loop-column.slots = omega (arith, size, lt) in
          c.put_slot.ensures.here k below
          ∙ ap (λ (v : ℕ). if k == c.loop-column.column then c.args.index else v) (c.loop-column.invariant.here k lt)
          ∙ cover_step c.args.cell.left c.loop-column.column k c.args.index (get_or c.args.slots.now k 0) c.loop-column.auto.column;
      ended = λ past. omega (arith, past);
    }

pub returns-clause-here : goal.returns-clause-here
returns-clause-here c = λ k lt.
    c.loop-column.invariant.here k lt
    ∙ cover_end c.args.cell.left c.args.cell.right c.loop-column.column k c.args.index (get_or c.args.slots.now k 0) c.loop-column-test.false c.loop-column.invariant.ended
