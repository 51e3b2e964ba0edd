use Rattle.std.proofs.Common.{arith, ap, ◌∙◌, refl, slice_index_or, []}
use Rattle.tl_safe_fit.specs.Linked.{slot_of}
use Rattle.tl_safe_fit.specs.declared.words.row.Row.{Row}
use Rattle.tl_safe_fit.proofs.Found.{pushed, words_more}
use Rattle.tl_safe_fit.proofs.words.index.WordIndex.new.Goals as goal

pub loop-word-preserved : goal.loop-word-preserved
loop-word-preserved c =
    let own = c.loop-word in
    let word = slice_index_or c.args.words.now own.word-index (record { ref_ptr = (0, 0); now = [] }) in
    let row : Row = record { word = word; before = c.index-before.result.now } in (
      pushed own.rows.items own.heads.items row c.push.new.self.items c.slot_of-slot.result c.len.result own.invariant.0
          c.in_ok-push.ensures.items (c.slot_of-slot.ensures.is ∙ ap slot_of c.as_bytes.ensures.value) c.slot_of-slot.ensures.within c.index-before.ensures (omega arith),
      words_more c.args.words.now own.rows.items row c.push.new.self.items own.word-index (record { ref_ptr = (0, 0); now = [] }) (omega arith) own.invariant.1
          c.in_ok-push.ensures.items refl,
    )
