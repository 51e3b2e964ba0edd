use Rattle.std.proofs.Common.{length, ◌++◌, ◌≡◌}
use Rattle.tl_tree_extract.specs.Flowing.{after_items, text_items, written}
use Rattle.tl_tree_extract.proofs.text.flow.Flow.put_runs.Given as goal

abbrev pub invariant-loop-flow : goal.invariant-loop-flow
invariant-loop-flow l = record {
  text : l.fn.out.items ++ written l.fn.self (text_items l.is_kept l.text) ≡ l.out.items ++ written l.flow (text_items l.is_kept l.rest);
  flow : after_items l.fn.self (text_items l.is_kept l.text) ≡ after_items l.flow (text_items l.is_kept l.rest);
}

abbrev pub decreases-loop-flow : goal.decreases-loop-flow
decreases-loop-flow l = length l.rest
