use Rattle.std.proofs.Common.{false, length, ◌++◌, ◌≡◌}
use Rattle.tl_tree_extract.specs.Flowing.{after_items, text_items, written}
use Rattle.tl_tree_extract.proofs.text.flow.Flow.put_collapsed.Given as goal

abbrev pub invariant-loop-words : goal.invariant-loop-words
invariant-loop-words l = record {
  text : l.fn.out.items ++ written l.fn.self (text_items false l.text) ≡ l.out.items ++ written l.flow (text_items false l.rest);
  flow : after_items l.fn.self (text_items false l.text) ≡ after_items l.flow (text_items false l.rest);
}

abbrev pub decreases-loop-words : goal.decreases-loop-words
decreases-loop-words l = length l.rest
