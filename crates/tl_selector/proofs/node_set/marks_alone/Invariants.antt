use Rattle.std.proofs.Common.{◌≡◌, ◌<◌, ◌&&◌, ℕ, false, length, map, slice_get}
use Rattle.std.specs.Option.{option_copied, option_map_or}
use Rattle.tl_spec.specs.Select.Search.{holds_alone}
use Rattle.tl_selector.specs.NodeSet.{is_among, is_at}
use Rattle.tl_selector.specs.View.{selector}
use Rattle.tl_selector.proofs.node_set.marks_alone.Given as goal

abbrev pub invariant-loop-number : goal.invariant-loop-number
invariant-loop-number g l = record {
  len : length l.marks.items ≡ l.number;
  held : (n : ℕ) → n < l.number → is_at l.marks.items n ≡ (is_among (option_copied l.among) n && option_map_or (holds_alone (selector l.e)) (slice_get (map g.N.Element.node l.nodes) n) false);
}
