use Rattle.std.proofs.Common.{◌≡◌, ◌≤◌}
use Rattle.tl_spec.specs.Select.Meaning.{has_combinator}
use Rattle.tl_selector.specs.View.{selector}
use Rattle.tl_selector.specs.declared.selector.Selector.{size-Selector}
use Rattle.tl_selector.proofs.selector.spine.+has_combinator.Given as goal

abbrev pub invariant-sides : goal.invariant-sides
invariant-sides l = record {
  same : has_combinator (selector l.whole) ≡ has_combinator (selector l.e);
  depth : size-Selector l.whole ≤ size-Selector l.e;
}
