use Rattle.std.proofs.Common.{◌-◌, ◌≤◌, ◌&&◌, ℕ, length, map}
use Rattle.tl_spec.specs.Lookup.Scan.{PassesAt}
use Rattle.tl_spec.specs.Select.Search.{holds_alone}
use Rattle.tl_selector.specs.Spine.{others_hold}
use Rattle.tl_selector.specs.View.{selector}
use Rattle.tl_selector.proofs.matching.scan.first_alone.Given as goal

abbrev pub invariant-candidates : goal.invariant-candidates
invariant-candidates g l = record {
  none_before : (m : ℕ) → PassesAt (λ x. holds_alone (selector l.part) x && others_hold (selector l.e) x) (map g.N.Element.node l.nodes) m → l.from ≤ m;
}

abbrev pub decreases-candidates : goal.decreases-candidates
decreases-candidates g l = length l.nodes - l.from
