use Rattle.std.proofs.Common.{◌≡◌, ◌+◌, ◌*◌, ◌≤◌, None, length, map}
use Rattle.std.specs.List.{All}
use Rattle.tl_spec.specs.Select.Selector.{Selector}
use Rattle.tl_selector.specs.NodeSet.{AreMarks}
use Rattle.tl_selector.specs.Spine.{nested_in, selectors}
use Rattle.tl_selector.specs.View.{selector}
use Rattle.tl_selector.specs.declared.selector.Selector.{size-Selector}
use Rattle.tl_selector.proofs.node_set.+marks.Given as goal

abbrev pub decreases-marks : goal.decreases-marks
decreases-marks g l = 3 * goal.size-marks g l + 2

abbrev pub decreases-marks_of_all : goal.decreases-marks_of_all
decreases-marks_of_all g l = 3 * goal.size-marks_of_all g l + 1

abbrev pub decreases-marks_around : goal.decreases-marks_around
decreases-marks_around g l = 3 * goal.size-marks_around g l

abbrev pub invariant-marks_of_all-outwards : goal.invariant-marks_of_all-outwards
invariant-marks_of_all-outwards g l = record {
  marked : (s : Selector) × (nested_in (selectors l.wholes.items) s ≡ selector l.e) × AreMarks None s (map g.N.Element.node l.nodes) l.marks.items;
  depth : All (λ x. size-Selector x.now ≤ size-Selector l.e) l.wholes.items;
}

abbrev pub decreases-marks_of_all-outwards : goal.decreases-marks_of_all-outwards
decreases-marks_of_all-outwards g l = length l.wholes.items
