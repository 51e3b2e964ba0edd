use Rattle.std.proofs.Common.{◌≡◌, false, take}
use Rattle.std.specs.List.{list_any}
use Rattle.tl_tree_select.specs.Inner.Kin.{follows}
use Rattle.tl_tree_select.proofs.kin.needs.Given as goal

abbrev pub invariant-loop-step : goal.invariant-loop-step
invariant-loop-step l = list_any (follows l.link) (take l.step-index l.steps) ≡ false
