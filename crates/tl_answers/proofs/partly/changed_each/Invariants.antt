use Rattle.std.proofs.Common.{◌≡◌, map, take}
use Rattle.tl_answers.specs.Partly.{changed_each}
use Rattle.tl_patch.specs.PatchView.{change_view}
use Rattle.tl_patch_select.specs.Nodes.{change_of}
use Rattle.tl_answers.proofs.partly.changed_each.Given as goal

-- the changes are those of the tags so far
abbrev pub invariant-loop-number : goal.invariant-loop-number
invariant-loop-number l = map change_of l.changes.items ≡ changed_each (change_view l.change) (take l.number-index l.numbers)
