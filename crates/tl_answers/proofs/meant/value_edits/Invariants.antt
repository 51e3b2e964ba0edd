use Rattle.std.proofs.Common.{◌≡◌, map, take}
use Rattle.tl_answers.specs.Meant.{value_edit}
use Rattle.tl_tree_edit.specs.View.{edits_of}
use Rattle.tl_values.specs.NewValues.{got}
use Rattle.tl_answers.proofs.meant.value_edits.Given as goal

-- the edits are those of the values so far
abbrev pub invariant-loop-new : goal.invariant-loop-new
invariant-loop-new l = edits_of l.edits.items ≡ map (value_edit l.key) (map got (take l.new-index l.values))
