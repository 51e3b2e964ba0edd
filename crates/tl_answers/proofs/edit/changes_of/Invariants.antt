use Rattle.std.proofs.Common.{◌≡◌, map, take}
use Rattle.tl_answers.specs.Rewritten.{sets_of}
use Rattle.tl_patch_select.specs.Nodes.{change_of}
use Rattle.tl_values.specs.NewValues.{got}
use Rattle.tl_answers.proofs.edit.changes_of.Given as goal

-- the changes are those of the values so far
abbrev pub invariant-loop-new : goal.invariant-loop-new
invariant-loop-new l = map change_of l.changes.items ≡ sets_of l.key (map got (take l.new-index l.values))
