use Rattle.std.proofs.Common.{take, ◌++◌, ◌≡◌}
use Rattle.tl_tree_safe.specs.ShownNames.{shown}
use Rattle.tl_tree_safe.proofs.shown_names.put_shown.Given as goal

-- what was written is shown of the bytes so far
abbrev pub invariant-loop-byte : goal.invariant-loop-byte
invariant-loop-byte l = l.out.items ≡ l.fn.out.items ++ shown (take l.byte-index l.name)
