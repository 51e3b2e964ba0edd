use Rattle.std.proofs.Common.{drop, ◌≡◌}
use Rattle.std.specs.List.{list_all}
use Rattle.tl_tree_safe.specs.Classes.{is_plain_space}
use Rattle.tl_tree_safe.proofs.classes.has_spaces_alone.Given as goal

abbrev pub invariant-loop-byte : goal.invariant-loop-byte
invariant-loop-byte l = list_all is_plain_space l.value ≡ list_all is_plain_space (drop l.byte-index l.value)
