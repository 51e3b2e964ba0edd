use Rattle.std.proofs.Common.{drop, ◌≡◌}
use Rattle.std.specs.List.{list_any}
use Rattle.tl_tree_extract.specs.Fields.{is_escaped}
use Rattle.tl_tree_extract.proofs.column.has_escaped.Given as goal

abbrev pub invariant-loop-byte : goal.invariant-loop-byte
invariant-loop-byte l = list_any is_escaped l.value ≡ list_any is_escaped (drop l.byte-index l.value)
