use Rattle.std.proofs.Common.{◌≡◌}
use Rattle.std.specs.List.{list_any}
use Rattle.tl_tree_edit.specs.Changes.{has_key}
use Rattle.tl_tree_edit.proofs.attributes.has_any.Given as goal

abbrev pub invariant-loop-own : goal.invariant-loop-own
invariant-loop-own l = list_any (has_key l.key) l.own-iterator ≡ list_any (has_key l.key) l.fn.attributes
