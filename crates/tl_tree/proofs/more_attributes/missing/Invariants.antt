use Rattle.std.proofs.Common.{filter, take, ◌≡◌}
use Rattle.tl_tree.specs.Inner.Merging.{is_missing}
use Rattle.tl_tree.proofs.more_attributes.missing.Given as goal

abbrev pub invariant-loop-attribute : goal.invariant-loop-attribute
invariant-loop-attribute l =
    l.found.items ≡ filter (is_missing l.store l.fn.own) (take l.attribute-index l.attribute-items)
