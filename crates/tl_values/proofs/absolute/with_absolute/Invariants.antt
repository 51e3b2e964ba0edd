use Rattle.std.proofs.Common.{drop, map, ◌++◌, ◌≡◌}
use Rattle.tl_tree_extract.specs.Links.{link_said}
use Rattle.tl_values.specs.Absolute.{absolute_from}
use Rattle.tl_values.specs.Inner.Absolute.{part_of}
use Rattle.tl_values.proofs.absolute.with_absolute.Given as goal

-- what was written, and then the rest with the links that are left, is all
abbrev pub invariant-loop-link : goal.invariant-loop-link
invariant-loop-link l =
    l.new.items ++ absolute_from l.base l.value l.from (map part_of (map link_said (drop l.link-index l.links)))
    ≡ absolute_from l.base l.value 0 (map part_of (map link_said l.links))
