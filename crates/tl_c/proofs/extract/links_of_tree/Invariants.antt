use Rattle.std.proofs.Common.{flat_map, map, take, ◌≡◌}
use Rattle.tl_tree_extract.specs.Links.{link_said}
use Rattle.tl_c.specs.Extracts.{link_bytes}
use Rattle.tl_c.proofs.extract.links_of_tree.Given as goal

-- the links so far are written
abbrev pub invariant-loop-link : goal.invariant-loop-link
invariant-loop-link l =
    l.out.items ≡ flat_map link_bytes (map link_said (take l.link-index l.link-items))
