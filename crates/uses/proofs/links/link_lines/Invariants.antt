use Rattle.std.proofs.Common.{flat_map, map, take, ◌≡◌}
use Rattle.tl_tree_extract.specs.Links.{Link, link_said}
use Rattle.uses.specs.Links.{link_line}
use Rattle.uses.proofs.links.link_lines.Given as goal

-- the lines are those of the links so far
abbrev pub invariant-loop-link : goal.invariant-loop-link
invariant-loop-link l =
    l.lines.items
    ≡ flat_map (λ (link : Link). link_line l.base link.part.bytes) (map link_said (take l.link-index l.link-items))
