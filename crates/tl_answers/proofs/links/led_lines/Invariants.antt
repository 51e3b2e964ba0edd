use Rattle.std.proofs.Common.{flat_map, map, take, ◌≡◌}
use Rattle.tl_answers.specs.LinkLines.{meant_line}
use Rattle.tl_tree_extract.specs.Links.{link_said}
use Rattle.tl_answers.proofs.links.led_lines.Given as goal

-- the lines are those of the links so far
abbrev pub invariant-loop-link : goal.invariant-loop-link
invariant-loop-link l =
    l.lines.items
    ≡ flat_map (meant_line (map (λ key. key.now) l.keys) l.from.hosts l.from.page.now l.base l.end)
    (map link_said (take l.link-index l.link-items))
