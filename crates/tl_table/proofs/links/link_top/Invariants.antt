use Rattle.std.proofs.Common.{◌≡◌, drop}
use Rattle.tl_table.specs.Inner.Steps.{with_top}
use Rattle.tl_table.proofs.links.link_top.Given as goal

abbrev pub invariant-loop-place : goal.invariant-loop-place
invariant-loop-place l = with_top (drop l.place l.top) l.links.items ≡ with_top l.fn.top l.fn.links.items
