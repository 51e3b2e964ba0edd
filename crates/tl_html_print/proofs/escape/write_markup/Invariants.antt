use Rattle.std.proofs.Common.{false, length, ◌++◌, ◌≡◌}
use Rattle.std.specs.Prelude.{flat_map}
use Rattle.tl_html_print.specs.Serialized.{escape}
use Rattle.tl_html_print.proofs.escape.write_markup.Given as goal

abbrev pub invariant-loop-at : goal.invariant-loop-at
invariant-loop-at l = l.fn.out.items ++ flat_map (escape false) l.bytes ≡ l.out.items ++ flat_map (escape false) l.rest

abbrev pub decreases-loop-at : goal.decreases-loop-at
decreases-loop-at l = length l.rest
