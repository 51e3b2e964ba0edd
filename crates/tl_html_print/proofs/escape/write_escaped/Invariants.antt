use Rattle.std.proofs.Common.{length, ◌++◌, ◌≡◌}
use Rattle.tl_html_print.specs.Serialized.{escaped}
use Rattle.tl_html_print.proofs.escape.write_escaped.Given as goal

abbrev pub invariant-loop-at : goal.invariant-loop-at
invariant-loop-at l = l.fn.out.items ++ escaped l.in_attribute l.characters ≡ l.out.items ++ escaped l.in_attribute l.rest

abbrev pub decreases-loop-at : goal.decreases-loop-at
decreases-loop-at l = length l.rest
