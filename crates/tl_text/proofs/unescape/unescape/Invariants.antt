use Rattle.std.proofs.Common.{◌≡◌, ◌++◌, length}
use Rattle.tl_html_spec.specs.Unescaped.{unescaped}
use Rattle.tl_text.proofs.unescape.unescape.Given as goal

abbrev pub invariant-loop-at : goal.invariant-loop-at
invariant-loop-at l = unescaped l.in_value l.bytes ≡ l.out.items ++ unescaped l.in_value l.rest

abbrev pub decreases-loop-at : goal.decreases-loop-at
decreases-loop-at l = length l.rest
