use Rattle.std.proofs.Common.{drop, ◌≡◌}
use Rattle.tl_html_print.specs.Pretty.{is_white}
use Rattle.tl_html_print.proofs.pretty.walk.is_blank.Given as goal

abbrev pub invariant-loop-byte : goal.invariant-loop-byte
invariant-loop-byte l = is_white l.bytes ≡ is_white (drop l.byte-index l.bytes)
