use Rattle.std.proofs.Common.{◌≡◌}
use Rattle.tl_html_spec.specs.Balanced.{depth}
use Rattle.tl_html_balance.specs.Classes.{is}
use Rattle.tl_html_balance.specs.View.{names_left}
use Rattle.tl_html_balance.proofs.Depths.{found_from}
use Rattle.tl_html_balance.proofs.remaining.Remaining.depth.Given as goal

abbrev pub invariant-loop-depth : goal.invariant-loop-depth
invariant-loop-depth l =
    depth (is l.found) (is l.stops) (names_left l.self) ≡ found_from (is l.found) (is l.stops) (names_left l.self) l.depth
