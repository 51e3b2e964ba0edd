use Rattle.std.proofs.Common.{◌≡◌}
use Rattle.std.specs.Str.{bytes_eq}
use Rattle.tl_html_spec.specs.Balanced.{depth}
use Rattle.tl_html_balance.specs.Classes.{is}
use Rattle.tl_html_balance.specs.View.{name_of, names_left}
use Rattle.tl_html_balance.proofs.Depths.{found_from}
use Rattle.tl_html_balance.proofs.remaining.Remaining.depth_of.Given as goal

abbrev pub invariant-loop-depth : goal.invariant-loop-depth
invariant-loop-depth l =
    depth (bytes_eq (name_of l.name)) (is l.stops) (names_left l.self) ≡ found_from (bytes_eq (name_of l.name)) (is l.stops) (names_left l.self) l.depth
