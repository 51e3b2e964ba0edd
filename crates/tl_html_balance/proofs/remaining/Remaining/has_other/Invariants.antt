use Rattle.std.proofs.Common.{◌≡◌, not}
use Rattle.tl_html_spec.specs.Balanced.{depth, never}
use Rattle.tl_html_balance.specs.Classes.{is}
use Rattle.tl_html_balance.specs.View.{names_left}
use Rattle.tl_html_balance.proofs.Depths.{found_from}
use Rattle.tl_html_balance.proofs.remaining.Remaining.has_other.Given as goal

abbrev pub invariant-loop-depth : goal.invariant-loop-depth
invariant-loop-depth l =
    depth (λ name. not (is l.passed name)) never (names_left l.self) ≡ found_from (λ name. not (is l.passed name)) never (names_left l.self) l.depth
