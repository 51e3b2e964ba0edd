use Rattle.std.proofs.Common.{◌≡◌, ◌+◌, drop}
use Rattle.tl_html_spec.specs.Balanced.{leading}
use Rattle.tl_html_balance.specs.Classes.{is}
use Rattle.tl_html_balance.specs.View.{names_left}
use Rattle.tl_html_balance.proofs.remaining.Remaining.leading.Given as goal

abbrev pub invariant-loop-depth : goal.invariant-loop-depth
invariant-loop-depth l =
    leading (is l.wanted) (names_left l.self) ≡ l.depth + leading (is l.wanted) (drop l.depth (names_left l.self))
