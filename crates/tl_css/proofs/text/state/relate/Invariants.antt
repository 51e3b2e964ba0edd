use Rattle.std.proofs.Common.{◌≡◌, length, reverse}
use Rattle.tl_css.specs.Program.{waiting_after}
use Rattle.tl_css.specs.Reading.{relate}
use Rattle.tl_css.proofs.text.state.relate.Given as goal

abbrev pub invariant-combinators : goal.invariant-combinators
invariant-combinators l =
    relate (reverse l.left) (waiting_after l.program.steps.items) ≡ relate (reverse l.combinators) (waiting_after l.initial.program.steps.items)

abbrev pub decreases-combinators : goal.decreases-combinators
decreases-combinators l = length l.left
