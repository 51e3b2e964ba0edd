use Rattle.std.proofs.Common.{◌≡◌}
use Rattle.tl_selector.specs.Spine.{first_simple}
use Rattle.tl_selector.specs.View.{selector}
use Rattle.tl_selector.proofs.matching.scan.first_simple.Given as goal

abbrev pub invariant-parts : goal.invariant-parts
invariant-parts l = first_simple (selector l.part) ≡ first_simple (selector l.e)
