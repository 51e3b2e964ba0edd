use Rattle.std.proofs.Common.{◌≡◌}
use Rattle.tl_selector.specs.Spine.{others_hold}
use Rattle.tl_selector.specs.View.{selector}
use Rattle.tl_selector.proofs.matching.scan.others_hold.Given as goal

abbrev pub invariant-parts : goal.invariant-parts
invariant-parts g l = others_hold (selector l.whole) (g.N.Element.node l.node) ≡ others_hold (selector l.e) (g.N.Element.node l.node)
