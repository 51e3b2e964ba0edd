use Rattle.std.proofs.Common.{rules, ◌≡◌, ◌∙◌, false}
use Rattle.std.specs.Bool.{one_answer}
use Rattle.tl_spec.specs.Select.Search.{holds_alone}
use Rattle.tl_spec.proofs.Select.Tests.{holds_alone-is}
use Rattle.tl_selector.specs.Spine.{has_sides}
use Rattle.tl_selector.specs.View.{selector}
use Rattle.tl_selector.proofs.matching.+holds_alone.Goals as goal

pub returns-in_default : goal.returns-in_default
returns-in_default g t c =
    let e = selector c.sides.whole.now in
    let node = g.E.Element.node c.args.node.now in
    let none : has_sides (selector c.sides.whole.now) ≡ false = search rules in
    one_answer c.is_met.result (holds_alone e node) (c.is_met.ensures none) (holds_alone-is e node) ∙ c.sides.invariant.same
