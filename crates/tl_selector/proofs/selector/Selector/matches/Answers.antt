use Rattle.std.proofs.Common.{Bool, subst, sym}
use Rattle.std.specs.Bool.{Decides}
use Rattle.tl_spec.specs.Select.Meaning.{HoldsAlone}
use Rattle.tl_spec.proofs.Select.Tests.{holds_alone-is}
use Rattle.tl_selector.specs.View.{selector}
use Rattle.tl_selector.proofs.selector.Selector.matches.Goals as goal

pub returns : goal.returns
returns g c =
    let e = selector c.args.self.now in
    let node = g.E.Element.node c.args.node.now in
    subst (λ (b : Bool). Decides b (HoldsAlone e node)) (sym c.holds_alone.ensures) (holds_alone-is e node)
