use Rattle.std.proofs.Common.{refl}
use Rattle.tl.proofs.vdom.VDomOf.parser_mut.Goals as goal

pub returns : goal.returns
returns g c = ((refl, λ w. refl), record { writes_back = tt; value = c.self.view_is })
