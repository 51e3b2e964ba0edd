use Rattle.std.proofs.Common.{refl}
use Rattle.tl.proofs.vdom.VDomOfFromParserOf.from.Goals as goal

pub returns : goal.returns
returns g c = refl
