use Rattle.tl_css_laws.proofs.Turned.{turned_twice}
use Rattle.tl_css_laws.proofs.laws.selectors_turned_twice_hold_alike.Goals as goal

pub returns : goal.returns
returns c = turned_twice
