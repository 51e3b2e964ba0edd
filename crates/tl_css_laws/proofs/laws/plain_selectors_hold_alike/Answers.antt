use Rattle.tl_css_laws.proofs.Plain.{plain_alike}
use Rattle.tl_css_laws.proofs.laws.plain_selectors_hold_alike.Goals as goal

pub returns : goal.returns
returns c nodes e forest tame plain = plain_alike nodes forest tame e plain
