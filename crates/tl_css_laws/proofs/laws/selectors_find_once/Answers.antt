use Rattle.tl_css_laws.proofs.Found.{found_once}
use Rattle.tl_css_laws.proofs.laws.selectors_find_once.Goals as goal

pub returns : goal.returns
returns c nodes e ms ns first second = found_once nodes e ms ns first second
