use Rattle.tl_tree_select.proofs.Founds.{found_once}
use Rattle.tl_tree_select.proofs.laws.selectors_find_once.Goals as goal

pub returns : goal.returns
returns c page e ms ns first second = found_once page e ms ns first second
