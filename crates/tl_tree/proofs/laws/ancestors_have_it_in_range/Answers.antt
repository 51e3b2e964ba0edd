use Rattle.tl_tree.proofs.WalkLaws.{ancestors_ranges}
use Rattle.tl_tree.proofs.laws.ancestors_have_it_in_range.Goals as goal

pub returns : goal.returns
returns c = ancestors_ranges
