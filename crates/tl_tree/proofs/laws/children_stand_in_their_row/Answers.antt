use Rattle.tl_tree.proofs.WalkLaws.{children_parents}
use Rattle.tl_tree.proofs.laws.children_stand_in_their_row.Goals as goal

pub returns : goal.returns
returns c = children_parents
