use Rattle.tl_spec.proofs.Edit.Shape.{edited-keeps}
use Rattle.tl_spec.proofs.laws.edits_keep_the_shape.Goals as goal

pub returns : goal.returns
returns c = edited-keeps
