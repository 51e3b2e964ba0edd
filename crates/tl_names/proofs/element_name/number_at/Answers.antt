use Rattle.std.proofs.Common.{refl}
use Rattle.tl_names.proofs.element_name.number_at.Goals as goal

pub returns : goal.returns
returns c = refl
