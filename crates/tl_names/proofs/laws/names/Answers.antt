use Rattle.std.proofs.Common.{refl}
use Rattle.tl_names.specs.ElementNames.{element_names, name_of}
use Rattle.tl_names.proofs.laws.names.Goals as goal

pub returns : goal.returns
unfolding element_names name_of
returns c = record { names = refl; constants = refl }
