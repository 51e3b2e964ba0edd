use Rattle.std.proofs.Common.{refl}
use Rattle.tl_spec.proofs.Print.Misread.{misread}
use Rattle.tl_spec.proofs.examples.clean.clean_texts.Goals as goal

pub returns : goal.returns
returns c = misread _ _ _ refl refl refl refl
