use Rattle.std.proofs.Common.{refl}
use Rattle.tl_spec.proofs.Print.Misread.{misread}
use Rattle.tl_spec.proofs.examples.clean.own_keys.Goals as goal

pub returns-clause-repeated : goal.returns-clause-repeated
returns-clause-repeated c = misread _ _ _ refl refl refl refl

pub returns-clause-id_among_the_others : goal.returns-clause-id_among_the_others
returns-clause-id_among_the_others c = misread _ _ _ refl refl refl refl
