use Rattle.std.proofs.Common.{refl}
use Rattle.tl_spec.proofs.Print.Misread.{misread}
use Rattle.tl_spec.proofs.examples.clean.clean_names.Goals as goal

pub returns-clause-with_a_blank : goal.returns-clause-with_a_blank
returns-clause-with_a_blank c = misread _ _ _ refl refl refl refl

pub returns-clause-empty_with_a_key : goal.returns-clause-empty_with_a_key
returns-clause-empty_with_a_key c = misread _ _ _ refl refl refl refl

pub returns-clause-with_a_slash : goal.returns-clause-with_a_slash
returns-clause-with_a_slash c = misread _ _ _ refl refl refl refl
