use Rattle.std.proofs.Common.{refl}
use Rattle.tl_spec.proofs.Print.Misread.{misread}
use Rattle.tl_spec.proofs.examples.clean.clean_pairs.Goals as goal

pub returns-clause-key_with_a_blank : goal.returns-clause-key_with_a_blank
returns-clause-key_with_a_blank c = misread _ _ _ refl refl refl refl

pub returns-clause-empty_key : goal.returns-clause-empty_key
returns-clause-empty_key c = misread _ _ _ refl refl refl refl

pub returns-clause-value_with_a_quote : goal.returns-clause-value_with_a_quote
returns-clause-value_with_a_quote c = misread _ _ _ refl refl refl refl

pub returns-clause-key_with_a_slash : goal.returns-clause-key_with_a_slash
returns-clause-key_with_a_slash c = misread _ _ _ refl refl refl refl
