use Rattle.std.proofs.Common.{refl}
use Rattle.tl_spec.proofs.Print.Misread.{misread}
use Rattle.tl_spec.proofs.examples.clean.clean_comments.Goals as goal

pub returns-clause-without_less : goal.returns-clause-without_less
returns-clause-without_less c = misread _ _ _ refl refl refl refl

pub returns-clause-without_bang : goal.returns-clause-without_bang
returns-clause-without_bang c = misread _ _ _ refl refl refl refl

pub returns-clause-without_dashes : goal.returns-clause-without_dashes
returns-clause-without_dashes c = misread _ _ _ refl refl refl refl

pub returns-clause-with_an_earlier_end : goal.returns-clause-with_an_earlier_end
returns-clause-with_an_earlier_end c = misread _ _ _ refl refl refl refl

pub returns-clause-without_an_end : goal.returns-clause-without_an_end
returns-clause-without_an_end c = misread _ _ _ refl refl refl refl

pub returns-clause-with_a_name_before_the_bang : goal.returns-clause-with_a_name_before_the_bang
returns-clause-with_a_name_before_the_bang c = misread _ _ _ refl refl refl refl
