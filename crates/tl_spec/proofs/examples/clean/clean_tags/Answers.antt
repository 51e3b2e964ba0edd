use Rattle.std.proofs.Common.{refl}
use Rattle.tl_spec.proofs.Print.Misread.{misread}
use Rattle.tl_spec.proofs.examples.clean.clean_tags.Goals as goal

pub returns-clause-void_with_a_child : goal.returns-clause-void_with_a_child
returns-clause-void_with_a_child c = misread _ _ _ refl refl refl refl

pub returns-clause-command_before_a_text : goal.returns-clause-command_before_a_text
returns-clause-command_before_a_text c = misread _ _ _ refl refl refl refl
