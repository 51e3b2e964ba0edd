use Rattle.std.proofs.Common.{ap, ◌∙◌}
use Rattle.tl_patch_edit.specs.Stretches.{stretches, tail_begin}
use Rattle.tl_patch_edit.proofs.reach.stretches.Goals as goal

pub returns-clause-elements : goal.returns-clause-elements
returns-clause-elements c = c.in_ok-found.ensures.elements ∙ ap stretches c.in_ok-tokenized.ensures

pub returns-clause-tail : goal.returns-clause-tail
returns-clause-tail c = c.in_ok-found.ensures.tail ∙ ap tail_begin c.in_ok-tokenized.ensures
