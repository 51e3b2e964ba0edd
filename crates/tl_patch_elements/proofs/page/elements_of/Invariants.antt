use Rattle.tl_patch_elements.proofs.Whole.{Left}
use Rattle.tl_patch_elements.proofs.page.elements_of.Given as goal

abbrev pub invariant-loop-at : goal.invariant-loop-at
invariant-loop-at l = Left l.page l.tokens l.finder l.at
