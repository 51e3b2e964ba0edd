use Rattle.tl_patch_edit.specs.Inner.Apart.{ArePassed}
use Rattle.tl_patch_edit.proofs.refused.sought.Given as goal

-- those so far are passed
abbrev pub invariant-loop-at : goal.invariant-loop-at
invariant-loop-at l = ArePassed l.tokens l.place l.fn.from l.at
