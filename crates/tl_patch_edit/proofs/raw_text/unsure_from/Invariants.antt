use Rattle.std.proofs.Common.{◌≡◌, drop}
use Rattle.tl_patch_spec.specs.RawTexts.{unsure_from}
use Rattle.tl_patch_edit.specs.Errors.{pieces_in}
use Rattle.tl_patch_edit.proofs.raw_text.unsure_from.Given as goal

abbrev pub invariant-loop-at : goal.invariant-loop-at
invariant-loop-at l = unsure_from l.at (drop l.at (pieces_in l.page)) ≡ unsure_from 0 (pieces_in l.page)
