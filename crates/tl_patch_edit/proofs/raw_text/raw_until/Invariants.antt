use Rattle.std.proofs.Common.{◌≡◌, drop}
use Rattle.tl_patch_spec.specs.RawTexts.{raw_until}
use Rattle.tl_patch_edit.specs.Errors.{pieces_in}
use Rattle.tl_patch_edit.proofs.raw_text.raw_until.Given as goal

abbrev pub invariant-loop-at : goal.invariant-loop-at
invariant-loop-at l = raw_until l.until l.at (drop l.at (pieces_in l.page)) ≡ raw_until 0 0 (pieces_in l.page)
