use Rattle.std.proofs.Common.{◌≡◌, drop}
use Rattle.tl_patch_spec.specs.RawTexts.{unsure_with}
use Rattle.tl_patch_edit.specs.Asks.{asks_view}
use Rattle.tl_patch_edit.proofs.raw_text.unsure_with.Given as goal

abbrev pub invariant-loop-at : goal.invariant-loop-at
invariant-loop-at l = unsure_with l.unsure (asks_view (drop l.at l.asks)) ≡ unsure_with l.first (asks_view l.asks)
