use Rattle.std.proofs.Common.{◌≡◌, false, take}
use Rattle.std.specs.List.{All}
use Rattle.tl_patch_edit.specs.Asks.{ask_view}
use Rattle.tl_patch_edit.specs.Inner.Limits.{is_misread_in}
use Rattle.tl_patch_edit.specs.declared.ask.PlacedAsk.{PlacedAsk}
use Rattle.tl_patch_edit.proofs.raw_text.refuse_by_page.Given as goal

-- none so far
abbrev pub invariant-loop-at : goal.invariant-loop-at
invariant-loop-at l = All (λ (one : PlacedAsk). is_misread_in l.tokens l.limits (ask_view one.ask) ≡ false) (take l.at l.asks)
