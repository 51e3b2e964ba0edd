use Rattle.std.proofs.Common.{◌≡◌, length, take}
use Rattle.std.specs.List.{All}
use Rattle.tl_patch_edit.specs.Asks.{IsEscaped, IsTagged, placed_of}
use Rattle.tl_patch_edit.specs.Inner.Causes.{IsWithin}
use Rattle.tl_patch_edit.specs.Inner.Parts.{parts_view}
use Rattle.tl_patch_edit.proofs.tag.ready_asks.Given as goal

abbrev pub invariant-loop-at : goal.invariant-loop-at
invariant-loop-at l = record {
  asks : placed_of l.ready.items ≡ take l.at l.asks;
  within : All (IsWithin (length l.parts)) l.ready.items;
  tags : All (IsTagged (parts_view l.parts)) l.ready.items;
  escaped : All IsEscaped l.ready.items;
}
