use Rattle.std.proofs.Common.{◌≡◌, ◌≤◌, ◌++◌, List, None, drop, length}
use Rattle.tl_patch_spec.specs.Splices.{are_ordered}
use Rattle.tl_patch_edit.specs.Asks.{IsWanted, IsWantedFrom, asks_view, placed_of}
use Rattle.tl_patch_edit.specs.Inner.Parts.{Part, parts_view}
use Rattle.tl_patch_edit.specs.Seams.{last_of}
use Rattle.tl_patch_edit.proofs.wanted.wanted_parts.Given as goal

-- what is written, before the rest of what is wanted, is all that is wanted
abbrev pub invariant-loop-at : goal.invariant-loop-at
invariant-loop-at l = record {
  within : l.done ≤ length l.parts;
  ordered : are_ordered 0 (length l.parts) (asks_view (placed_of l.asks))
      ≡ are_ordered l.done (length l.parts) (asks_view (placed_of (drop l.at l.asks)));
  rest : (rest : List Part) →
      IsWantedFrom (last_of None (parts_view l.wanted.items)) l.done (asks_view (placed_of (drop l.at l.asks))) (parts_view l.parts) rest →
      IsWanted (asks_view (placed_of l.asks)) (parts_view l.parts) (parts_view l.wanted.items ++ rest);
}
