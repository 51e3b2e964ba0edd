use Rattle.std.proofs.Common.{◌≡◌, take}
use Rattle.tl_patch_select.specs.Inner.Known.{IsKnown}
use Rattle.tl_patch_select.specs.Partly.{put_in_places}
use Rattle.tl_patch_select.proofs.partly.put_in_places.Given as goal

-- the places are those of the elements so far
abbrev pub invariant-loop-number : goal.invariant-loop-number
invariant-loop-number l = record {
  known : IsKnown l.tree l.page_len l.known;
  made : l.places.items ≡ put_in_places l.tree l.page_len (take l.number-index l.numbers);
}
