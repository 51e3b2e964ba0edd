use Rattle.std.proofs.Common.{take, ◌≡◌}
use Rattle.tl_patch_select.specs.Inner.Sources.{AreSources}
use Rattle.tl_patch_select.proofs.Crossing.{AreThoseOf}
use Rattle.tl_patch_select.proofs.whole.all_crossed.Given as goal

-- those so far
abbrev pub invariant-loop-number : goal.invariant-loop-number
invariant-loop-number l = record {
  tail : l.sources.tail ≡ l.fn.sources.tail;
  ready : AreSources l.tree l.sources;
  crossed : AreThoseOf l.elements l.tree l.fn.sources.tail (take l.number-index l.numbers) l.all.items;
}
