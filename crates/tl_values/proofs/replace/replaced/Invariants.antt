use Rattle.std.proofs.Common.{length, ◌++◌, ◌≡◌}
use Rattle.tl_values.specs.Inner.Places.{AreInTurn}
use Rattle.tl_values.specs.Values.{put_at, replaced}
use Rattle.tl_values.proofs.replace.replaced.Given as goal

-- what was written, and then the rest with what is put at the places that are left, is all
abbrev pub invariant-loop-place : goal.invariant-loop-place
invariant-loop-place l = record {
  turn : AreInTurn (length l.sought) l.value l.from l.place-iterator;
  whole : l.new.items ++ put_at l.put (length l.sought) l.value l.from l.place-iterator
      ≡ replaced l.sought l.put l.value;
}
