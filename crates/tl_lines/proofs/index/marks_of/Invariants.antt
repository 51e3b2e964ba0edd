use Rattle.std.proofs.Common.{drop, length, ◌*◌, ◌+◌, ◌-◌, ◌<◌, ◌≡◌}
use Rattle.tl_lines.specs.Inner.Marks.{AreMarks, at}
use Rattle.tl_lines.proofs.index.marks_of.Given as goal

abbrev pub invariant-loop-rest : goal.invariant-loop-rest
invariant-loop-rest l = record {
  some : 0 < length l.marks.items;
  known : AreMarks 1024 l.text l.marks.items;
  here : l.position ≡ at l.text ((length l.marks.items - 1) * 1024);
  left : l.rest ≡ drop ((length l.marks.items - 1) * 1024) l.text;
  count : (length l.marks.items - 1) * 1024 + length l.rest ≡ length l.text;
}

abbrev pub decreases-loop-rest : goal.decreases-loop-rest
decreases-loop-rest l = length l.rest
