use Rattle.std.proofs.Common.{◌≡◌, [], take}
use Rattle.tl.specs.Marks.{marks_of}
use Rattle.tl.specs.Walker.{path_from}
use Rattle.tl.proofs.walk.path.all_marks.Given as goal

abbrev pub invariant-loop-frame : goal.invariant-loop-frame
invariant-loop-frame l = l.marks.items ≡ marks_of l.n (path_from [] (take l.frame-index l.frames))
