use Rattle.std.proofs.Common.{length, take}
use Rattle.tl_tree.specs.TreeView.{rows_in}
use Rattle.tl_tree_extract.proofs.Marked.{AreMarks}
use Rattle.tl_tree_extract.proofs.marks.marks_of.Given as goal

abbrev pub invariant-loop-number : goal.invariant-loop-number
invariant-loop-number l = AreMarks (take l.number-index l.numbers) (length (rows_in l.tree)) l.marks.items
