use Rattle.std.proofs.Common.{List, length, subst, ℕ}
use Rattle.std.proofs.lemmas.List.{take_all}
use Rattle.tl_tree.specs.TreeView.{rows_in}
use Rattle.tl_tree_extract.proofs.Marked.{AreMarks, marks_are}
use Rattle.tl_tree_extract.proofs.marks.marks_of.Goals as goal

pub returns : goal.returns
returns c =
    let numbers : List ℕ = c.args.numbers.now in
    let count : ℕ = length (rows_in c.args.tree.now) in
    let all = take_all c.loop-number.number-index numbers c.loop-number-test.false in
    marks_are numbers count c.loop-number.marks.items
    (subst (λ (ns : List ℕ). AreMarks ns count c.loop-number.marks.items) all c.loop-number.invariant)
