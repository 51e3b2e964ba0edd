use Rattle.std.proofs.Common.{◌≡◌, length, arith}
use Rattle.tl_tree_select.specs.Page.{seen}
use Rattle.tl_tree_select.proofs.Marks.{marks_not}
use Rattle.tl_tree_select.proofs.columns.unmarked_elements.Goals as goal

pub returns : goal.returns
returns c e are =
    let page = seen c.args.page.now in
    let all : c.loop-number.number ≡ length (seen c.args.page.now).rows = omega arith in
    let len = c.loop-number.invariant.len in
    marks_not page e c.args.marks.now c.loop-number.found.items are (omega (arith, all, len))
    (λ n w. c.loop-number.invariant.each n (omega (arith, all, w)))
