use Rattle.std.proofs.Common.{◌≡◌, length, arith}
use Rattle.tl_css.specs.Selector.{Is}
use Rattle.tl_css.specs.View.{test}
use Rattle.tl_tree_select.specs.Page.{seen}
use Rattle.tl_tree_select.proofs.Marks.{marks_within}
use Rattle.tl_tree_select.proofs.columns.seen_marks.Goals as goal

pub returns : goal.returns
returns c =
    let page = seen c.args.page.now in
    let all : c.loop-number.number ≡ length (seen c.args.page.now).rows = omega arith in
    let len = c.loop-number.invariant.len in
    marks_within page (Is (test c.args.test.now)) c.loop-number.marks.items (omega (arith, all, len))
    (λ n w. c.loop-number.invariant.each n (omega (arith, all, w)))
