use Rattle.std.proofs.Common.{arith}
use Rattle.tl_css.specs.Selector.{Both, Is}
use Rattle.tl_css.specs.View.{test}
use Rattle.tl_tree_select.specs.Page.{seen}
use Rattle.tl_tree_select.proofs.Marks.{marks_within}
use Rattle.tl_tree_select.proofs.columns.test_marks_among.Goals as goal

pub returns : goal.returns
returns c e are =
    let page = seen c.args.page.now in
    let len = are.len in
    let inv = c.loop-number.invariant in
    let same = inv.len in
    marks_within page (Both e (Is (test c.args.test.now))) c.loop-number.among.items (omega (arith, same, len))
    (λ n w.
    let each = inv.done n (omega (arith, w, same, len)) in
    (λ mark. (let h = each.0 mark in ((are.each n).0 h.0, h.1)), λ h. each.1 ((are.each n).1 h.0, h.1)))
