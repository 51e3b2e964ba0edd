use Rattle.std.proofs.Common.{ap, subst, sym}
use Rattle.tl_css.specs.Selector.{Css}
use Rattle.tl_css.specs.Program.{last_waiting, waiting_after}
use Rattle.tl_tree_select.specs.Page.{seen}
use Rattle.tl_tree_select.specs.Inner.Columns.{AreMarks}
use Rattle.tl_tree_select.proofs.Stacks.{last_is}
use Rattle.tl_tree_select.proofs.stack.marks_of.Goals as goal

pub returns : goal.returns
returns c =
    let page = seen c.args.page.now in
    let l = last_is page (waiting_after c.args.steps.now) c.in_ok-columns.columns.items c.pop.new.self.items c.in-Some.marks c.in-Some.ensures.items c.in_ok-columns.ensures in
    subst (λ (e : Css). AreMarks page e c.in-Some.marks.items) (sym (ap last_waiting l.are)) l.marked
