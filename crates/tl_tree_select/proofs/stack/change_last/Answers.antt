use Rattle.std.proofs.Common.{List, Bool, ap, subst, sym}
use Rattle.tl_css.specs.Program.{change}
use Rattle.tl_tree_select.specs.Page.{seen}
use Rattle.tl_tree_select.specs.Inner.Columns.{AreMarks, changed}
use Rattle.tl_tree_select.proofs.Stacks.{last_is, put_back}
use Rattle.tl_tree_select.proofs.stack.change_last.Goals as goal

pub returns : goal.returns
returns c es are =
    let page = seen c.args.page.now in
    let l = last_is page es c.args.columns.items c.pop.new.self.items c.in-Some.marks c.in-Some.ensures.items are in
    let m = subst (λ (marks : List Bool). AreMarks page l.first marks) (sym c.deref.ensures.value) l.marked in
    put_back page (change (changed c.args.step.now) es) l.others (changed c.args.step.now l.first) _ _ _ (ap (change (changed c.args.step.now)) l.are)
    c.in_ok-after.ensures (c.in_ok-found.ensures l.first m) l.left
