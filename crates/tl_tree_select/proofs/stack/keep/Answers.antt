use Rattle.std.proofs.Common.{◌∷◌, List, ap}
use Rattle.tl_css.specs.Selector.{Both, Css, Is}
use Rattle.tl_css.specs.Program.{meet}
use Rattle.tl_css.specs.View.{test}
use Rattle.tl_tree_select.specs.Page.{seen}
use Rattle.tl_tree_select.proofs.Stacks.{last_is, put_back}
use Rattle.tl_tree_select.proofs.stack.keep.Goals as goal

pub returns : goal.returns
returns c es are =
    let page = seen c.args.page.now in
    let t = Is (test c.args.test.now) in
    let l = last_is page es c.args.columns.items c.pop.new.self.items c.in-Some.marks c.in-Some.ensures.items are in
    put_back page (meet (t ∷ es)) l.others (Both l.first t) _ _ _ (ap (λ (es : List Css). meet (t ∷ es)) l.are)
    c.in_ok-after-2.ensures (c.in_ok-found-2.ensures l.first l.marked) l.left
