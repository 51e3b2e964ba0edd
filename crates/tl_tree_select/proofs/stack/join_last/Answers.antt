use Rattle.std.proofs.Common.{◌≡◌, ◌∷◌, ◌∙◌, List, Bool, ap, subst, sym}
use Rattle.tl_css.specs.Selector.{Css}
use Rattle.tl_tree_select.specs.Inner.Columns.{AreMarks, join, joined}
use Rattle.tl_tree_select.proofs.Stacks.{last_is, put_back, join_is}
use Rattle.tl_tree_select.proofs.stack.join_last.Goals as goal

pub returns : goal.returns
returns c page es are =
    let b = last_is page es c.args.columns.items c.pop.new.self.items c.in-Some.others c.in-Some.ensures.items are in
    let a = last_is page b.others c.pop.new.self.items c.pop-2.new.self.items c.in-Some-pop.marks c.in-Some-pop.ensures.items b.left in
    let m = subst (λ (marks : List Bool). AreMarks page b.first marks) (sym c.deref.ensures.value) b.marked in
    let two : es ≡ b.first ∷ a.first ∷ a.others = b.are ∙ ap (λ (es : List Css). b.first ∷ es) a.are in
    put_back page (joined c.args.both es) a.others (join c.args.both a.first b.first) _ _ _ (join_is c.args.both es a.others a.first b.first two)
    c.in_ok-after-2.ensures (c.join_marks-marks.ensures page a.first b.first a.marked m) a.left
