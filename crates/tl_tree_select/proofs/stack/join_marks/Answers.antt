use Rattle.std.proofs.Common.{Bool, subst, sym}
use Rattle.tl_tree_select.specs.Inner.Columns.{AreMarks, join}
use Rattle.tl_tree_select.proofs.Marks.{marks_both}
use Rattle.tl_tree_select.proofs.Pushes.{marks_united}
use Rattle.tl_tree_select.proofs.stack.join_marks.Goals as goal

pub returns-then-both : goal.returns-then-both
returns-then-both c page a b p q =
    subst (λ (both : Bool). AreMarks page (join both a b) c.meet.new.marks.items) (sym c.if-both.true)
    (marks_both page a b c.args.marks.items c.args.others.now c.meet.new.marks.items p q c.meet.ensures.len c.meet.ensures.both)

pub returns : goal.returns
returns c page a b p q =
    subst (λ (both : Bool). AreMarks page (join both a b) c.unite.new.marks.items) (sym c.if-both.false)
    (marks_united page a b c.args.marks.items c.args.others.now c.unite.new.marks.items p q c.unite.ensures.len c.unite.ensures.either)
