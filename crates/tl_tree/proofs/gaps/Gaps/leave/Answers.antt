use Rattle.std.proofs.Common.{Bool, IsTrue, List, ap, arith, false, get_or, length, subst, sym, ◌≡◌, ◌∙◌}
use Rattle.tl_tree.proofs.Marks.{first-leaves, gone-leaves, gone-most, shut-less, without-set}
use Rattle.tl_tree.specs.Inner.Gone.{are_shut, without}
use Rattle.tl_tree.proofs.gaps.Gaps.leave.Goals as goal

pub returns-in_err-lengthen-clause-shut : goal.returns-in_err-lengthen-clause-shut
returns-in_err-lengthen-clause-shut c = λ frames h.
    let n = c.args.place in
    shut-less c.lengthen.new.self.marks.items n frames
    (subst (λ (ms : List Bool). IsTrue (are_shut ms frames)) (sym c.lengthen.ensures.without) h)

pub overflow_add-self : goal.overflow_add-self
overflow_add-self c =
    let m = c.lengthen.new.self.marks in
    let own = m.ok.0 in
    let small = m.small in
    let most = gone-most m.items in
    let count = c.lengthen.new.self.counted in
    omega arith

pub invariant_of-self : goal.invariant_of-self
invariant_of-self c =
    let m = c.lengthen.new.self.marks in
    let n = c.args.place in
    let stands : get_or m.items n false ≡ false = c.lengthen.ensures.own ∙ c.requires.there in
    let is = gone-leaves m.items n stands c.in_ok-lengthen.ensures.within in
    record {
      first = first-leaves m.items n c.requires.some c.lengthen.new.self.first;
      counted = omega (arith, is, c.lengthen.new.self.counted);
    }

pub returns-clause-ok : goal.returns-clause-ok
returns-clause-ok c =
    sym (without-set c.lengthen.new.self.marks.items c.args.place c.in_ok-lengthen.ensures.within) ∙ c.lengthen.ensures.without

pub returns-clause-shut : goal.returns-clause-shut
returns-clause-shut c = λ frames h.
    subst (λ (ms : List Bool). IsTrue (are_shut ms frames)) (sym (sym (without-set c.lengthen.new.self.marks.items c.args.place c.in_ok-lengthen.ensures.within) ∙ c.lengthen.ensures.without)) h
