use Rattle.std.proofs.Common.{Bool, IsTrue, List, ap, arith, false, get_or, length, subst, suc, sym, true, ◌-◌, ◌≡◌, ◌∙◌}
use Rattle.std.proofs.lemmas.List.{get_or_default}
use Rattle.tl_tree.proofs.Marks.{first-take, gone-last}
use Rattle.tl_tree.specs.Inner.Gone.{gone_in, is_first_there}
use Rattle.tl_tree.proofs.gaps.Gaps.forget_last.Goals as goal

pub overflow_sub-self : goal.overflow_sub-self
overflow_sub-self c =
    let marks = c.args.self.now.marks in
    let own = marks.ok.0 in
    let n = c.len-last.result - 1 in
    let some = c.requires in
    let long : length marks.items ≡ suc n = omega arith in
    let last = sym c.index-is_gone.ensures in
    let is = gone-last marks.items n true long (get_or_default marks.items n true c.index-is_gone.result.now (omega arith) ∙ (last ∙ c.if-is_gone.true)) in
    omega (arith, is, c.args.self.now.counted)

pub invariant_of-self : goal.invariant_of-self
invariant_of-self c =
    let marks = c.args.self.now.marks in
    let own = marks.ok.0 in
    let n = c.len-last.result - 1 in
    let some = c.requires in
    let long : length marks.items ≡ suc n = omega arith in
    let last = sym c.index-is_gone.ensures in
    let is = gone-last marks.items n true long (get_or_default marks.items n true c.index-is_gone.result.now (omega arith) ∙ (last ∙ c.if-is_gone.true)) in
    record {
      first = subst (λ (ms : List Bool). IsTrue (is_first_there ms)) (sym c.truncate.ensures.items) (first-take marks.items n c.args.self.now.first);
      counted = ap gone_in c.truncate.ensures.items ∙ omega (arith, is, c.args.self.now.counted);
    }

pub invariant_of-self-else-is_gone : goal.invariant_of-self-else-is_gone
invariant_of-self-else-is_gone c =
    let marks = c.args.self.now.marks in
    let own = marks.ok.0 in
    let n = c.len-last.result - 1 in
    let some = c.requires in
    let long : length marks.items ≡ suc n = omega arith in
    let last = sym c.index-is_gone.ensures in
    let is = gone-last marks.items n false long (get_or_default marks.items n false c.index-is_gone.result.now (omega arith) ∙ (last ∙ c.if-is_gone.false)) in
    record {
      first = subst (λ (ms : List Bool). IsTrue (is_first_there ms)) (sym c.truncate.ensures.items) (first-take marks.items n c.args.self.now.first);
      counted = ap gone_in c.truncate.ensures.items ∙ omega (arith, is, c.args.self.now.counted);
    }
