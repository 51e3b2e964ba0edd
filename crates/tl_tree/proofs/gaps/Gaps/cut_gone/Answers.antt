use Rattle.std.proofs.Common.{Bool, List, ap, arith, false, get_or, length, suc, sym, take, true, ℕ, ◌-◌, ◌≡◌, ◌∙◌}
use Rattle.tl_dom_spec.specs.Path as dom
use Rattle.tl_tree.proofs.Marks.{first-more, take-again, there-less, there-same}
use Rattle.tl_tree.specs.Inner.Gone.{there}
use Rattle.tl_tree.proofs.gaps.Gaps.cut_gone.Goals as goal

pub loop-left-preserved-then-forget_last : goal.loop-left-preserved-then-forget_last
loop-left-preserved-then-forget_last c =
    let r = c.loop-left.self in
    let ms = r.marks.items in
    let q = c.forget_last.new.self.marks.items in
    let own = r.marks.ok.0 in
    let test = c.loop-left-test.true in
    let least = c.loop-left.invariant.least in
    let within = c.loop-left.invariant.within in
    let long = c.forget_last.ensures.len in
    let n = length q in
    let gone : get_or ms n false ≡ true = sym c.forget_last.ensures.gone ∙ c.if-forget_last.true in
    let some = first-more ms n long r.first gone in
    let at : c.loop-left.left ≡ suc n = omega arith in
    let back : c.loop-left.left - 1 ≡ n = omega arith in
    record {
      some = omega arith;
      within = omega arith;
      least = omega arith;
      marks = take-again q ms c.args.self.now.marks.items c.forget_last.ensures.marks c.loop-left.invariant.marks (omega arith);
      there = λ frames many.
          c.loop-left.invariant.there frames many
          ∙ (ap (λ (k : ℕ). there ms (take k frames)) at
          ∙ (there-less ms frames n long gone
          ∙ (ap (λ (all : List Bool). there all (take n frames)) (sym c.forget_last.ensures.marks)
          ∙ ap (λ (k : ℕ). there q (take k frames)) (sym back))));
    }

pub loop-left-preserved : goal.loop-left-preserved
loop-left-preserved c =
    let r = c.loop-left.self in
    let ms = r.marks.items in
    let q = c.forget_last.new.self.marks.items in
    let least = c.loop-left.invariant.least in
    let long = c.forget_last.ensures.len in
    let n = length q in
    let stays : get_or ms n false ≡ false = sym c.forget_last.ensures.gone ∙ c.if-forget_last.false in
    record {
      some = c.loop-left.invariant.some;
      within = c.loop-left.invariant.within;
      least = omega arith;
      marks = take-again q ms c.args.self.now.marks.items c.forget_last.ensures.marks c.loop-left.invariant.marks (omega arith);
      there = λ frames many.
          c.loop-left.invariant.there frames many
          ∙ (there-same ms (take c.loop-left.left frames) n long stays
          ∙ ap (λ (all : List Bool). there all (take c.loop-left.left frames)) (sym c.forget_last.ensures.marks));
    }
