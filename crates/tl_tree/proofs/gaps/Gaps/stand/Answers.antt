use Rattle.std.proofs.Common.{arith, sym, ◌∙◌}
use Rattle.tl_tree.proofs.Marks.{first-stands, gone-stands}
use Rattle.tl_tree.proofs.gaps.Gaps.stand.Goals as goal

pub overflow_sub-self : goal.overflow_sub-self
overflow_sub-self c =
    let marks = c.args.self.now.marks in
    let is = gone-stands marks.items c.args.place (sym c.has.ensures ∙ c.if-has.true) in
    omega (arith, is, c.args.self.now.counted)

pub invariant_of-self : goal.invariant_of-self
invariant_of-self c =
    let marks = c.args.self.now.marks in
    let is = gone-stands marks.items c.args.place (sym c.has.ensures ∙ c.if-has.true) in
    record {
      first = first-stands marks.items c.args.place c.args.self.now.first;
      counted = omega (arith, is, c.args.self.now.counted);
    }
