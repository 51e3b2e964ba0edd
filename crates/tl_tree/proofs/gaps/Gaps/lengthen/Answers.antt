use Rattle.std.proofs.Common.{Bool, IsTrue, List, [], ap, arith, false, get_or, is_ok, length, length-append, suc, ◌++◌, ◌≡◌, ◌≤◌, ◌∙◌, ◌∷◌}
use Rattle.tl_tree.proofs.Marks.{first-push, gone-push, own-push, without-push}
use Rattle.tl_tree.proofs.Numbers.{either}
use Rattle.tl_tree.specs.Inner.Gone.{gone_in, is_first_there, without}
use Rattle.tl_tree.proofs.gaps.Gaps.lengthen.Goals as goal

pub invariant_of-self : goal.invariant_of-self
invariant_of-self c =
    let r = c.loop-self.self in
    let xs = r.marks.items in
    record {
      first = either (λ (ys : List Bool). IsTrue (is_first_there ys)) (is_ok c.push.result) (xs ++ false ∷ []) xs c.push.new.self.items c.push.ensures.items (first-push xs r.first) r.first;
      counted = either (λ (ys : List Bool). gone_in ys ≡ r.count) (is_ok c.push.result) (xs ++ false ∷ []) xs c.push.new.self.items c.push.ensures.items (gone-push xs ∙ r.counted) r.counted;
    }

pub loop-self-preserved : goal.loop-self-preserved
loop-self-preserved c =
    let xs = c.loop-self.self.marks.items in
    let own = c.loop-self.self.marks.ok.0 in
    let test = c.loop-self-test.true in
    let le : length xs ≤ c.args.place = omega arith in
    let many = ap length c.in_ok-push.ensures.items in
    let sum = length-append xs (false ∷ []) in
    let len = c.loop-self.invariant.len in
    record {
      own = ap (λ (all : List Bool). get_or all c.args.place false) c.in_ok-push.ensures.items ∙ (own-push xs c.args.place le ∙ c.loop-self.invariant.own);
      without = ap (without c.args.place) c.in_ok-push.ensures.items ∙ (without-push xs c.args.place le ∙ c.loop-self.invariant.without);
      len = omega arith;
    }
