use Rattle.std.proofs.Common.{ap, arith, refl, sym, take, ◌-◌, ◌∙◌}
use Rattle.std.proofs.lemmas.List.{take_all}
use Rattle.tl_tree.proofs.Tallies.{front-kept}
use Rattle.tl_tree.specs.Inner.Active.{seen}
use Rattle.tl_tree.proofs.active.ActiveList.clear_to_last_marker.Goals as goal

pub loop-self-init : goal.loop-self-init
loop-self-init c = record { front = refl; number = refl; tag = refl; tallied = λ t. t }

pub loop-self-preserved : goal.loop-self-preserved
loop-self-preserved c =
    let l = c.loop-self.self in
    let some = c.loop-self-test.true in
    let front = c.loop-self.invariant.front in
    record {
      front = ap (take c.count_before_marker-count.result) c.remove.ensures.entries ∙ (front-kept c.count_before_marker-count.result (c.len-last.result - 1) l.entries.items (omega (arith, c.len-last.ensures, l.entries.ok.0)) ∙ front);
      number = c.remove.ensures.number ∙ c.loop-self.invariant.number;
      tag = c.remove.ensures.tag ∙ c.loop-self.invariant.tag;
      tallied = λ t. c.remove.ensures.tallied (c.loop-self.invariant.tallied t);
    }

pub returns-clause-active : goal.returns-clause-active
returns-clause-active c = λ s.
    let l = c.loop-self.self in
    let count = c.count_before_marker-count.result in
    let end = c.loop-self-test.false in
    ap (seen s) (sym (take_all count l.entries.items (omega arith)) ∙ c.loop-self.invariant.front) ∙ sym (c.count_before_marker-count.ensures s)
