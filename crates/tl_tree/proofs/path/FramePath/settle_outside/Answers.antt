use Rattle.std.proofs.Common.{IsTrue, List, arith, drop, subst, sym, ◌++◌, ◌∙◌, ℕ}
use Rattle.std.specs.List.{list_all}
use Rattle.tl_tree.proofs.Gone.{whole-by}
use Rattle.tl_tree.proofs.Listed.{all-drop}
use Rattle.tl_tree.proofs.Numbers.{distinct-settled}
use Rattle.tl_tree.proofs.Outer.{aside-within, settled-outside}
use Rattle.tl_tree.specs.Inner.Adopted.{is_inside}
use Rattle.tl_tree.specs.Inner.Framed.{are_distinct, is_before, is_here}
use Rattle.tl_tree.specs.declared.frame.Frame.{Frame}
use Rattle.tl_tree.proofs.path.FramePath.settle_outside.Goals as goal

pub put_back-requires-clause-within : goal.put_back-requires-clause-within
put_back-requires-clause-within c =
    let p = c.args.self.now in
    aside-within p c.set_aside.new.self c.settle_to.new.self c.args.place c.deref.result.now c.set_aside.ensures.store c.settle_to.ensures.grows (c.deref.ensures.value ∙ c.in_ok-aside.ensures.aside)

pub put_back-requires-clause-distinct : goal.put_back-requires-clause-distinct
put_back-requires-clause-distinct c =
    let p = c.args.self.now in
    let q = c.settle_to.new.self in
    subst (λ (frames : List Frame). IsTrue (are_distinct (q.frames.items ++ frames))) (sym (c.deref.ensures.value ∙ c.in_ok-aside.ensures.aside))
    (distinct-settled (is_inside c.args.number) c.args.place p.frames.items c.set_aside.new.self q (whole-by p c.set_aside.new.self c.set_aside.ensures.gaps c.requires.whole) (c.settle_to.ensures.whole (whole-by p c.set_aside.new.self c.set_aside.ensures.gaps c.requires.whole)) p.distinct c.in_ok-aside.ensures.kept c.in_ok-settle_to.ensures.ok)

pub put_back-requires-clause-numbered : goal.put_back-requires-clause-numbered
put_back-requires-clause-numbered c =
    let p = c.args.self.now in
    let q = c.settle_to.new.self in
    let inner = drop c.args.place p.frames.items in
    let next = c.settle_to.ensures.next ∙ c.set_aside.ensures.next in
    subst (λ (frames : List Frame). IsTrue (list_all (is_before q.next) frames)) (sym (c.deref.ensures.value ∙ c.in_ok-aside.ensures.aside))
    (subst (λ (n : ℕ). IsTrue (list_all (is_before n) inner)) (sym next) (all-drop (is_before p.next) c.args.place p.frames.items p.numbered))

pub returns-clause-frames : goal.returns-clause-frames
returns-clause-frames c =
    let p = c.args.self.now in
    let own = c.settle_to.new.self.frames.ok.0 in
    settled-outside p c.set_aside.new.self c.settle_to.new.self c.put_back.new.self c.set_place.new.self c.args.place c.len-outer.result c.deref.result.now (is_inside c.args.number) c.args.is_fostering c.place_in-target.result
    (whole-by p c.set_aside.new.self c.set_aside.ensures.gaps c.requires.whole) (c.settle_to.ensures.whole (whole-by p c.set_aside.new.self c.set_aside.ensures.gaps c.requires.whole)) c.in_ok-aside.ensures.kept c.set_aside.ensures.store (c.deref.ensures.value ∙ c.in_ok-aside.ensures.aside) c.in_ok-settle_to.ensures.ok c.settle_to.ensures.grows c.place_in-target.ensures (omega arith) c.in_ok-put_back.ensures.frames c.put_back.ensures.store c.set_place.ensures.frames

pub put_back-requires-clause-near : goal.put_back-requires-clause-near
put_back-requires-clause-near c =
    subst (λ (frames : List Frame). IsTrue (list_all is_here (drop c.placed_behind-placed.result frames))) (sym (c.deref.ensures.value ∙ c.in_ok-aside.ensures.aside)) c.placed_behind-placed.ensures.near

pub put_back-requires-clause-small : goal.put_back-requires-clause-small
put_back-requires-clause-small c =
    let within = c.placed_behind-placed.ensures.within in
    let own = c.args.self.now.frames.ok.0 in
    let small = c.args.self.now.frames.small in
    omega arith

pub put_back-requires-clause-whole : goal.put_back-requires-clause-whole
put_back-requires-clause-whole c =
    c.settle_to.ensures.whole (whole-by c.args.self.now c.set_aside.new.self c.set_aside.ensures.gaps c.requires.whole)
