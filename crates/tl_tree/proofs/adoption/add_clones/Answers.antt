use Rattle.std.proofs.Common.{ap, arith, length, sym, ◌-◌, ◌∙◌}
use Rattle.tl_dom_spec.specs.Adoption.{cloned}
use Rattle.tl_dom_spec.specs.Path as dom
use Rattle.tl_tree.proofs.Cloned.{between, between-other, between-own, frame-outside, made-ends, made-more}
use Rattle.tl_tree.proofs.Furthest.{frame-there}
use Rattle.tl_tree.proofs.Gone.{whole-by}
use Rattle.tl_tree.specs.Inner.Active.{active_of}
use Rattle.tl_tree.specs.Inner.Adopted.{with_element}
use Rattle.tl_tree.specs.declared.store.Store.{Store}
use Rattle.tl_tree.proofs.adoption.add_clones.Goals as goal

pub returns-then-index-number-clause-ok : goal.returns-then-index-number-clause-ok
returns-then-index-number-clause-ok c =
    let p = c.args.path.now in
    let q = c.loop-left.path in
    let n = c.loop-left.left - 1 in
    let f = c.index.result.now in
    let few = c.loop-left.invariant.few in
    let len = c.loop-left.invariant.len in
    let some = c.loop-left-test.true in
    let within = c.requires.block in
    let there = frame-there q n f c.index.ensures (omega arith) in
    let same = frame-outside c.args.block n p q _ _ 0 _ c.loop-left.invariant.so_far (omega arith) within in
    let is = sym same ∙ there in
    let own = ap (λ (o : dom.Frame). o.number) is ∙ c.if-index-number.true in
    let none = between-own c.args.number p n c.loop-left.left (omega arith) (omega arith) own in
    made-ends c.args.block p q _ _ _ 0 _ c.loop-left.invariant.so_far
    (ap (λ fs. cloned c.loop-left.between.seen fs (active_of q.store c.loop-left.active) q.next) none)

pub loop-left-preserved : goal.loop-left-preserved
loop-left-preserved c =
    let p = c.args.path.now in
    let q = c.loop-left.path in
    let n = c.loop-left.left - 1 in
    let f = c.index.result.now in
    let few = c.loop-left.invariant.few in
    let len = c.loop-left.invariant.len in
    let least = c.loop-left.invariant.more in
    let further = c.clone_at.ensures.more in
    let longer = c.in_ok-between.ensures.len in
    let more = c.in_ok-between.ensures.few in
    let some = c.loop-left-test.true in
    let within = c.requires.block in
    let there = frame-there q n f c.index.ensures (omega arith) in
    let same = frame-outside c.args.block n p q _ _ 0 _ c.loop-left.invariant.so_far (omega arith) within in
    let other = between-other c.args.number p n c.loop-left.left (omega arith) (omega arith) (λ e. c.if-index-number.false (sym (ap (λ (o : dom.Frame). o.number) (sym same ∙ there)) ∙ e)) in
    let is = other ∙ ap (λ (o : dom.Frame). with_element o (between c.args.number p n)) (sym same) in
    record {
      few = omega arith;
      made = c.in_ok-between.ensures.made;
      len = omega arith;
      so_far =
          made-more c.args.block p q c.clone_at.new.path _ _ _ 0 _ _ within
          (made-ends c.args.block p q _ _ _ 0 _ c.loop-left.invariant.so_far
          (ap (λ fs. cloned c.loop-left.between.seen fs (active_of q.store c.loop-left.active) q.next) is))
          (c.in_ok-between.ensures.ok (between c.args.number p n));
      gaps = c.clone_at.ensures.gaps ∙ c.loop-left.invariant.gaps;
      store = c.clone_at.ensures.store ∙ c.loop-left.invariant.store;
      more = omega arith;
      numbered = c.clone_at.ensures.numbered;
      tag = c.clone_at.ensures.tag ∙ c.loop-left.invariant.tag;
      tallied = c.clone_at.ensures.tallied;
    }

pub clone_at-requires-clause-listed : goal.clone_at-requires-clause-listed
clone_at-requires-clause-listed c =
    let own = c.requires.listed in
    let tag = c.loop-left.invariant.tag in
    let many = ap (λ (s : Store). length s.tags.items) c.loop-left.invariant.store in
    omega arith

pub clone_at-requires-clause-whole : goal.clone_at-requires-clause-whole
clone_at-requires-clause-whole c =
    whole-by c.args.path.now c.loop-left.path c.loop-left.invariant.gaps c.requires.whole
